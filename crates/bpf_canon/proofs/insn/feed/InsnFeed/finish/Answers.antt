use Rattle.std.proofs.Common.{arith, ◌≡◌, ◌<◌, ◌≤◌, ◌∙◌, ◌+◌, ◌-◌, ◌%◌, ℕ, ap, subst, sym, length, Result}
use Rattle.std.proofs.lemmas.{Bool.Decides.nat_tests, List.length-take-le}
use Rattle.bpf_insn.specs.declared.fault.SlotFault.{SlotFault}
use Rattle.bpf_canon.specs.insn.{FeedState.FeedState, FeedState.missing_offset, FeedStream.Finishes, FeedStream.Represents}
use Rattle.bpf_canon.proofs.InsnLemmas.FeedLemmas.{ends, end-cut}
use Rattle.bpf_canon.specs.contracts.insn.feed.InsnFeed.{the_view}
use Rattle.bpf_canon.proofs.insn.feed.InsnFeed.finish.Goals as goal

-- the incomplete slot begins after the last whole slot
slot_offset : (fed held_len : ℕ) → held_len < 16 → held_len ≤ fed → fed - held_len % 8 ≡ fed - held_len + missing_offset held_len
slot_offset fed held_len short within = grind (arith, nat_tests)

pub returns-in-None-2-clause-answer : goal.returns-in-None-2-clause-answer
returns-in-None-2-clause-answer c = λ o to b h.
    let s = the_view c.self.inside in
    let P : FeedState → Type 0 = λ x. Represents x o to b in
    let size : length s.held ≡ c.self.inside.held_len = length-take-le c.self.inside.held_len c.self.inside.held (omega (arith, c.self.invariant.short)) in
    let text_offset : c.self.inside.fed - c.self.inside.held_len % 8 ≡ s.fed - length s.held + missing_offset (length s.held) =
    slot_offset c.self.inside.fed c.self.inside.held_len c.self.invariant.short (omega (arith, c.self.invariant.counted))
    ∙ ap (λ n. c.self.inside.fed - n + missing_offset n) (sym size) in
    let end = end-cut s.fed s.count _ s.held s.fault c.in-None-2.is (omega (arith, size, c.if-self-eq0.false)) text_offset in
    let Q : Result ℕ SlotFault → Type 0 = λ r. Finishes o b r in
    subst Q (sym end) (ends s o to b (omega (arith, size, c.self.invariant.counted)) c.self.invariant.cut (subst P (sym c.self.view_is) h))
