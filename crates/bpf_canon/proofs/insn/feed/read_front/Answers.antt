use Rattle.std.proofs.Common.{rules, arith, ◌≡◌, ◌≢◌, ◌∙◌, ◌++◌, ℕ, List, [], length, take, ap, sym, subst}
use Rattle.std.proofs.lemmas.List.{length-take}
use Rattle.bpf_insn.specs.Encoding.{InsnFile}
use Rattle.bpf_canon.proofs.InsnLemmas.FrontLaws.{length-file_same}
use Rattle.bpf_canon.proofs.InsnLemmas.ReadingLemmas.{front_recoded}
use Rattle.bpf_canon.proofs.InsnLemmas.Recoding.{appended_part, appended_in_place, file_slots, slots_file, slots_of_file}
use Rattle.bpf_canon.proofs.insn.feed.read_front.Goals as goal

pub returns-then-ne-clause-read : goal.returns-then-ne-clause-read
returns-then-ne-clause-read g c =
    let bytes : List ℕ = take c.insn_front-read.result.len c.args.bytes.now in
    let old : List ℕ = c.args.out.now.items in
    let fits = c.extend_from_slice.ensures.succeeds (omega (arith, length-take c.insn_front-read.result.len c.args.bytes.now, c.requires, c.insn_front-read.ensures.front.within)) in
    let items : c.extend_from_slice.new.self.items ≡ old ++ bytes = rw fits at c.extend_from_slice.ensures.items in
    let all : c.deref_mut.result.now ≡ old ++ bytes = c.deref_mut.ensures.value ∙ items in
    let start : c.len-start.result ≡ length old = omega (arith, c.args.out.now.ok.0, c.len-start.ensures) in
    let part = appended_part old bytes c.deref_mut.result.now c.len-start.result all start in
    let other : c.args.order ≢ c.args.to = search rules in
    front_recoded _ _ _ _ _ _ c.insn_front-read.ensures.front (λ insns file.
    let P : List ℕ → Type 0 = λ s. InsnFile c.args.order s insns in
    let swapped = slots_file c.args.to c.swap_slots.new.bytes insns (c.swap_slots.ensures c.args.order c.args.to (slots_of_file insns) [] other (file_slots c.args.order _ insns (subst P (sym part) file))) in
    let size : length c.swap_slots.new.bytes ≡ length bytes = omega (arith, ap length swapped, length-file_same c.args.to c.args.order insns, ap length file.1) in
    appended_in_place old bytes c.deref_mut.result.now c.swap_slots.new.bytes _ c.len-start.result c.extend_from_slice.new.self.len all start (sym c.deref_mut.ensures.len) size
    ∙ ap (λ (s : List ℕ). old ++ s) swapped)
