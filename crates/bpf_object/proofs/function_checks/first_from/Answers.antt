use Rattle.std.proofs.Common.{ℕ, ◌+◌, ◌-◌, ◌<◌, ◌/◌, ◌≡◌, inl, inr, subst, arith}
use Rattle.std.proofs.lemmas.Bool.{cases_lt}
use Rattle.bpf_object.specs.Extension.{group_count}
use Rattle.bpf_object.specs.Lines.{insn_off}
use Rattle.bpf_object.specs.Sources.{section}
use Rattle.bpf_object.proofs.TestLemmas.{above}
use Rattle.bpf_object.proofs.function_checks.first_from.Goals as goal

pub loop-low-preserved-then-insn_off-off : goal.loop-low-preserved-then-insn_off-off
loop-low-preserved-then-insn_off-off c =
    let x = section c.args.x in
    let offs = insn_off x c.args.part c.args.group in
    let m = c.loop-low.low + (c.loop-low.high - c.loop-low.low) / 2 in
    let inside = c.loop-low.invariant.inside in
    let test = c.loop-low-test.true in
    let here : offs m < c.args.off = rw c.insn_off.ensures at c.if-insn_off-off.true in
    let below : m < c.loop-low.high = omega (arith, test) in
    record {
      ordered = omega (arith, below);
      inside = inside;
      before = λ k lt. elim (cases_lt k m) [
        | inl less ↦ let lower = above (group_count x c.args.group) offs c.requires.ascend k m less (omega (arith, below, inside)) in omega (arith, lower, here)
        | inr from ↦
            let same : m ≡ k = omega (arith, lt, from) in
            subst (λ (i : ℕ). offs i < c.args.off) same here
      ];
      found = c.loop-low.invariant.found;
    }
