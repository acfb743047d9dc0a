use Rattle.std.proofs.Common.{◌<◌, length, arith, subst, sym, ap}
use Rattle.bpf_canon.specs.btf.strings.FirstUses.{Noted, HaveMarks}
use Rattle.bpf_canon.proofs.BtfLemmas.Strings.MarkSteps.{marked_one}
use Rattle.bpf_canon.proofs.btf.strings.used_offsets.FirstUses.note.Goals as goal

pub invariant_of-self-then-not-is_marked : goal.invariant_of-self-then-not-is_marked
invariant_of-self-then-not-is_marked g c =
    let i = c.self.inside in
    let inside : c.args.off < length i.strings.now = omega (arith, c.requires, ap (λ (n : Noted). length n.strings) c.self.view_is) in
    subst (HaveMarks (length i.strings.now) _) (sym c.in_ok-push.ensures.items) (marked_one (length i.strings.now) c.args.off c.index_mut.result.now i.marks.items i.offsets.items c.self.invariant inside c.index_mut.ensures.value)
