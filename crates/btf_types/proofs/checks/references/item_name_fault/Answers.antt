use Rattle.std.proofs.Common.{◌≡◌, true, false, arith}
use Rattle.btf_types.proofs.CheckLemmas.NameSteps.{utf8_fault, no_item_fault}
use Rattle.btf_types.proofs.checks.references.item_name_fault.Goals as goal

pub returns-then-not-is_utf8 : goal.returns-then-not-is_utf8
returns-then-not-is_utf8 c =
    let bad : c.is_utf8.result ≡ false = cc in
    rw (← c.section.view_is) (utf8_fault c.section.inside.strings.now c.args.off c.section.invariant.ends (omega arith) (rw bad at c.is_utf8.ensures))

pub returns : goal.returns
returns c =
    let fine : c.is_utf8.result ≡ true = cc in
    rw (← c.section.view_is) (no_item_fault c.section.inside.strings.now c.args.off (omega arith) (rw fine at c.is_utf8.ensures))
