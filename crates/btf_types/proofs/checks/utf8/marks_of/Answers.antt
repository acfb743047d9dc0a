use Rattle.std.proofs.Common.{ℕ, subst, arith}
use Rattle.btf_types.proofs.CheckLemmas.Marks.{AreMarksFrom, char_marked, no_char_marked, all_marked}
use Rattle.btf_types.proofs.checks.utf8.marks_of.Goals as goal

pub loop-at-preserved-then-begins_char : goal.loop-at-preserved-then-begins_char
loop-at-preserved-then-begins_char g c =
    let l = c.loop-at in
    char_marked c.args.strings.now l.at l.next l.rest c.is_utf8_with-rest.result l.marks.items l.invariant c.loop-at-test.true
    (c.begins_char.ensures.0 c.if-begins_char.true) c.is_utf8_with-rest.ensures

pub loop-at-preserved : goal.loop-at-preserved
loop-at-preserved g c =
    let l = c.loop-at in
    let none = c.if-begins_char.false in
    no_char_marked c.args.strings.now l.at l.next l.rest l.marks.items c.requires l.invariant c.loop-at-test.true
    (λ begins. let is = c.begins_char.ensures.1 begins in absurd cc)

pub returns : goal.returns
returns g c =
    let l = c.loop-at in
    let first = c.loop-at-test.false in
    all_marked c.args.strings.now l.next l.rest l.marks.items (subst (λ (n : ℕ). AreMarksFrom c.args.strings.now n l.next l.rest l.marks.items) (omega arith) l.invariant)
