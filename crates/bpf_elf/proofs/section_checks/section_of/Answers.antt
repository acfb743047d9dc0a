use Rattle.std.proofs.Common.{sym, ◌∙◌, arith}
use Rattle.bpf_elf.specs.{Kinds.is_kind, Sections.kind}
use Rattle.bpf_elf.proofs.RuleLemmas.{first_of_none, first_of_found}
use Rattle.bpf_elf.proofs.SectionLemmas.{not_zero, false_more}
use Rattle.bpf_elf.proofs.section_checks.section_of.Goals as goal

pub returns-then-is_kind : goal.returns-then-is_kind
returns-then-is_kind c =
    let here = sym c.is_kind.ensures ∙ c.if-is_kind.true in
    let some = not_zero c.args.bytes.now c.args.wanted c.loop-i.i (rw c.kind.ensures at here) in
    sym (first_of_found c.args.n c.loop-i.i (λ i. is_kind c.args.wanted (kind c.args.bytes.now i)) c.loop-i-test.true c.loop-i.invariant (rw c.kind.ensures at here) some)

pub loop-i-preserved : goal.loop-i-preserved
loop-i-preserved c =
    let here = sym c.is_kind.ensures ∙ c.if-is_kind.false in
    false_more c.args.bytes.now c.args.wanted c.loop-i.i c.loop-i.invariant (rw c.kind.ensures at here)

pub returns : goal.returns
returns c = sym (first_of_none c.args.n (λ i. is_kind c.args.wanted (kind c.args.bytes.now i)) (λ k lt. c.loop-i.invariant k (omega (arith, lt, c.loop-i-test.false))))
