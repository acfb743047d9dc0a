use Rattle.std.proofs.Common.{pos, refl}
use Rattle.bpf_text.specs.insn.Operands.{register, number}
use Rattle.bpf_text.proofs.InsnLemmas.ReadOperandLemmas.{none_of_one, passed}
use Rattle.bpf_text.proofs.insn.read_operand.of_one.Goals as goal

pub returns-in-Some : goal.returns-in-Some
returns-in-Some c = (register c.in-Some.register, c.in-Some.ensures.some, refl)

pub returns-in_err-unsigned_number : goal.returns-in_err-unsigned_number
returns-in_err-unsigned_number c =
    rw c.from_residual.ensures (none_of_one c.args.token.now c.in_default.ensures.none c.in_err-unsigned_number.ensures.none)

pub returns : goal.returns
returns c =
    let m = c.in_ok-unsigned_number.ensures.some in (number (pos m.0), (m.0, m.1, refl), passed _ _ m.2)
