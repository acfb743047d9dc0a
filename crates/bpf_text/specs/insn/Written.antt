-- The operands that the writer's values represent.
use Rattle.std.specs.Prelude.{pos}
use Rattle.bpf_text.specs.declared.insn.write.WrittenOperand.{WrittenOperand as Written}
use Rattle.bpf_text.specs.declared.insn.write.WrittenOperand.TheVariants.{Register, Number, Unsigned, Signed, Memory}
use Rattle.bpf_text.specs.insn.Operands.{LineOperand, register, number, signed, memory}

-- the operand that the writer writes
abbrev pub operand_written : Written → LineOperand
operand_written (Register r) = register r
operand_written (Number k) = number k
operand_written (Unsigned n) = number (pos n)
operand_written (Signed k) = signed k
operand_written (Memory r o) = memory r o
