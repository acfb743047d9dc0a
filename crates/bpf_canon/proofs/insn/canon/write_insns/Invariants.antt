use Rattle.std.proofs.Common.{take}
use Rattle.bpf_insn.specs.Encoding.{InsnFile}
use Rattle.bpf_canon.proofs.insn.canon.write_insns.Given as goal

abbrev pub invariant-loop-insn : goal.invariant-loop-insn
invariant-loop-insn g l = InsnFile l.fn.order l.bytes.items (take l.insn-index l.insns)
