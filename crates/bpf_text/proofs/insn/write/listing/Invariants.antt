use Rattle.std.proofs.Common.{◌≡◌, ℕ, ◌<◌, take, get_or}
use Rattle.bpf_insn.specs.{declared.insn.Insn.Insn, Table.IsInsn}
use Rattle.bpf_text.specs.insn.Lines.{listing_of}
use Rattle.bpf_text.proofs.insn.write.listing.Given as goal

abbrev pub invariant-loop-insn : goal.invariant-loop-insn
invariant-loop-insn g l = record {
  written : l.text.items ≡ listing_of (take l.insn-index l.insns);
  in_range : (k : ℕ) (d : Insn) → k < l.insn-index → IsInsn (get_or l.insns k d);
}
