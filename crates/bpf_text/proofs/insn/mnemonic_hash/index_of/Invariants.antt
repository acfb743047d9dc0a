use Rattle.std.proofs.Common.{◌≡◌, ◌<◌, drop}
use Rattle.bpf_text.specs.insn.MnemonicHash.{hash_from}
use Rattle.bpf_text.proofs.insn.mnemonic_hash.index_of.Given as goal

abbrev pub invariant-loop-b : goal.invariant-loop-b
invariant-loop-b l = record {
  below : l.hash < 0x100000000;
  rest : hash_from l.hash (drop l.b-index l.token) ≡ hash_from 0 l.token;
}
