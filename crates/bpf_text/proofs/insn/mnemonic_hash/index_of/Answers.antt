use Rattle.std.proofs.Common.{refl, arith, ◌/◌}
use Rattle.bpf_text.specs.declared.insn.mnemonic_hash.TheConstants.{INDEX_BY_HASH}
use Rattle.bpf_text.proofs.InsnLemmas.HashIndices.{all_within}
use Rattle.bpf_text.proofs.insn.mnemonic_hash.index_of.Goals as goal

-- each of the 512 entries is compared, by computation
pub returns-clause-within : goal.returns-clause-within
returns-clause-within c = omega (arith, all_within INDEX_BY_HASH 119 refl (c.loop-b.hash / 0x800000))
