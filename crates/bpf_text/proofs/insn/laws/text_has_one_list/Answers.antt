use Rattle.bpf_text.proofs.InsnLemmas.OneInsn.{one_listing}
use Rattle.bpf_text.proofs.insn.laws.text_has_one_list.Goals as goal

pub returns : goal.returns
returns c = one_listing
