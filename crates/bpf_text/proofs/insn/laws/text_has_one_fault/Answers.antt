use Rattle.bpf_text.proofs.InsnLemmas.OneFault.{one_fault}
use Rattle.bpf_text.proofs.insn.laws.text_has_one_fault.Goals as goal

pub returns : goal.returns
returns c = one_fault
