use Rattle.btf_types.proofs.CheckLemmas.FaultLaws.{cut_is_checked, framing_is_checked, fields_are_checked, no_fault_is_accepted}
use Rattle.btf_types.proofs.laws.no_fault_is_accepted.Goals as goal

pub returns : goal.returns
returns c = record { whole = no_fault_is_accepted; cut = cut_is_checked; framing = framing_is_checked; fields = fields_are_checked }
