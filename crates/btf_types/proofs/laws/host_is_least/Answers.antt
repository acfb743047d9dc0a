use Rattle.btf_types.proofs.StringLemmas.TableLaws.{host_is_least, host_is_one}
use Rattle.btf_types.proofs.laws.host_is_least.Goals as goal

pub returns : goal.returns
returns c = record { least = host_is_least; one = host_is_one }
