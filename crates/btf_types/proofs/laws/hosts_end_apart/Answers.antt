use Rattle.btf_types.proofs.StringLemmas.TableLaws.{hosts_end_apart}
use Rattle.btf_types.proofs.laws.hosts_end_apart.Goals as goal

pub returns : goal.returns
returns c = hosts_end_apart
