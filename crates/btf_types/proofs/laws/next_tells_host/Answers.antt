use Rattle.btf_types.proofs.StringLemmas.TableLaws.{next_tells_host}
use Rattle.btf_types.proofs.laws.next_tells_host.Goals as goal

pub returns : goal.returns
returns c = next_tells_host
