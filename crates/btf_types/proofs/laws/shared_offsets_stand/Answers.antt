use Rattle.btf_types.proofs.StringLemmas.TableLaws.{shared_offsets}
use Rattle.btf_types.proofs.laws.shared_offsets_stand.Goals as goal

pub returns : goal.returns
returns c = shared_offsets
