use Rattle.btf_types.proofs.StringLemmas.TableLaws.{names_end_strings}
use Rattle.btf_types.proofs.laws.names_end_strings.Goals as goal

pub returns : goal.returns
returns c = names_end_strings
