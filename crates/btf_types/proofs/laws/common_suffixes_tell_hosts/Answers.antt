use Rattle.btf_types.proofs.StringLemmas.CommonSuffixes.{ranks_are_together, first_rank_ends, rank_has_host}
use Rattle.btf_types.proofs.laws.common_suffixes_tell_hosts.Goals as goal

pub returns : goal.returns
returns c = record { together = ranks_are_together; first = first_rank_ends; host = rank_has_host }
