-- The first names are noted.
use Rattle.bpf_object.proofs.RankLemmas.{AreUpTo}
use Rattle.bpf_object.proofs.name_ranks.NameRanks.new.Given as goal

abbrev pub invariant-loop-name : goal.invariant-loop-name
invariant-loop-name g l = AreUpTo l.strings l.name-items l.name-index l.ranks
