use Rattle.bpf_object.proofs.TakenLemmas.{among_sorted}
use Rattle.bpf_object.proofs.taken_names.is_among.Goals as goal

pub returns : goal.returns
returns c =
    rw c.is_ok.ensures.value (among_sorted c.args.names.now c.args.name c.binary_search.result c.requires c.binary_search.ensures.bound c.binary_search.ensures.position)
