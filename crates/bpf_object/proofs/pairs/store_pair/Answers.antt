use Rattle.std.proofs.Common.{length, ap, ◌∙◌}
use Rattle.std.specs.Prelude.{is_some}
use Rattle.bpf_object.proofs.PairLemmas.{pair_updated}
use Rattle.bpf_object.proofs.pairs.store_pair.Goals as goal

pub returns-clause-stored : goal.returns-clause-stored
returns-clause-stored g c =
    pair_updated c.args.by_name.now c.insert.new.self c.args.name.now c.args.pair
    (λ y. c.in_ok-before.ensures.updates.0 (length y, record { ref_ptr = (0, 0); now = y }))

pub returns-clause-before : goal.returns-clause-before
returns-clause-before g c = c.is_some.ensures ∙ ap (λ o. is_some o) c.in_ok-before.ensures.old
