-- Sorting moves the names.
use Rattle.std.proofs.Common.{rules}
use Rattle.bpf_object.proofs.NameLists.{names_moved, names_rise, sorted_names}
use Rattle.bpf_object.proofs.name_ranks.sorted_names.Goals as goal

pub returns-clause-are : goal.returns-clause-are
returns-clause-are g c =
    names_moved c.args.strings.now c.args.offsets.now c.in_ok-names.names.items c.sort_by.new.self.items c.sort_by.ensures.permutation c.in_ok-names.ensures

pub returns-clause-rise : goal.returns-clause-rise
returns-clause-rise g c =
    let strings = c.args.strings.now in
    let names = c.sort_by.new.self.items in
    let are = names_moved strings c.args.offsets.now c.in_ok-names.names.items names c.sort_by.ensures.permutation c.in_ok-names.ensures in
    names_rise strings names (sorted_names strings names c.in_ok-sort_by.ensures.sorted (λ a r q k. search rules)) are.ends
