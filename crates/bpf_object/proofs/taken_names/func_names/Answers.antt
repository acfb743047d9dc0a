use Rattle.std.proofs.Common.{◌≡◌, map}
use Rattle.btf_raw.specs.KindNumbers.{FUNC}
use Rattle.bpf_object.specs.private.NameRanks.{name_key}
use Rattle.bpf_object.specs.private.TakenNames.{key_of}
use Rattle.bpf_object.proofs.TakenLemmas.{names_inside, are_func_names}
use Rattle.bpf_object.proofs.taken_names.func_names.Goals as goal

pub names_at-requires-clause-there : goal.names_at-requires-clause-there
names_at-requires-clause-there g c =
    rw (c.deref.ensures.value, c.strings.ensures.is) (names_inside c.args.sections.now c.in_ok-offsets.offsets.items FUNC c.strings.ensures.table c.in_ok-offsets.ensures)

pub returns : goal.returns
returns g c =
    let s = c.args.sections.now in
    let keys : map key_of c.in_ok-names.names.items ≡ map (name_key s.strings) c.in_ok-offsets.offsets.items = rw (c.strings.ensures.is, c.deref.ensures.value) at c.in_ok-names.ensures in
    are_func_names s c.in_ok-offsets.offsets.items c.in_ok-names.names.items c.sort_unstable.new.self.items c.in_ok-offsets.ensures keys c.sort_unstable.ensures.permutation
    c.sort_unstable.ensures.sorted
