use Rattle.std.proofs.Common.{◌≡◌, ◌++◌, take}
use Rattle.std.specs.List.{flat_map}
use Rattle.btf_types.specs.Names.{with_nul}
use Rattle.bpf_canon.specs.btf.names.Interned.{borrowed_texts}
use Rattle.bpf_object.proofs.names.push_all.Given as goal

abbrev pub invariant-loop-text : goal.invariant-loop-text
invariant-loop-text g l = l.out.items ≡ l.initial.out.items ++ flat_map with_nul (borrowed_texts (take l.text-index l.texts))
