use Rattle.bpf_object.proofs.extension_file.write_extension.Goals as goal

pub part_of-requires-2-clause-names : goal.part_of-requires-2-clause-names
part_of-requires-2-clause-names g c =
    λ k d lt. let has = c.requires.function_names k d lt in record { strings = has.strings; noted = has.noted }
