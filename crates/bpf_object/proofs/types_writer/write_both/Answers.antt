use Rattle.std.proofs.Common.{◌≡◌, ◌<◌, ◌≤◌, ℕ, List, length, inl, sym, subst, ◌∙◌, arith}
use Rattle.std.specs.List.{All}
use Rattle.bpf_object.specs.declared.extension.Part.TheVariants.{Functions, Relocations}
use Rattle.bpf_object.specs.private.NotedStrings.{HasStrings, text_offset}
use Rattle.bpf_object.specs.Sources.{section}
use Rattle.bpf_object.specs.private.{TypeSteps.numbered, WrittenRecords.renewed}
use Rattle.bpf_object.specs.private.WrittenGroups.{written_extension}
use Rattle.bpf_object.specs.private.WrittenTypes.{written_btf}
use Rattle.bpf_object.proofs.FitLemmas.{names_there, function_strings_there, relocation_strings_there, long_btf, long_extension, without_extension, with_extension}
use Rattle.bpf_object.proofs.types_writer.write_both.Goals as goal

pub write_btf-requires-clause-noted : goal.write_btf-requires-clause-noted
write_btf-requires-clause-noted g c = names_there (renewed c.args.sections.now c.args.ids.now c.args.x.numbers.now) c.args.x c.args.names.now c.requires.strings c.requires.names

pub returns-in_default : goal.returns-in_default
returns-in_default g c =
    let w = renewed c.args.sections.now c.args.ids.now c.args.x.numbers.now in
    let long : c.min-short.result < length (written_btf c.args.x.order w c.args.names.now) = rw c.in_default.is at c.in_ok-types.ensures in
    inl (rw c.min-short.ensures at (long_btf w (section c.args.x) (numbered c.args.x.numbers.now) (sym c.requires.strings) c.requires.writable.table c.args.names.now c.requires.names c.min-short.result long))

pub returns-then-not-has_extension : goal.returns-then-not-has_extension
returns-then-not-has_extension g c =
    let w = renewed c.args.sections.now c.args.ids.now c.args.x.numbers.now in
    let btf : (length (written_btf c.args.x.order w c.args.names.now) ≤ c.min-short.result) × (c.in-Some.types.items ≡ written_btf c.args.x.order w c.args.names.now) =
    rw c.in-Some.is at c.in_ok-types.ensures in
    without_extension w (section c.args.x) (numbered c.args.x.numbers.now) (sym c.requires.strings) c.requires.writable.table c.args.names.now c.requires.names c.args.functions.now c.args.relocations.now
    c.requires.functions.all c.requires.relocations.all c.in-Some.types (sym c.has_extension.ensures ∙ c.if-not-has_extension.true)
    (omega (arith, btf.0, c.min-short.ensures)) btf.1

pub write_extension-requires-clause-function_names : goal.write_extension-requires-clause-function_names
write_extension-requires-clause-function_names g c =
    subst (λ (gs : List ℕ). All (HasStrings c.args.names.now c.args.x Functions) gs) (sym c.requires.functions.all)
    (function_strings_there (renewed c.args.sections.now c.args.ids.now c.args.x.numbers.now) c.args.x c.args.names.now c.requires.strings c.requires.names)

pub write_extension-requires-clause-relocation_names : goal.write_extension-requires-clause-relocation_names
write_extension-requires-clause-relocation_names g c =
    subst (λ (gs : List ℕ). All (HasStrings c.args.names.now c.args.x Relocations) gs) (sym c.requires.relocations.all)
    (relocation_strings_there (renewed c.args.sections.now c.args.ids.now c.args.x.numbers.now) c.args.x c.args.names.now c.requires.strings c.requires.names)

pub returns-in_default-2 : goal.returns-in_default-2
returns-in_default-2 g c =
    let w = renewed c.args.sections.now c.args.ids.now c.args.x.numbers.now in
    let long : c.args.limit < length (written_extension (section c.args.x) (numbered c.args.x.numbers.now) (text_offset c.args.names.now) c.args.functions.now c.args.relocations.now) =
    rw c.in_default-2.is at c.in_ok-extension.ensures in
    long_extension w (section c.args.x) (numbered c.args.x.numbers.now) (sym c.requires.strings) c.requires.writable.table c.args.names.now c.requires.names c.args.functions.now c.args.relocations.now
    c.requires.functions.all c.requires.relocations.all c.args.limit (sym c.has_extension.ensures ∙ c.if-not-has_extension.false) long

pub returns : goal.returns
returns g c =
    let w = renewed c.args.sections.now c.args.ids.now c.args.x.numbers.now in
    let whole = written_extension (section c.args.x) (numbered c.args.x.numbers.now) (text_offset c.args.names.now) c.args.functions.now c.args.relocations.now in
    let btf : (length (written_btf c.args.x.order w c.args.names.now) ≤ c.min-short.result) × (c.in-Some.types.items ≡ written_btf c.args.x.order w c.args.names.now) =
    rw c.in-Some.is at c.in_ok-types.ensures in
    let extension : c.in-Some-2.extension.items ≡ whole = rw c.in-Some-2.is at c.in_ok-extension.ensures in
    with_extension w (section c.args.x) (numbered c.args.x.numbers.now) (sym c.requires.strings) c.requires.writable.table c.args.names.now c.requires.names c.args.functions.now c.args.relocations.now
    c.requires.functions.all c.requires.relocations.all c.in-Some.types c.in-Some-2.extension (sym c.has_extension.ensures ∙ c.if-not-has_extension.false)
    (omega (arith, btf.0, c.min-short.ensures)) btf.1 extension
