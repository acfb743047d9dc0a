use Rattle.std.proofs.Common.{Some, ap, ◌∙◌, refl}
use Rattle.bpf_object.specs.{Denotes.types_of, Sources.section}
use Rattle.bpf_object.proofs.{ObjectLemmas.typed_large, ObjectLemmas.typed_file, WritableRecords.are_writable}
use Rattle.bpf_object.proofs.canon.write_typed.Goals as goal

pub write_types-requires-clause-writable : goal.write_types-requires-clause-writable
write_types-requires-clause-writable g c = are_writable (types_of c.args.elf.now) c.args.sections.now c.args.ids.now c.args.x.numbers.now c.requires.keeps.types c.requires.order

pub returns-in_default : goal.returns-in_default
returns-in_default g c =
    let over = rw c.in_default.is at c.in_ok-written.ensures in
    typed_large c.args.elf.now c.args.sections.now c.args.ids.now c.args.x.numbers.now (section c.args.x) c.requires.keeps c.requires.order c.requires.own _ c.result_limit.result c.result_limit.ensures.value
    over (record { pos = refl; cause = refl })

pub returns : goal.returns
returns g c =
    let written = rw c.in-Some.is at c.in_ok-written.ensures in
    typed_file c.args.elf.now c.args.sections.now c.args.ids.now c.args.x.numbers.now (section c.args.x) c.requires.keeps c.requires.order c.requires.own (λ out. out.items) _ _ c.write_object.result
    (written.fit, (ap Some (c.as_slice.ensures.value ∙ written.types), c.content-extension.ensures ∙ written.extension)) c.write_object.ensures
