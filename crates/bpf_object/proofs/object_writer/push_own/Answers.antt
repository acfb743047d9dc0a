use Rattle.std.proofs.Common.{ℕ, List, [], ◌∷◌, ◌++◌, sym, ap, ◌∙◌, subst, refl}
use Rattle.bpf_elf.specs.Kinds.{SHT_PROGBITS}
use Rattle.bpf_object.specs.Canonical.{offset_of, own_section}
use Rattle.bpf_object.specs.File.{WrittenSection}
use Rattle.bpf_object.specs.private.FileWriter.{Holds, section_of}
use Rattle.bpf_object.specs.private.Names.{FailsToAdd}
use Rattle.bpf_object.specs.private.ObjectWriter.{FailsToWrite}
use Rattle.bpf_object.proofs.ObjectWriterLemmas.{fails_added, failed_one, offset_there, pushed_one}
use Rattle.bpf_object.proofs.object_writer.push_own.Goals as goal

pub returns : goal.returns
returns g c all more =
    let x = c.args.name.now in
    let section : ℕ → WrittenSection = λ n. own_section n SHT_PROGBITS c.args.content.now 0 0 4 0 in
    let offset = c.in_ok-name_offset.name_offset in
    let adds = c.in_ok-name_offset.ensures in
    pushed_one c.args.names.now.limit all c.args.names.now c.text.new.self x offset c.args.file.now c.push.new.self (section_of c.own_header-header.result c.args.content.now) (section (offset_of all x)) c.push.result adds
    (c.own_header-header.ensures ∙ ap section (offset_there c.args.names.now c.text.new.self x offset all adds more)) (c.push.ensures c.args.names.now.limit)

pub returns-in_err-name_offset : goal.returns-in_err-name_offset
returns-in_err-name_offset g c all more =
    let limit = c.args.names.now.limit in
    let x = c.args.name.now in
    let w = own_section (offset_of all x) SHT_PROGBITS c.args.content.now 0 0 4 0 in
    failed_one c.from_residual.result _ (λ e. (before : List WrittenSection) → Holds limit before c.args.file.now → FailsToWrite limit all (before ++ w ∷ []) e) _ c.from_residual.ensures.0 c.from_residual.ensures.1
    (λ e is before h. fails_added limit all c.args.names.now x (before ++ w ∷ []) e refl more (subst (FailsToAdd c.args.names.now x) (sym is) c.in_err-name_offset.ensures))
