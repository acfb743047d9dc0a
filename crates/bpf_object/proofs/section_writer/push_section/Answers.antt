use Rattle.std.proofs.Common.{◌≡◌, ℕ, List, [], ◌∷◌, ◌++◌, sym, ap, ◌∙◌, subst, length}
use Rattle.bpf_elf.specs.Numbers.{names, order_of}
use Rattle.bpf_elf.specs.{Names.string_at, Sections.content, Sections.name}
use Rattle.bpf_object.specs.Denotes.{result_limit}
use Rattle.bpf_object.specs.Canonical.{offset_of, written_section}
use Rattle.bpf_object.specs.private.FileWriter.{Holds, section_of}
use Rattle.bpf_object.specs.Kept.{kept_section}
use Rattle.bpf_object.specs.private.Names.{Adds, FailsToAdd}
use Rattle.bpf_object.specs.File.{WrittenSection}
use Rattle.bpf_object.specs.private.ObjectWriter.{FailsToWrite}
use Rattle.bpf_object.specs.private.Tables.{kept_content}
use Rattle.bpf_object.proofs.ObjectWriterLemmas.{fails_added, failed_one, offset_there, pushed_one}
use Rattle.bpf_object.proofs.section_writer.push_section.Goals as goal

pub returns : goal.returns
returns g c all more =
    let b = c.args.elf.now in
    let i = c.args.i in
    let read : string_at c.args.names.now.source c.section-section.result.name_offset ≡ name b i =
    ap (λ (s : List ℕ). string_at s c.section-section.result.name_offset) c.requires.source ∙ ap (string_at (content b (names b))) c.section-section.ensures.fields.name_offset in
    let adds = subst (λ (x : List ℕ). Adds c.args.names.now c.at.new.self x c.in_ok-name_offset.name_offset) read c.in_ok-name_offset.ensures in
    pushed_one (result_limit (length c.args.elf.now)) all c.args.names.now c.at.new.self (name b i) c.in_ok-name_offset.name_offset c.args.file.now c.push_content.new.file (section_of c.new_header-header.result (kept_content b i))
    (written_section (order_of b) (offset_of all) c.args.symtab (kept_section b i)) c.push_content.result adds
    (c.new_header-header.ensures (offset_of all) (offset_there c.args.names.now c.at.new.self (name b i) c.in_ok-name_offset.name_offset all adds more)) (c.push_content.ensures (result_limit (length c.args.elf.now)))

pub returns-in_err-name_offset : goal.returns-in_err-name_offset
returns-in_err-name_offset g c all more =
    let b = c.args.elf.now in
    let i = c.args.i in
    let read : string_at c.args.names.now.source c.section-section.result.name_offset ≡ name b i =
    ap (λ (s : List ℕ). string_at s c.section-section.result.name_offset) c.requires.source ∙ ap (string_at (content b (names b))) c.section-section.ensures.fields.name_offset in
    let w = written_section (order_of b) (offset_of all) c.args.symtab (kept_section b i) in
    failed_one c.from_residual.result _ (λ e. (before : List WrittenSection) → Holds (result_limit (length c.args.elf.now)) before c.args.file.now → FailsToWrite (result_limit (length c.args.elf.now)) all (before ++ w ∷ []) e) _ c.from_residual.ensures.0 c.from_residual.ensures.1
    (λ e is before h. fails_added (result_limit (length c.args.elf.now)) all c.args.names.now (name b i) (before ++ w ∷ []) e c.requires.limit more
    (subst (FailsToAdd c.args.names.now (name b i)) (sym is) (subst (λ (x : List ℕ). FailsToAdd c.args.names.now x c.in_err-name_offset.field-0.0) read c.in_err-name_offset.ensures)))
