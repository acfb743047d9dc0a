use Rattle.std.proofs.Common.{ℕ, List, ◌++◌, length, sym, subst}
use Rattle.bpf_elf.specs.Numbers.{count}
use Rattle.btf_types.specs.Names.{kept}
use Rattle.bpf_object.specs.declared.fault.ObjectError.{ObjectError}
use Rattle.bpf_object.specs.Canonical.{offset_of}
use Rattle.bpf_object.specs.Denotes.{result_limit}
use Rattle.bpf_object.specs.File.{WrittenSection}
use Rattle.bpf_object.specs.private.FileWriter.{Holds}
use Rattle.bpf_object.specs.private.Names.{Extends}
use Rattle.bpf_object.specs.private.ObjectWriter.{FailsToWrite, section_names, written_first, names_with, both_with, first_written}
use Rattle.bpf_object.specs.private.Written.{content_of}
use Rattle.bpf_object.proofs.ObjectWriterLemmas.{failed_one, writes_both, first_fails}
use Rattle.bpf_object.proofs.object_writer.push_all.Goals as goal

pub returns : goal.returns
returns g c =
    let b = c.args.elf.now in
    let types = content_of c.args.types in
    let extension = content_of c.args.extension in
    writes_both (result_limit (length b)) (section_names b (count b)) (names_with types extension) (written_first b c.args.symtab (count b)) (both_with types extension)
    c.args.names.now c.args.file.now c.push_sections.new.names c.push_both.new.names c.push_sections.new.file c.push_both.new.file c.push_both.result c.requires.limit c.in_ok-push_sections.ensures c.push_both.ensures

pub returns-in_err-push_sections : goal.returns-in_err-push_sections
returns-in_err-push_sections g c all more =
    let b = c.args.elf.now in
    let limit = result_limit (length b) in
    let types = content_of c.args.types in
    let extension = content_of c.args.extension in
    let names = c.args.names.now in
    let file = c.args.file.now in
    failed_one c.from_residual-in_err-push_sections.result _ (λ e. (before : List WrittenSection) → Holds limit before file → FailsToWrite limit all (before ++ first_written b c.args.symtab types extension (offset_of all)) e) _ c.from_residual-in_err-push_sections.ensures.0 c.from_residual-in_err-push_sections.ensures.1
    (λ e is. first_fails limit (section_names b (count b)) (names_with types extension) (written_first b c.args.symtab (count b)) (both_with types extension) names file e
    (subst (λ (f : ObjectError). (any : List (List ℕ)) → Extends any (kept (names.texts ++ section_names b (count b))) → (before : List WrittenSection) → Holds limit before file → FailsToWrite limit any (before ++ written_first b c.args.symtab (count b) (offset_of any)) f) (sym is) c.in_err-push_sections.ensures) all more)
