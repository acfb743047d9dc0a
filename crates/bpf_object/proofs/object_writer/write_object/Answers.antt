use Rattle.std.proofs.Common.{ℕ, List, [], ◌++◌, length, ap, sym, subst, ◌∙◌}
use Rattle.btf_types.specs.Names.{kept}
use Rattle.bpf_object.specs.declared.fault.ObjectError.{ObjectError}
use Rattle.bpf_object.specs.Canonical.{file_strings, offset_of, written_sections}
use Rattle.bpf_object.specs.Denotes.{object_of, result_limit}
use Rattle.bpf_object.specs.File.{WrittenSection}
use Rattle.bpf_object.specs.private.FileWriter.{Holds}
use Rattle.bpf_object.specs.private.Names.{Strings, Extends}
use Rattle.bpf_object.specs.private.ObjectWriter.{FailsToWrite, first_names, first_written}
use Rattle.bpf_object.specs.private.Written.{content_of}
use Rattle.bpf_object.proofs.ObjectWriterLemmas.{extends_own, failed_one}
use Rattle.bpf_object.proofs.WrittenObject.{object_written, all_fail, all_done}
use Rattle.bpf_object.proofs.object_writer.write_object.Goals as goal

pub write_tail-requires-clause-limit : goal.write_tail-requires-clause-limit
write_tail-requires-clause-limit g c =
    let names = c.new-names.result in
    let first = first_names c.args.elf.now (content_of c.args.types) (content_of c.args.extension) in
    (c.in_ok-push_all.ensures (names.texts ++ first) (extends_own (names.texts ++ first))).limit_is ∙ ap (λ (n : Strings). n.limit) c.new-names.ensures ∙ c.result_limit-limit.ensures.value

pub returns : goal.returns
returns g c t are =
    let b = c.args.elf.now in
    let file = c.in_ok-file.file in
    let start = subst (λ (n : ℕ). Holds n [] file) c.result_limit-limit.ensures.value c.in_ok-file.ensures.0 in
    object_written (λ out. out.items) b t c.write_tail.result c.requires
    (all_done b t (content_of c.args.types) (content_of c.args.extension) are c.symtab_number-symtab.result c.symtab_number-symtab.ensures.value c.new-names.result file
    (ap (λ (n : Strings). n.texts) c.new-names.ensures) start c.push_all.new.names c.push_all.new.file (c.in_ok-file.ensures.1 ∙ c.order.ensures) c.in_ok-push_all.ensures (λ out. out.items) c.write_tail.result c.write_tail.ensures)

pub returns-in_err-push_all : goal.returns-in_err-push_all
returns-in_err-push_all g c t are =
    let b = c.args.elf.now in
    let limit = result_limit (length b) in
    let types = content_of c.args.types in
    let extension = content_of c.args.extension in
    let symtab = c.symtab_number-symtab.result in
    let names = c.new-names.result in
    let file = c.in_ok-file.file in
    let start = subst (λ (n : ℕ). Holds n [] file) c.result_limit-limit.ensures.value c.in_ok-file.ensures.0 in
    object_written (λ out. out.items) b t c.from_residual-in_err-push_all.result c.requires
    (failed_one c.from_residual-in_err-push_all.result _ (FailsToWrite limit (file_strings (object_of b t)) (written_sections (object_of b t))) _ c.from_residual-in_err-push_all.ensures.0 c.from_residual-in_err-push_all.ensures.1
    (λ e is. all_fail b t types extension are symtab c.symtab_number-symtab.ensures.value names file (ap (λ (n : Strings). n.texts) c.new-names.ensures) start e
    (subst (λ (f : ObjectError). (all : List (List ℕ)) → Extends all (kept (names.texts ++ first_names b types extension)) → (before : List WrittenSection) → Holds limit before file → FailsToWrite limit all (before ++ first_written b symtab types extension (offset_of all)) f) (sym is) c.in_err-push_all.ensures)))
