use Rattle.std.proofs.Common.{ℕ, List, ◌++◌, refl, sym, subst}
use Rattle.std.specs.Prelude.{codes}
use Rattle.btf_types.specs.Names.{kept}
use Rattle.bpf_object.specs.declared.fault.ObjectError.{ObjectError}
use Rattle.bpf_object.specs.Canonical.{offset_of}
use Rattle.bpf_object.specs.File.{WrittenSection}
use Rattle.bpf_object.specs.private.FileWriter.{Holds}
use Rattle.bpf_object.specs.private.Names.{Extends}
use Rattle.bpf_object.specs.private.ObjectWriter.{FailsToWrite, name_with, section_with, both_with}
use Rattle.bpf_object.specs.private.Written.{content_of}
use Rattle.bpf_object.proofs.ObjectWriterLemmas.{failed_one, writes_both, first_fails}
use Rattle.bpf_object.proofs.object_writer.push_both.Goals as goal

pub returns : goal.returns
returns g c =
    let types = content_of c.args.types in
    let extension = content_of c.args.extension in
    writes_both c.args.names.now.limit (name_with (codes ".BTF") types) (name_with (codes ".BTF.ext") extension) (section_with (codes ".BTF") types) (section_with (codes ".BTF.ext") extension)
    c.args.names.now c.args.file.now c.push_types.new.names c.push_types-2.new.names c.push_types.new.file c.push_types-2.new.file c.push_types-2.result refl c.in_ok-push_types.ensures c.push_types-2.ensures

pub returns-in_err-push_types : goal.returns-in_err-push_types
returns-in_err-push_types g c all more =
    let types = content_of c.args.types in
    let extension = content_of c.args.extension in
    let names = c.args.names.now in
    let file = c.args.file.now in
    failed_one c.from_residual.result _ (λ e. (before : List WrittenSection) → Holds names.limit before file → FailsToWrite names.limit all (before ++ both_with types extension (offset_of all)) e) _ c.from_residual.ensures.0 c.from_residual.ensures.1
    (λ e is. first_fails names.limit (name_with (codes ".BTF") types) (name_with (codes ".BTF.ext") extension) (section_with (codes ".BTF") types) (section_with (codes ".BTF.ext") extension) names file e
    (subst (λ (f : ObjectError). (any : List (List ℕ)) → Extends any (kept (names.texts ++ name_with (codes ".BTF") types)) → (before : List WrittenSection) → Holds names.limit before file → FailsToWrite names.limit any (before ++ section_with (codes ".BTF") types (offset_of any)) f) (sym is) c.in_err-push_types.ensures) all more)
