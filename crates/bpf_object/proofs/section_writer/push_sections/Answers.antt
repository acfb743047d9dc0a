use Rattle.std.proofs.Common.{◌≡◌, ℕ, List, ◌++◌, sym, ◌∙◌, subst, arith, length}
use Rattle.bpf_elf.specs.Numbers.{count}
use Rattle.btf_types.specs.Names.{kept}
use Rattle.bpf_object.specs.Denotes.{result_limit}
use Rattle.bpf_object.specs.declared.fault.ObjectError.{ObjectError}
use Rattle.bpf_object.specs.private.ObjectWriter.{FailsToWrite, name_if, written_first, written_if}
use Rattle.bpf_object.specs.Canonical.{offset_of}
use Rattle.bpf_object.specs.File.{WrittenSection}
use Rattle.bpf_object.specs.private.FileWriter.{Holds}
use Rattle.bpf_object.specs.private.Names.{Extends}
use Rattle.bpf_object.proofs.ObjectWriterLemmas.{WrittenTo, failed_one, same_source, same_limit, written_more, fails_at}
use Rattle.bpf_object.proofs.section_writer.push_sections.Goals as goal

pub push_if_kept-requires-clause-source : goal.push_if_kept-requires-clause-source
push_if_kept-requires-clause-source g c =
    same_source (result_limit (length c.args.elf.now)) c.args.elf.now c.args.symtab c.args.names.now c.loop-i.names c.args.file.now c.loop-i.file c.loop-i.i c.loop-i.invariant ∙ c.requires.source

pub push_if_kept-requires-clause-limit : goal.push_if_kept-requires-clause-limit
push_if_kept-requires-clause-limit g c =
    same_limit (result_limit (length c.args.elf.now)) c.args.elf.now c.args.symtab c.args.names.now c.loop-i.names c.args.file.now c.loop-i.file c.loop-i.i c.loop-i.invariant ∙ c.requires.limit

pub loop-i-preserved : goal.loop-i-preserved
loop-i-preserved g c =
    written_more (result_limit (length c.args.elf.now)) c.args.elf.now c.args.symtab c.args.names.now c.loop-i.names c.args.file.now c.loop-i.file c.loop-i.i c.loop-i.invariant c.push_if_kept.new.names c.push_if_kept.new.file c.in_ok-push_if_kept.ensures

pub returns-in_err-push_if_kept : goal.returns-in_err-push_if_kept
returns-in_err-push_if_kept g c all more =
    let b = c.args.elf.now in
    failed_one c.from_residual.result _ (λ e. (before : List WrittenSection) → Holds (result_limit (length c.args.elf.now)) before c.args.file.now → FailsToWrite (result_limit (length c.args.elf.now)) all (before ++ written_first b c.args.symtab (count b) (offset_of all)) e) _ c.from_residual.ensures.0 c.from_residual.ensures.1
    (λ e is. fails_at (result_limit (length c.args.elf.now)) b c.args.symtab c.args.names.now c.loop-i.names c.args.file.now c.loop-i.file c.loop-i.i c.loop-i.invariant (count b) e all (omega (arith, c.loop-i-test.true, c.section_count-i-end.ensures.value)) more
    (subst (λ (f : ObjectError). (any : List (List ℕ)) → Extends any (kept (c.loop-i.names.texts ++ name_if b c.loop-i.i)) → (before : List WrittenSection) → Holds (result_limit (length c.args.elf.now)) before c.loop-i.file → FailsToWrite (result_limit (length c.args.elf.now)) any (before ++ written_if b c.args.symtab c.loop-i.i (offset_of any)) f) (sym is) c.in_err-push_if_kept.ensures))

pub returns : goal.returns
returns g c =
    let b = c.args.elf.now in
    let end : c.loop-i.i ≡ count b = omega (arith, c.loop-i-test.false, c.section_count-i-end.ensures.value, c.loop-i.auto.i-end) in
    subst (WrittenTo (result_limit (length c.args.elf.now)) b c.args.symtab c.args.names.now c.loop-i.names c.args.file.now c.loop-i.file) end c.loop-i.invariant
