use Rattle.std.proofs.Common.{◌≡◌, ℕ, List, ◌++◌, sym, ◌∙◌, subst, arith, length}
use Rattle.bpf_elf.specs.Symbols.{symbol_count}
use Rattle.btf_types.specs.Names.{kept}
use Rattle.bpf_object.specs.Denotes.{result_limit}
use Rattle.bpf_object.specs.declared.fault.ObjectError.{ObjectError}
use Rattle.bpf_object.specs.private.ObjectWriter.{FailsToWrite, symbol_name_if}
use Rattle.bpf_object.specs.File.{WrittenSection}
use Rattle.bpf_object.specs.private.Names.{Extends}
use Rattle.bpf_object.proofs.ObjectWriterLemmas.{RowsTo, failed_one, rows_source, rows_limit, rows_more, rows_fail}
use Rattle.bpf_object.proofs.symbol_rows.push_symbols.Goals as goal

pub push_if_kept-requires-clause-source : goal.push_if_kept-requires-clause-source
push_if_kept-requires-clause-source g c = rows_source c.args.elf.now c.args.names.now c.loop-j.names c.args.out.now.items c.loop-j.out.items c.loop-j.j c.loop-j.invariant ∙ c.requires.source

pub push_if_kept-requires-clause-limit : goal.push_if_kept-requires-clause-limit
push_if_kept-requires-clause-limit g c = rows_limit c.args.elf.now c.args.names.now c.loop-j.names c.args.out.now.items c.loop-j.out.items c.loop-j.j c.loop-j.invariant ∙ c.requires.limit

pub loop-j-preserved : goal.loop-j-preserved
loop-j-preserved g c =
    rows_more c.args.elf.now c.args.names.now c.loop-j.names c.args.out.now.items c.loop-j.out.items c.loop-j.j c.loop-j.invariant c.push_if_kept.new.names c.push_if_kept.new.out.items c.in_ok-push_if_kept.ensures

pub returns-in_err-push_if_kept : goal.returns-in_err-push_if_kept
returns-in_err-push_if_kept g c all more =
    let b = c.args.elf.now in
    failed_one c.from_residual.result _ (λ e. (ss : List WrittenSection) → FailsToWrite (result_limit (length c.args.elf.now)) all ss e) _ c.from_residual.ensures.0 c.from_residual.ensures.1
    (λ e is. rows_fail b c.args.names.now c.loop-j.names c.args.out.now.items c.loop-j.out.items c.loop-j.j c.loop-j.invariant (result_limit (length c.args.elf.now)) (symbol_count b) e all (omega (arith, c.loop-j-test.true, c.symbol_count-j-end.ensures.value)) more
    (subst (λ (f : ObjectError). (any : List (List ℕ)) → Extends any (kept (c.loop-j.names.texts ++ symbol_name_if b c.loop-j.j)) → (ss : List WrittenSection) → FailsToWrite (result_limit (length c.args.elf.now)) any ss f) (sym is) c.in_err-push_if_kept.ensures))

pub returns : goal.returns
returns g c =
    let b = c.args.elf.now in
    let end : c.loop-j.j ≡ symbol_count b = omega (arith, c.loop-j-test.false, c.symbol_count-j-end.ensures.value, c.loop-j.auto.j-end) in
    subst (RowsTo b c.args.names.now c.loop-j.names c.args.out.now.items c.loop-j.out.items) end c.loop-j.invariant
