use Rattle.std.proofs.Common.{◌≡◌, ℕ, List, ◌++◌, sym, ap, ◌∙◌, subst, length}
use Rattle.bpf_elf.specs.Names.{string_at}
use Rattle.bpf_elf.specs.Symbols.{symbol_name, symbol_strings}
use Rattle.bpf_object.specs.Denotes.{result_limit}
use Rattle.bpf_object.specs.private.ObjectWriter.{FailsToWrite}
use Rattle.bpf_object.specs.Canonical.{offset_of}
use Rattle.bpf_object.specs.File.{WrittenSection}
use Rattle.bpf_object.specs.Kept.{symbol_section}
use Rattle.bpf_object.specs.private.Names.{Adds, FailsToAdd}
use Rattle.bpf_object.proofs.ObjectWriterLemmas.{fails_added, failed_one, offset_there, row_one}
use Rattle.bpf_object.proofs.KeptLemmas.{symbol_row_is}
use Rattle.bpf_object.proofs.symbol_rows.push_symbol.Goals as goal

pub returns : goal.returns
returns g c all more =
    let b = c.args.elf.now in
    let j = c.args.j in
    let row = c.symbol-symbol.ensures.fields in
    let read : string_at c.args.names.now.source c.symbol-symbol.result.name_offset ≡ symbol_name b j =
    ap (λ (s : List ℕ). string_at s c.symbol-symbol.result.name_offset) c.requires.source ∙ ap (string_at (symbol_strings b)) row.name_offset in
    let adds = subst (λ (x : List ℕ). Adds c.args.names.now c.at.new.self x c.in_ok-name.name) read c.in_ok-name.ensures in
    let section = c.symbol_section-section.ensures ∙ ap (symbol_section b) row.section in
    let same = symbol_row_is b (offset_of all) j c.order.result _ _ _ _ _ _ c.order.ensures (offset_there c.args.names.now c.at.new.self (symbol_name b j) c.in_ok-name.name all adds more) row.info row.other section row.value row.size in
    row_one c.args.names.now c.at.new.self (symbol_name b j) c.in_ok-name.name c.args.out.now.items c.push_row.new.out.items _ adds (c.in_ok-push_row.ensures ∙ ap (λ (t : List ℕ). c.args.out.now.items ++ t) same)

pub returns-in_err-name : goal.returns-in_err-name
returns-in_err-name g c all more =
    let b = c.args.elf.now in
    let j = c.args.j in
    let read : string_at c.args.names.now.source c.symbol-symbol.result.name_offset ≡ symbol_name b j =
    ap (λ (s : List ℕ). string_at s c.symbol-symbol.result.name_offset) c.requires.source ∙ ap (string_at (symbol_strings b)) c.symbol-symbol.ensures.fields.name_offset in
    failed_one c.from_residual.result _ (λ e. (ss : List WrittenSection) → FailsToWrite (result_limit (length c.args.elf.now)) all ss e) _ c.from_residual.ensures.0 c.from_residual.ensures.1
    (λ e is ss. fails_added (result_limit (length c.args.elf.now)) all c.args.names.now (symbol_name b j) ss e c.requires.limit more
    (subst (FailsToAdd c.args.names.now (symbol_name b j)) (sym is) (subst (λ (x : List ℕ). FailsToAdd c.args.names.now x c.in_err-name.field-0.0) read c.in_err-name.ensures)))
