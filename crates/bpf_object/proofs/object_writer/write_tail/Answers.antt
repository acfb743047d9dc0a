use Rattle.std.proofs.Common.{◌≡◌, ℕ, ◌+◌, List, [], ◌∷◌, ◌++◌, MatchResult, sym, ap, ◌∙◌, subst, length}
use Rattle.std.specs.Prelude.{codes}
use Rattle.bpf_elf.specs.{Numbers.flags_of, Symbols.symbol_count}
use Rattle.bpf_elf.specs.Kinds.{SHT_SYMTAB, SHT_STRTAB}
use Rattle.btf_types.specs.Names.{table_of}
use Rattle.bpf_object.specs.Denotes.{result_limit}
use Rattle.bpf_object.specs.private.ObjectWriter.{FailsToWrite, last_names, last_written, symbol_names, symbols_first}
use Rattle.bpf_object.specs.Canonical.{offset_of, own_section}
use Rattle.bpf_object.specs.File.{WrittenSection}
use Rattle.bpf_object.specs.private.FileWriter.{FailsToHold, IsFileOf, section_of}
use Rattle.bpf_object.specs.private.SymbolRows.{globals_from}
use Rattle.bpf_object.specs.private.Names.{Strings, FailsToAdd}
use Rattle.bpf_object.proofs.ObjectWriterLemmas.{failed_one, fails_added, offset_there, first_more, second_more, third_more, three_same, tail_done}
use Rattle.bpf_object.proofs.object_writer.write_tail.Goals as goal

pub returns-in_err-symbols_name : goal.returns-in_err-symbols_name
returns-in_err-symbols_name g c ss h =
    let b = c.args.elf.now in
    let all = c.args.names.texts ++ last_names b in
    let more = ss ++ last_written b (c.args.symtab + 1) all in
    failed_one c.from_residual.result _ (FailsToWrite (result_limit (length c.args.elf.now)) all more) _ c.from_residual.ensures.0 c.from_residual.ensures.1
    (λ e is. fails_added (result_limit (length c.args.elf.now)) all c.args.names (codes ".symtab") more e c.requires.limit (first_more c.args.names (codes ".symtab") (codes ".strtab") (symbol_names b (symbol_count b)))
    (subst (FailsToAdd c.args.names (codes ".symtab")) (sym is) c.in_err-symbols_name.ensures))

pub returns-in_err-strings_name : goal.returns-in_err-strings_name
returns-in_err-strings_name g c ss h =
    let b = c.args.elf.now in
    let all = c.args.names.texts ++ last_names b in
    let more = ss ++ last_written b (c.args.symtab + 1) all in
    let one = c.in_ok-symbols_name.ensures in
    failed_one c.from_residual-in_err-strings_name.result _ (FailsToWrite (result_limit (length c.args.elf.now)) all more) _ c.from_residual-in_err-strings_name.ensures.0 c.from_residual-in_err-strings_name.ensures.1
    (λ e is. fails_added (result_limit (length c.args.elf.now)) all c.text.new.self (codes ".strtab") more e (one.limit ∙ c.requires.limit) (second_more c.args.names (codes ".symtab") (codes ".strtab") (symbol_names b (symbol_count b)) c.text.new.self c.in_ok-symbols_name.symbols_name one)
    (subst (FailsToAdd c.text.new.self (codes ".strtab")) (sym is) c.in_err-strings_name.ensures))

pub returns-in_err-push_symbols : goal.returns-in_err-push_symbols
returns-in_err-push_symbols g c ss h =
    let b = c.args.elf.now in
    let all = c.args.names.texts ++ last_names b in
    let more = ss ++ last_written b (c.args.symtab + 1) all in
    let extends = third_more c.args.names (codes ".symtab") (codes ".strtab") (symbol_names b (symbol_count b)) c.text.new.self c.in_ok-symbols_name.symbols_name c.in_ok-symbols_name.ensures
    c.text-2.new.self c.in_ok-strings_name.strings_name c.read_from-names.result.texts c.in_ok-strings_name.ensures (ap (λ (n : Strings). n.texts) c.read_from-names.ensures) in
    failed_one c.from_residual-in_err-push_symbols.result _ (FailsToWrite (result_limit (length c.args.elf.now)) all more) _ c.from_residual-in_err-push_symbols.ensures.0 c.from_residual-in_err-push_symbols.ensures.1
    (λ e is. subst (FailsToWrite (result_limit (length c.args.elf.now)) all more) (sym is) (c.in_err-push_symbols.ensures all extends more))

pub returns : goal.returns
returns g c ss h =
    let b = c.args.elf.now in
    let all = c.args.names.texts ++ last_names b in
    let n0 = c.args.names in
    let a = codes ".symtab" in
    let d = codes ".strtab" in
    let syms = symbol_names b (symbol_count b) in
    let one = c.in_ok-symbols_name.ensures in
    let two = c.in_ok-strings_name.ensures in
    let texts = ap (λ (n : Strings). n.texts) c.read_from-names.ensures in
    let extends = third_more n0 a d syms c.text.new.self c.in_ok-symbols_name.symbols_name one c.text-2.new.self c.in_ok-strings_name.strings_name c.read_from-names.result.texts two texts in
    let rows = c.in_ok-push_symbols.ensures all extends in
    let held : c.push_symbols.new.out.items ≡ symbols_first b (symbol_count b) (offset_of all) = rows.held ∙ ap (λ (l : List ℕ). l ++ symbols_first b (symbol_count b) (offset_of all)) c.new-rows.ensures.items in
    let place1 = offset_there n0 c.text.new.self a c.in_ok-symbols_name.symbols_name all one (first_more n0 a d syms) in
    let place2 = offset_there c.text.new.self c.text-2.new.self d c.in_ok-strings_name.strings_name all two (second_more n0 a d syms c.text.new.self c.in_ok-symbols_name.symbols_name one) in
    let table = c.in_ok-table.ensures.table ∙ ap table_of (sym c.in_ok-table.ensures.own ∙ rows.texts ∙ three_same n0 a d syms c.text.new.self c.in_ok-symbols_name.symbols_name one c.text-2.new.self c.in_ok-strings_name.strings_name c.read_from-names.result.texts two texts) in
    let first : ℕ → List ℕ → ℕ → WrittenSection = λ o bytes i. own_section o SHT_SYMTAB bytes (c.args.symtab + 1) i 8 24 in
    let second : ℕ → List ℕ → WrittenSection = λ o bytes. own_section o SHT_STRTAB bytes 0 0 1 0 in
    let s = c.own_header-symbols.ensures ∙ ap (λ (o : ℕ). first o c.deref.result.now c.first_global-first.result) place1 ∙ ap (λ (l : List ℕ). first (offset_of all a) l c.first_global-first.result) (c.deref.ensures.value ∙ held) ∙ ap (first (offset_of all a) (symbols_first b (symbol_count b) (offset_of all))) c.first_global-first.ensures in
    let t = c.own_header-strings.ensures ∙ ap (λ (o : ℕ). second o c.deref-2.result.now) place2 ∙ ap (second (offset_of all d)) (c.deref-2.ensures.value ∙ table) in
    let w1 = first (offset_of all a) (symbols_first b (symbol_count b) (offset_of all)) (globals_from b (symbol_count b)) in
    let s2 = section_of c.own_header-strings.result c.deref-4.result.now in
    let same : section_of c.own_header-symbols.result c.deref-3.result.now ∷ s2 ∷ [] ≡ last_written b (c.args.symtab + 1) all =
    ap (λ (x : WrittenSection). x ∷ s2 ∷ []) (ap (section_of c.own_header-symbols.result) (c.deref-3.ensures.value ∙ sym c.deref.ensures.value) ∙ s)
    ∙ ap (λ (x : WrittenSection). w1 ∷ x ∷ []) (ap (section_of c.own_header-strings.result) (c.deref-4.ensures.value ∙ sym c.deref-2.ensures.value) ∙ t) in
    tail_done (result_limit (length c.args.elf.now)) all c.write_last.result (λ l out. IsFileOf (result_limit (length c.args.elf.now)) c.args.file.order (flags_of b) l out.items) ss _ (last_written b (c.args.symtab + 1) all) same
    (subst (λ (n : ℕ). MatchResult c.write_last.result (λ out. IsFileOf (result_limit (length c.args.elf.now)) c.args.file.order n (ss ++ (section_of c.own_header-symbols.result c.deref-3.result.now ∷ s2 ∷ [])) out.items) (FailsToHold (result_limit (length c.args.elf.now)) (ss ++ (section_of c.own_header-symbols.result c.deref-3.result.now ∷ s2 ∷ []))))
    c.flags.ensures (c.write_last.ensures (result_limit (length c.args.elf.now)) ss h))
