use Rattle.std.proofs.Common.{◌≡◌, ℕ, ◌+◌, ◌||◌, Bool, true, not, List, [], ◌∷◌, Result, sym, ap, ◌∙◌}
use Rattle.bpf_elf.specs.Rules.{rule, first_broken}
use Rattle.bpf_elf.specs.{Sections.name, Symbols.symbol_offset, Symbols.st_shndx, Symbols.st_value, Symbols.st_size}
use Rattle.bpf_object.specs.declared.fault.ObjectCause.TheVariants.{FunctionLines}
use Rattle.bpf_object.specs.declared.fault.ObjectFault.{ObjectFault}
use Rattle.bpf_object.specs.Extension.{Section}
use Rattle.bpf_object.specs.Faults.{Checks}
use Rattle.bpf_object.specs.FunctionLines.{is_function_symbol, keeps_lines, function_rules}
use Rattle.bpf_object.specs.Sources.{section}
use Rattle.bpf_object.proofs.StepLemmas.{same_checks}
use Rattle.bpf_object.proofs.function_checks.check_function.Goals as goal

function_checked : {A : Type 0} (b : List ℕ) (s : Section) (j pos : ℕ) (holds : Bool) (r : Result A ObjectFault) → pos ≡ symbol_offset b j + 8 → is_function_symbol b j ≡ true
    → holds ≡ keeps_lines s (name b (st_shndx b j)) (st_value b j) (st_size b j) → Checks (rule FunctionLines pos holds ∷ []) r → Checks (function_rules b s j) r
function_checked b s j pos holds r at is held checks =
    let keeps = keeps_lines s (name b (st_shndx b j)) (st_value b j) (st_size b j) in
    let test : (not (is_function_symbol b j) || keeps) ≡ holds = ap (λ (y : Bool). not y || keeps) is ∙ sym held in
    same_checks (function_rules b s j) (rule FunctionLines pos holds ∷ []) r
    (ap (λ (y : Bool). first_broken (rule FunctionLines (symbol_offset b j + 8) y ∷ [])) test
    ∙ ap (λ (n : ℕ). first_broken (rule FunctionLines n holds ∷ [])) (sym at))
    checks

pub returns : goal.returns
returns c =
    let fields = c.symbol.ensures.fields in
    function_checked c.args.elf.now (section c.args.x) c.args.j c.value_offset-pos.result c.keeps_lines-keeps_lines.result c.require.result c.value_offset-pos.ensures
    (sym c.is_function_symbol.ensures ∙ c.if-not-is_function_symbol.false) (rw (fields.section, fields.value, fields.size) at c.keeps_lines-keeps_lines.ensures) c.require.ensures
