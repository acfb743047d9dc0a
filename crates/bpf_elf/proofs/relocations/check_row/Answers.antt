use Rattle.std.proofs.Common.{ℕ, ◌+◌, ◌*◌, Bool, [], ◌∷◌, ap, subst, ◌∙◌, ◌≡◌}
use Rattle.bpf_elf.specs.declared.fault.ElfCause.TheVariants as cause
use Rattle.bpf_elf.specs.Rules.{Checks, rule}
use Rattle.bpf_elf.specs.Relocations.{is_relocation_symbol, r_symbol, relocation_offset}
use Rattle.bpf_elf.proofs.relocations.check_row.Goals as goal

pub returns : goal.returns
returns c =
    let b = c.args.bytes.now in
    let k = c.args.k in
    let symbol : c.is_relocation_symbol-is_symbol.result ≡ is_relocation_symbol b (r_symbol b c.args.i k) =
    c.is_relocation_symbol-is_symbol.ensures ∙ ap (λ j. is_relocation_symbol b j) c.relocation_at-j.ensures.symbol in
    let pos : c.section_header.result.offset + 16 * k + 8 ≡ relocation_offset b c.args.i k + 8 =
    ap (λ (o : ℕ). o + 16 * k + 8) c.section_header.ensures.offset in
    subst (λ (x : Bool). Checks (rule cause.RelocationSymbol (relocation_offset b c.args.i k + 8) x ∷ []) c.require.result) symbol
    (subst (λ (o : ℕ). Checks (rule cause.RelocationSymbol o c.is_relocation_symbol-is_symbol.result ∷ []) c.require.result) pos c.require.ensures)
