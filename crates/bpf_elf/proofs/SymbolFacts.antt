-- What follows from the rules on symbols: each has a name and a section.
use Rattle.std.proofs.Common.{◌≡◌, ℕ, ◌+◌, ◌||◌, ◌&&◌, true, false, Bool, List, [], ◌∷◌, length, inl, inr, refl}
use Rattle.std.specs.Prelude.{◌⊎◌, nat_lt}
use Rattle.std.proofs.lemmas.Bool.{ltb-true}
use Rattle.bpf_elf.specs.declared.{header.Header.Header, symbols.SymbolTable.SymbolTable}
use Rattle.bpf_elf.specs.declared.fault.ElfCause.TheVariants as cause
use Rattle.bpf_elf.specs.Rules.{ElfRule, AllHold, each, rule}
use Rattle.bpf_elf.specs.Numbers.{count}
use Rattle.bpf_elf.specs.Symbols.{symbol_count, symbol_rules, symbol_offset, symbol_strings, st_name, st_info, st_shndx, st_value, st_size, is_special, is_local, is_data, has_section, is_within, is_droppable}
use Rattle.bpf_elf.specs.Headers.{HasSection, HasSymbols, HasKeptSymbols}
use Rattle.bpf_elf.proofs.RuleLemmas.{each_holds, head_holds}

either_holds : (x y z : Bool) → (x || (y && z)) ≡ true → (x ≡ true) ⊎ (y ≡ true)
either_holds true y z h = inl refl
either_holds false true z h = inr refl
either_holds false false z h = inl h

pub of_section : (b : List ℕ) (info section : ℕ) → has_section b info section ≡ true → HasSection b section
of_section b info section h =
    elim (either_holds (is_special section) (nat_lt section (count b)) (is_local info || is_data b section) h) [
      | inl special ↦ inl special
      | inr there ↦ inr (ltb-true _ _ there)
    ]

abbrev place_rules : List ℕ → ℕ → List ElfRule
place_rules b j =
    rule cause.SymbolPlace (symbol_offset b j + 8) (is_within b (st_shndx b j) (st_value b j) (st_size b j))
    ∷ rule cause.SymbolDropped (symbol_offset b j) (is_droppable b j)
    ∷ []

abbrev later_rules : List ℕ → ℕ → List ElfRule
later_rules b j = rule cause.SymbolSection (symbol_offset b j + 6) (has_section b (st_info b j) (st_shndx b j)) ∷ place_rules b j

name_holds : (b : List ℕ) (j : ℕ) → AllHold (symbol_rules b j) → (nat_lt (st_name b j) (length (symbol_strings b)) ≡ true) × AllHold (later_rules b j)
name_holds b j h = head_holds cause.SymbolName (symbol_offset b j) (nat_lt (st_name b j) (length (symbol_strings b))) (later_rules b j) h

section_holds : (b : List ℕ) (j : ℕ) → AllHold (later_rules b j) → has_section b (st_info b j) (st_shndx b j) ≡ true
section_holds b j h = (head_holds cause.SymbolSection (symbol_offset b j + 6) (has_section b (st_info b j) (st_shndx b j)) (place_rules b j) h).0

pub kept_symbols : (b : List ℕ) (h : Header) (t : SymbolTable) → HasSymbols b h t → AllHold (each (symbol_count b) (symbol_rules b)) → HasKeptSymbols b h t
kept_symbols b h t table all = record {
  table = table;
  named = λ j lt. ltb-true _ _ (name_holds b j (each_holds (symbol_count b) j (symbol_rules b) lt all)).0;
  sections = λ j lt.
      of_section b (st_info b j) (st_shndx b j)
      (section_holds b j (name_holds b j (each_holds (symbol_count b) j (symbol_rules b) lt all)).1);
}
