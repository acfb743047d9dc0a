-- What follows from the rules on relocations that hold: each is for a section and a symbol that are there.
use Rattle.std.proofs.Common.{◌≡◌, ℕ, ◌+◌, ◌<◌, ◌==◌, ◌&&◌, ◌||◌, not, true, false, Bool, List, [], ◌++◌, refl, subst, sym}
use Rattle.std.specs.Prelude.{nat_lt}
use Rattle.std.proofs.lemmas.Bool.{ltb-true}
use Rattle.bpf_elf.specs.declared.fault.ElfCause.TheVariants as cause
use Rattle.bpf_elf.specs.declared.kinds.Kind.TheVariants.{Relocations}
use Rattle.bpf_elf.specs.Rules.{each, AllHold}
use Rattle.bpf_elf.specs.Numbers.{count, header_offset, type, info}
use Rattle.bpf_elf.specs.Kinds.{is_kind, SHT_REL}
use Rattle.bpf_elf.specs.Sections.{kind, table_rules, section_rules, target_rules, is_target}
use Rattle.bpf_elf.specs.Symbols.{symbol_count, is_kept_symbol, symbol_table_rules, symbol_rules}
use Rattle.bpf_elf.specs.Relocations.{relocation_count, relocation_rules, relocation_offset, relocation_table_rules, form_rules, kept_table_rules, is_relocation_symbol, r_symbol}
use Rattle.bpf_elf.specs.ElfRules.{IsElf, head_rules, all_section_rules, all_symbol_rules}
use Rattle.bpf_elf.proofs.RuleLemmas.{first_hold, rest_hold, each_holds, head_holds}
use Rattle.bpf_elf.proofs.SectionFacts.{relocations_type_at}

pub both : (x y : Bool) → (x && y) ≡ true → (x ≡ true) × (y ≡ true)
both true y h = (refl, h)
both false y h = absurd cc

one_of_two : (x y : Bool) → (not x || y) ≡ true → x ≡ true → y ≡ true
one_of_two true y h is = h
one_of_two false y h is = absurd cc

sections_hold : (b : List ℕ) → IsElf b → AllHold (all_section_rules b)
sections_hold b h = first_hold (all_section_rules b) (all_symbol_rules b) (rest_hold (head_rules b) (all_section_rules b ++ all_symbol_rules b) h)

symbols_hold : (b : List ℕ) → IsElf b → AllHold (all_symbol_rules b)
symbols_hold b h = rest_hold (all_section_rules b) (all_symbol_rules b) (rest_hold (head_rules b) (all_section_rules b ++ all_symbol_rules b) h)

targets_hold : (b : List ℕ) → IsElf b → AllHold (each (count b) (target_rules b))
targets_hold b h =
    rest_hold (each (count b) (section_rules b)) (each (count b) (target_rules b))
    (rest_hold (table_rules b) (each (count b) (section_rules b) ++ each (count b) (target_rules b)) (sections_hold b h))

tables_hold : (b : List ℕ) → IsElf b → AllHold (each (count b) (relocation_table_rules b))
tables_hold b h =
    rest_hold (each (symbol_count b) (symbol_rules b)) (each (count b) (relocation_table_rules b))
    (rest_hold (symbol_table_rules b) (each (symbol_count b) (symbol_rules b) ++ each (count b) (relocation_table_rules b)) (symbols_hold b h))

-- a table is for a section of code or data
target_is : (b : List ℕ) (i : ℕ) → IsElf b → i < count b → is_kind Relocations (kind b i) ≡ true → is_target b i (info b i) ≡ true
target_is b i h lt is =
    let rules = each_holds (count b) i (target_rules b) lt (targets_hold b h) in
    let rel : (type b i == SHT_REL) ≡ true = subst (λ (t : ℕ). (t == SHT_REL) ≡ true) (sym (relocations_type_at b i is)) refl in
    one_of_two (type b i == SHT_REL) (is_target b i (info b i))
    (head_holds cause.RelocationTarget (header_offset b i + 44) (not (type b i == SHT_REL) || is_target b i (info b i)) [] rules).0 rel

pub target_there : (b : List ℕ) (i : ℕ) → IsElf b → i < count b → is_kind Relocations (kind b i) ≡ true → info b i < count b
target_there b i h lt is =
    let within = (both (nat_lt 0 (info b i) && nat_lt (info b i) (count b)) _ (target_is b i h lt is)).0 in
    ltb-true _ _ (both (nat_lt 0 (info b i)) (nat_lt (info b i) (count b)) within).1

-- the symbol of a relocation
pub symbol_is : (b : List ℕ) (i k : ℕ) → IsElf b → i < count b → is_kind Relocations (kind b i) ≡ true → k < relocation_count b i
    → is_relocation_symbol b (r_symbol b i k) ≡ true
symbol_is b i k h lt is row =
    let table = each_holds (count b) i (relocation_table_rules b) lt (tables_hold b h) in
    let kept : AllHold (kept_table_rules b i) = rw is at table in
    let rows = rest_hold (form_rules b i) (each (relocation_count b i) (relocation_rules b i)) kept in
    let rule = each_holds (relocation_count b i) k (relocation_rules b i) row rows in
    (head_holds cause.RelocationSymbol (relocation_offset b i k + 8) (is_relocation_symbol b (r_symbol b i k)) [] rule).0

pub symbol_there : (b : List ℕ) (i k : ℕ) → IsElf b → i < count b → is_kind Relocations (kind b i) ≡ true → k < relocation_count b i
    → r_symbol b i k < symbol_count b
symbol_there b i k h lt is row =
    ltb-true _ _ (both (nat_lt (r_symbol b i k) (symbol_count b)) (is_kept_symbol b (r_symbol b i k)) (symbol_is b i k h lt is row)).0
