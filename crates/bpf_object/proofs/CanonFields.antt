-- The fields of the sections of a canonical file are in their ranges.
use Rattle.std.proofs.Common.{◌≡◌, ℕ, suc, ◌+◌, ◌-◌, ◌*◌, ◌^◌, ◌<◌, ◌≤◌, ◌⊎◌, ◌==◌, Bool, true, false, cond, List, [], ◌∷◌, ◌++◌, length, get_or, if◌then◌else◌, inl, inr, sym, ap, subst, ◌∙◌, append-nil, arith}
use Rattle.std.specs.List.{flat_map}
use Rattle.std.proofs.lemmas.Bool.{cases_lt, Decides.nat_tests}
use Rattle.bpf_words.specs.declared.Order.{Order}
use Rattle.bpf_elf.specs.Kinds.{SHT_NOBITS, SHT_REL}
use Rattle.bpf_elf.specs.Symbols.{is_local}
use Rattle.bpf_elf.proofs.KindLemmas.{relocations_type}
use Rattle.bpf_object.specs.File.{WrittenSection, content_offset, file_of}
use Rattle.bpf_object.specs.Objects.{KeptRelocation, KeptSection, KeptSymbol, Object}
use Rattle.bpf_object.specs.Canonical.{types_names, symbol_bytes, row_bytes, first_global, symtab_number, canonical}
use Rattle.bpf_object.proofs.ReadBackWords.{has_inside}
use Rattle.bpf_object.proofs.ReadBackLayout.{content_there, length-file_of}
use Rattle.bpf_object.proofs.ReadBackFile.{FieldsFit, IsWritable}
use Rattle.bpf_object.proofs.ReadBackRows.{length-rows, flat_map_rows}
use Rattle.bpf_object.proofs.ReadBackTables.{length-relocation_row, length-symbol_row}
use Rattle.bpf_object.proofs.CanonValid.{section_of, no_relocation, no_symbol, IsValidData, IsValidTable, IsValidSection, ValidObject, IsSmall}
use Rattle.bpf_object.proofs.CanonNames.{name_table, new_name_offset, file_name_inside, section_name_there}
use Rattle.bpf_object.proofs.CanonRows.{section_rows, row_count, canonical_is, symtab_row, kept_row, own_name, own_kind, own_count, IsOwnRow, row_count_is, own_row_is, symtab_is, strtab_is}

-- ---- lengths

pub length-row_bytes : (o : Order) (rs : List KeptRelocation) → length (flat_map (row_bytes o) rs) ≡ 16 * length rs
length-row_bytes o rs =
    ap length (flat_map_rows (row_bytes o) rs no_relocation)
    ∙ length-rows (λ k. row_bytes o (get_or rs k no_relocation)) 16 (length rs)
    (λ k. length-relocation_row o (get_or rs k no_relocation).offset (get_or rs k no_relocation).symbol (get_or rs k no_relocation).type)

length-symbol_bytes : (o : Order) (place : List ℕ → ℕ) (ss : List KeptSymbol) → length (flat_map (symbol_bytes o place) ss) ≡ 24 * length ss
length-symbol_bytes o place ss =
    let at = λ (k : ℕ). get_or ss k no_symbol in
    ap length (flat_map_rows (symbol_bytes o place) ss no_symbol)
    ∙ length-rows (λ k. symbol_bytes o place (get_or ss k no_symbol)) 24 (length ss)
    (λ k. length-symbol_row o (place (at k).name) (at k).info (at k).other (at k).section (at k).value (at k).size)

one_global : (y : Bool) (l : Bool) (g n : ℕ) → g ≤ n → cond y (cond l 1 0) (suc g) ≤ suc n
one_global true true g n le = omega arith
one_global true false g n le = omega arith
one_global false l g n le = omega (arith, le)

global_below : (ss : List KeptSymbol) → first_global ss ≤ length ss
global_below [] = omega arith
global_below (s ∷ ss) = one_global (first_global ss == 0) (is_local s.info) (first_global ss) (length ss) (global_below ss)

-- a section is kept or written anew
pub split_row : (x : Object) (i : ℕ) → i < row_count x → (i < length x.sections) ⊎ ((k : ℕ) × (k < own_count x) × (length x.sections + k ≡ i))
split_row x i lt =
    let count = row_count_is x in
    elim (cases_lt i (length x.sections)) [
      | inl below ↦ inl below
      | inr from ↦ inr (i - length x.sections, omega (arith, lt, from, count), omega (arith, from))
    ]

other_type : (t : ℕ) → t ≤ 3 → (t == SHT_NOBITS) ≡ false
other_type t le = grind (arith, nat_tests)

module _ (x : Object) (small : IsSmall x) where
  pub file_length : length (canonical x) ≡ content_offset (section_rows x) (row_count x) + 64 * (row_count x + 1)
  file_length = ap length (canonical_is x) ∙ length-file_of x.order x.flags (section_rows x) (row_count x)

  pub row_short : (i : ℕ) → i < row_count x → length (section_rows x i).content ≤ 67108864
  row_short i lt =
      let short = small.short in
      let inside = has_inside (file_of x.order x.flags (section_rows x) (row_count x)) (content_offset (section_rows x) i) (section_rows x i).content (content_there x.order x.flags (section_rows x) (row_count x) i lt) in
      omega (arith, ap length (canonical_is x), inside, short)

  pub few_rows : length x.sections + length (types_names x.types) + 3 < 65280
  unfolding row_count
  few_rows = let few = small.few in let count = row_count_is x in omega (arith, few, count)

  pub table_short : length (name_table x) ≤ 67108864
  table_short =
      let count = row_count_is x in
      let short = row_short (symtab_row x + 1) (omega (arith, count)) in
      omega (arith, ap (λ (w : WrittenSection). length w.content) (strtab_is x), short)

  pub symbols_short : 24 * length x.symbols ≤ 67108864
  symbols_short =
      let count = row_count_is x in
      let short = row_short (symtab_row x) (omega (arith, count)) in
      omega (arith, ap (λ (w : WrittenSection). length w.content) (symtab_is x), length-symbol_bytes x.order (new_name_offset x) x.symbols, short)

  -- the offset of a name is a word
  pub place_fits : (i : ℕ) → i < length x.sections → IsValidSection x (section_of x i) → new_name_offset x (section_of x i).name < 2 ^ 32
  place_fits i lt valid = omega (arith, file_name_inside x (section_of x i).name (section_name_there x i lt) valid.name, table_short)

  own_offset_fits : (w : WrittenSection) (k : ℕ) → IsOwnRow x w (own_name x k) (own_kind x k) → new_name_offset x (own_name x k) < 2 ^ 32
  own_offset_fits w k its = omega (arith, file_name_inside x (own_name x k) its.there its.without_nul, table_short)

-- ---- the fields of a section that is kept

data_content : (o : Order) (s : KeptSection) → IsValidData s → length (s.content ++ flat_map (row_bytes o) s.relocations) ≡ (if s.type == SHT_NOBITS then 0 else s.size)
data_content o s valid =
    ap (λ (rs : List KeptRelocation). length (s.content ++ flat_map (row_bytes o) rs)) valid.relocations ∙ ap length (append-nil s.content) ∙ valid.content

pub table_bits : (x : Object) (s : KeptSection) → IsValidTable x s → (s.type == SHT_NOBITS) ≡ false
table_bits x s valid = ap (λ (t : ℕ). t == SHT_NOBITS) (relocations_type s.type s.name s.flags valid.kind)

table_content : (x : Object) (o : Order) (s : KeptSection) → IsValidTable x s → length (s.content ++ flat_map (row_bytes o) s.relocations) ≡ (if s.type == SHT_NOBITS then 0 else s.size)
table_content x o s valid =
    ap (λ (c : List ℕ). length (c ++ flat_map (row_bytes o) s.relocations)) valid.content ∙ length-row_bytes o s.relocations ∙ sym valid.size
    ∙ sym (ap (λ (y : Bool). if y then 0 else s.size) (table_bits x s valid))

kept_content : (x : Object) (o : Order) (s : KeptSection) → IsValidData s ⊎ IsValidTable x s → length (s.content ++ flat_map (row_bytes o) s.relocations) ≡ (if s.type == SHT_NOBITS then 0 else s.size)
kept_content x o s (inl valid) = data_content o s valid
kept_content x o s (inr valid) = table_content x o s valid

target_fits : (x : Object) (s : KeptSection) → IsValidData s ⊎ IsValidTable x s → s.target ≤ length x.sections
target_fits x s (inl valid) = omega (arith, valid.target)
target_fits x s (inr valid) = valid.target.there

link_fits : (y : Bool) (n : ℕ) → n < 2 ^ 32 → (if y then n else 0) < 2 ^ 32
link_fits true n lt = lt
link_fits false n lt = omega arith

module _ (x : Object) (small : IsSmall x) where
  kept_fits : (i : ℕ) → i < length x.sections → IsValidSection x (section_of x i) → FieldsFit (section_rows x i)
  kept_fits i lt valid =
      let few = few_rows x small in
      let s = section_of x i in
      subst FieldsFit (sym (kept_row x i lt)) (record {
        name_offset = place_fits x small i lt valid;
        type = valid.type;
        flags = valid.flags;
        address = valid.address;
        size = valid.size;
        link = link_fits (s.type == SHT_REL) (symtab_number x) (omega (arith, few));
        info = omega (arith, few, target_fits x s valid.kept);
        alignment = valid.alignment;
        entry_size = valid.entry_size;
        content = kept_content x x.order s valid.kept;
      })

  own_fits : (w : WrittenSection) (k : ℕ) → IsOwnRow x w (own_name x k) (own_kind x k) → length w.content ≤ 67108864 → FieldsFit w
  own_fits w k its short =
      let few = few_rows x small in
      let name = its.name_offset in
      let type = its.type in
      let flags = its.flags in
      let address = its.address in
      let size = its.size in
      let link = its.link in
      let info = its.info in
      let alignment = its.alignment in
      let entry_size = its.entry_size in
      record {
        name_offset = omega (arith, name, own_offset_fits x small w k its);
        type = omega (arith, type);
        flags = omega (arith, flags);
        address = omega (arith, address);
        size = omega (arith, size, short);
        link = omega (arith, link, few);
        info = omega (arith, info, global_below x.symbols, symbols_short x small);
        alignment = omega (arith, alignment);
        entry_size = omega (arith, entry_size);
        content = sym size ∙ sym (ap (λ (y : Bool). if y then 0 else w.size) (other_type w.type type));
      }

  row_fits : ValidObject x → (i : ℕ) → i < row_count x → FieldsFit (section_rows x i)
  row_fits valid i lt = elim (split_row x i lt) [
    | inl kept ↦ kept_fits i kept (valid.sections i kept)
    | inr own ↦
        subst (λ (k : ℕ). FieldsFit (section_rows x k)) own.2
        (own_fits (section_rows x (length x.sections + own.0)) own.0 (own_row_is x own.0 own.1)
        (row_short x small (length x.sections + own.0) (omega (arith, lt, own.2))))
  ]

  -- the canonical file can be written
  pub is_writable : ValidObject x → IsWritable x.flags (section_rows x) (row_count x)
  is_writable valid =
      let count = row_count_is x in
      let few = few_rows x small in
      let short = small.short in
      record {
        few = omega (arith, few, count);
        some = omega (arith, count);
        flags_fit = valid.flags;
        short = omega (arith, short, file_length x small);
        fields = row_fits valid;
      }
