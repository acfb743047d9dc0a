-- The sections of a canonical file: those that are kept, and then those that are written anew.
use Rattle.std.proofs.Common.{◌≡◌, ℕ, zero, suc, ◌+◌, ◌<◌, ◌≤◌, ◌==◌, Bool, true, false, not, List, [], ◌∷◌, ◌++◌, Option, Some, None, length, get_or, map, codes, if◌then◌else◌, inl, inr, refl, sym, ap, subst, ◌∙◌, length-append, get_or-append-add, arith}
use Rattle.std.specs.Prelude.{slice_index_or}
use Rattle.std.specs.List.{flat_map, list_all}
use Rattle.std.proofs.lemmas.List.{get_or-map, length-map, get_or_append_left}
use Rattle.std.proofs.lemmas.Bool.{and_parts}
use Rattle.bpf_elf.specs.declared.kinds.Kind.{Kind}
use Rattle.bpf_elf.specs.declared.kinds.Kind.TheVariants.{Data, Relocations, Symbols, Types, Extension, Dropped}
use Rattle.bpf_elf.specs.Kinds.{SHT_SYMTAB, SHT_STRTAB, kind_of, is_kind}
use Rattle.btf_raw.specs.Names.{IsWithoutNul}
use Rattle.bpf_object.specs.File.{WrittenSection, file_of, no_section}
use Rattle.bpf_object.specs.Objects.{ObjectTypes, Object}
use Rattle.bpf_object.specs.Canonical.{offset_of, has_extension, types_names, file_strings, symbol_bytes, first_global, btf_bytes, extension_bytes, types_strings, written_section, own_section, types_sections, symtab_number, last_sections, written_sections, canonical}
use Rattle.btf_types.proofs.Members.{Has}
use Rattle.bpf_object.proofs.CanonValid.{section_of, nothing}
use Rattle.bpf_object.proofs.CanonNames.{name_table, new_name_offset, IsNameOf, types_name_there, symtab_name_there, strtab_name_there}

-- ---- all sections, by their numbers from 0

unfoldable pub section_rows : Object → ℕ → WrittenSection
section_rows x k = slice_index_or (written_sections x) k no_section

unfoldable pub row_count : Object → ℕ
row_count x = length (written_sections x)

pub canonical_is : (x : Object) → canonical x ≡ file_of x.order x.flags (section_rows x) (row_count x)
unfolding canonical section_rows row_count
canonical_is x = refl

-- where the symbols are
abbrev pub symtab_row : Object → ℕ
symtab_row x = length x.sections + length (types_names x.types)

abbrev kept_rows : Object → List WrittenSection
kept_rows x = map (written_section x.order (offset_of (file_strings x)) (symtab_number x)) x.sections

abbrev own_rows : Object → List WrittenSection
own_rows x = types_sections x.order (offset_of (file_strings x)) x.types ++ last_sections x

-- a section that is kept
pub kept_row : (x : Object) (i : ℕ) → i < length x.sections
    → section_rows x i ≡ written_section x.order (new_name_offset x) (symtab_number x) (section_of x i)
unfolding section_rows new_name_offset
kept_row x i lt =
    get_or_append_left (kept_rows x) (own_rows x) no_section i (rw (length-map x.sections (written_section x.order (offset_of (file_strings x)) (symtab_number x))) lt)
    ∙ get_or-map (written_section x.order (offset_of (file_strings x)) (symtab_number x)) x.sections i nothing no_section lt

-- one that is written anew
own_row : (x : Object) (k : ℕ) → section_rows x (length x.sections + k) ≡ get_or (own_rows x) k no_section
unfolding section_rows
own_row x k =
    ap (λ (n : ℕ). get_or (kept_rows x ++ own_rows x) (n + k) no_section) (sym (length-map x.sections (written_section x.order (offset_of (file_strings x)) (symtab_number x))))
    ∙ get_or-append-add (kept_rows x) (own_rows x) k no_section

-- ---- the sections that are written anew

abbrev types_kinds : Option ObjectTypes → List Kind
types_kinds None = []
types_kinds (Some t) = Types ∷ (if has_extension t then Extension ∷ [] else [])

abbrev own_kinds : Object → List Kind
own_kinds x = types_kinds x.types ++ (Symbols ∷ Dropped ∷ [])

abbrev own_names : Object → List (List ℕ)
own_names x = types_names x.types ++ (codes ".symtab" ∷ codes ".strtab" ∷ [])

pub own_kind : Object → ℕ → Kind
own_kind x k = get_or (own_kinds x) k Dropped

pub own_name : Object → ℕ → List ℕ
own_name x k = get_or (own_names x) k []

abbrev pub own_count : Object → ℕ
own_count x = length (types_names x.types) + 2

-- it has a name, and the kind of this name; no table of relocations is among them
pub record IsOwnRow (x : Object) (w : WrittenSection) (name : List ℕ) (kind : Kind) : Type 0 where
  pub there : IsNameOf x name
  pub without_nul : IsWithoutNul name
  pub name_short : length name ≤ 1024
  pub name_offset : w.name_offset ≡ new_name_offset x name
  pub kind_is : kind_of w.type name w.flags ≡ Some kind
  pub type : w.type ≤ 3
  pub flags : w.flags ≡ 0
  pub address : w.address ≡ 0
  pub size : w.size ≡ length w.content
  pub link : w.link ≤ symtab_number x + 1
  pub info : w.info ≤ first_global x.symbols
  pub alignment : w.alignment ≤ 8
  pub entry_size : w.entry_size ≤ 24

abbrev EachOwn : Object → List WrittenSection → List (List ℕ) → List Kind → Type 0
EachOwn x [] [] [] = Unit {0}
EachOwn x (w ∷ ws) (n ∷ ns) (k ∷ ks) = IsOwnRow x w n k × EachOwn x ws ns ks
EachOwn x _ _ _ = ⊥

own_lengths : (x : Object) (ws : List WrittenSection) (ns : List (List ℕ)) (ks : List Kind) → EachOwn x ws ns ks → length ws ≡ length ns
own_lengths x [] [] [] each = refl
own_lengths x (w ∷ ws) (n ∷ ns) (k ∷ ks) each = ap suc (own_lengths x ws ns ks each.1)
own_lengths x [] (n ∷ ns) ks each = absurd each
own_lengths x [] [] (k ∷ ks) each = absurd each
own_lengths x (w ∷ ws) [] ks each = absurd each
own_lengths x (w ∷ ws) (n ∷ ns) [] each = absurd each

own_at : (x : Object) (ws : List WrittenSection) (ns : List (List ℕ)) (ks : List Kind) → EachOwn x ws ns ks → (i : ℕ) → i < length ws
    → IsOwnRow x (get_or ws i no_section) (get_or ns i []) (get_or ks i Dropped)
own_at x [] ns ks each i lt = absurd (omega (arith, lt))
own_at x (w ∷ ws) (n ∷ ns) (k ∷ ks) each zero lt = each.0
own_at x (w ∷ ws) (n ∷ ns) (k ∷ ks) each (suc i) lt = own_at x ws ns ks each.1 i (omega (arith, lt))
own_at x (w ∷ ws) [] ks each i lt = absurd each
own_at x (w ∷ ws) (n ∷ ns) [] each i lt = absurd each

-- a text without NUL, by a test
without_nul_test : (t : List ℕ) → list_all (λ c. not (c == 0)) t ≡ true → IsWithoutNul t
without_nul_test [] all i lt e = omega (arith, lt)
without_nul_test (zero ∷ cs) all i lt e = absurd cc
without_nul_test (suc c ∷ cs) all zero lt e = omega (arith, e)
without_nul_test (suc c ∷ cs) all (suc i) lt e = without_nul_test cs (and_parts (not (suc c == 0)) (list_all (λ d. not (d == 0)) cs) all).1 i (omega (arith, lt)) e

own_row_from : (x : Object) (name content : List ℕ) (kind : Kind) (type link info alignment entry_size : ℕ) → IsNameOf x name → list_all (λ c. not (c == 0)) name ≡ true
    → length name ≤ 1024 → kind_of type name 0 ≡ Some kind → type ≤ 3 → link ≤ symtab_number x + 1 → info ≤ first_global x.symbols → alignment ≤ 8 → entry_size ≤ 24
    → IsOwnRow x (own_section (new_name_offset x name) type content link info alignment entry_size) name kind
own_row_from x name content kind type link info alignment entry_size there none short is low linked within aligned sized = record {
  there = there;
  without_nul = without_nul_test name none;
  name_short = short;
  name_offset = refl;
  kind_is = is;
  type = low;
  flags = refl;
  address = refl;
  size = refl;
  link = linked;
  info = within;
  alignment = aligned;
  entry_size = sized;
}

-- .BTF and .BTF.ext
types_row : (x : Object) (name content : List ℕ) (kind : Kind) → IsNameOf x name → list_all (λ c. not (c == 0)) name ≡ true → length name ≤ 1024
    → kind_of 1 name 0 ≡ Some kind → IsOwnRow x (own_section (new_name_offset x name) 1 content 0 0 4 0) name kind
types_row x name content kind there none short is =
    own_row_from x name content kind 1 0 0 4 0 there none short is (omega arith) (omega arith) (omega arith) (omega arith) (omega arith)

symtab_own : (x : Object) (content : List ℕ) → IsOwnRow x (own_section (new_name_offset x (codes ".symtab")) SHT_SYMTAB content (symtab_number x + 1) (first_global x.symbols) 8 24) (codes ".symtab") Symbols
unfolding kind_of
symtab_own x content =
    own_row_from x (codes ".symtab") content Symbols SHT_SYMTAB (symtab_number x + 1) (first_global x.symbols) 8 24 (symtab_name_there x) refl (omega arith) refl
    (omega arith) (omega arith) (omega arith) (omega arith) (omega arith)

strtab_own : (x : Object) (content : List ℕ) → IsOwnRow x (own_section (new_name_offset x (codes ".strtab")) SHT_STRTAB content 0 0 1 0) (codes ".strtab") Dropped
unfolding kind_of
strtab_own x content =
    own_row_from x (codes ".strtab") content Dropped SHT_STRTAB 0 0 1 0 (strtab_name_there x) refl (omega arith) refl (omega arith) (omega arith) (omega arith)
    (omega arith) (omega arith)

btf_kind : kind_of 1 (codes ".BTF") 0 ≡ Some Types
unfolding kind_of
btf_kind = refl

extension_kind : kind_of 1 (codes ".BTF.ext") 0 ≡ Some Extension
unfolding kind_of
extension_kind = refl

-- .BTF.ext, if there is one
extension_own : (x : Object) (y : Bool) (content : List ℕ) → (y ≡ true → IsNameOf x (codes ".BTF.ext"))
    → EachOwn x ((if y then own_section (new_name_offset x (codes ".BTF.ext")) 1 content 0 0 4 0 ∷ [] else []) ++ last_sections x)
    ((if y then codes ".BTF.ext" ∷ [] else []) ++ (codes ".symtab" ∷ codes ".strtab" ∷ [])) ((if y then Extension ∷ [] else []) ++ (Symbols ∷ Dropped ∷ []))
unfolding new_name_offset
extension_own x true content there = (types_row x (codes ".BTF.ext") content Extension (there refl) refl (omega arith) extension_kind, (symtab_own x _, (strtab_own x _, tt)))
extension_own x false content there = (symtab_own x _, (strtab_own x _, tt))

extension_named : (x : Object) (t : ObjectTypes) → x.types ≡ Some t → has_extension t ≡ true → IsNameOf x (codes ".BTF.ext")
extension_named x t is has =
    types_name_there x (codes ".BTF.ext")
    (subst (λ (o : Option ObjectTypes). Has (types_names o) (codes ".BTF.ext")) (sym is)
    (subst (λ (y : Bool). Has (codes ".BTF" ∷ (if y then codes ".BTF.ext" ∷ [] else [])) (codes ".BTF.ext")) (sym has) (inr (inl refl))))

btf_named : (x : Object) (t : ObjectTypes) → x.types ≡ Some t → IsNameOf x (codes ".BTF")
btf_named x t is = types_name_there x (codes ".BTF") (subst (λ (o : Option ObjectTypes). Has (types_names o) (codes ".BTF")) (sym is) (inl refl))

each_own_of : (x : Object) (o : Option ObjectTypes) → x.types ≡ o
    → EachOwn x (types_sections x.order (new_name_offset x) o ++ last_sections x) (types_names o ++ (codes ".symtab" ∷ codes ".strtab" ∷ [])) (types_kinds o ++ (Symbols ∷ Dropped ∷ []))
unfolding new_name_offset
each_own_of x None is = (symtab_own x _, (strtab_own x _, tt))
each_own_of x (Some t) is = (
  types_row x (codes ".BTF") (btf_bytes x.order t) Types (btf_named x t is) refl (omega arith) btf_kind,
  extension_own x (has_extension t) (extension_bytes x.order (offset_of (types_strings t)) t) (extension_named x t is),
)

each_own : (x : Object) → EachOwn x (own_rows x) (own_names x) (own_kinds x)
unfolding new_name_offset
each_own x = each_own_of x x.types refl

-- how many they are
own_length : (x : Object) → length (own_rows x) ≡ own_count x
own_length x =
    own_lengths x (own_rows x) (own_names x) (own_kinds x) (each_own x)
    ∙ length-append (types_names x.types) (codes ".symtab" ∷ codes ".strtab" ∷ [])

pub row_count_is : (x : Object) → row_count x ≡ length x.sections + own_count x
unfolding row_count
row_count_is x =
    length-append (kept_rows x) (own_rows x)
    ∙ ap (λ (n : ℕ). n + length (own_rows x)) (length-map x.sections (written_section x.order (offset_of (file_strings x)) (symtab_number x)))
    ∙ ap (λ (n : ℕ). length x.sections + n) (own_length x)

pub own_row_is : (x : Object) (k : ℕ) → k < own_count x → IsOwnRow x (section_rows x (length x.sections + k)) (own_name x k) (own_kind x k)
unfolding own_name own_kind
own_row_is x k lt =
    subst (λ (w : WrittenSection). IsOwnRow x w (get_or (own_names x) k []) (get_or (own_kinds x) k Dropped)) (sym (own_row x k))
    (own_at x (own_rows x) (own_names x) (own_kinds x) (each_own x) k (rw (own_length x) lt))

-- ---- the last two

last_row : (x : Object) (k : ℕ) → section_rows x (symtab_row x + k) ≡ get_or (last_sections x) k no_section
unfolding new_name_offset
last_row x k =
    let before = types_sections x.order (new_name_offset x) x.types in
    let there : symtab_row x + k ≡ length x.sections + (length before + k) = omega (arith, own_length x, length-append before (last_sections x)) in
    ap (section_rows x) there ∙ own_row x (length before + k) ∙ get_or-append-add before (last_sections x) k no_section

-- the symbols
pub symtab_is : (x : Object) → section_rows x (symtab_row x)
    ≡ own_section (new_name_offset x (codes ".symtab")) SHT_SYMTAB (flat_map (symbol_bytes x.order (new_name_offset x)) x.symbols) (symtab_number x + 1) (first_global x.symbols) 8 24
unfolding new_name_offset
symtab_is x = ap (section_rows x) (omega arith) ∙ last_row x 0

-- the strings
pub strtab_is : (x : Object) → section_rows x (symtab_row x + 1) ≡ own_section (new_name_offset x (codes ".strtab")) SHT_STRTAB (name_table x) 0 0 1 0
unfolding new_name_offset name_table
strtab_is x = last_row x 1

-- ---- their kinds

-- the kinds of a list are different ones
abbrev IsNone : Kind → List Kind → Type 0
IsNone k [] = Unit {0}
IsNone k (j ∷ js) = (is_kind j (Some k) ≡ false) × IsNone k js

abbrev AreApart : List Kind → Type 0
AreApart [] = Unit {0}
AreApart (k ∷ ks) = IsNone k ks × AreApart ks

none_at : (k : Kind) (ks : List Kind) → IsNone k ks → (i : ℕ) → i < length ks → is_kind (get_or ks i Dropped) (Some k) ≡ false
none_at k [] none i lt = absurd (omega (arith, lt))
none_at k (j ∷ js) none zero lt = none.0
none_at k (j ∷ js) none (suc i) lt = none_at k js none.1 i (omega (arith, lt))

apart_at : (ks : List Kind) → AreApart ks → (j i : ℕ) → j < i → i < length ks → is_kind (get_or ks i Dropped) (Some (get_or ks j Dropped)) ≡ false
apart_at [] apart j i below lt = absurd (omega (arith, lt))
apart_at (k ∷ ks) apart j zero below lt = absurd (omega (arith, below))
apart_at (k ∷ ks) apart zero (suc i) below lt = none_at k ks apart.0 i (omega (arith, lt))
apart_at (k ∷ ks) apart (suc j) (suc i) below lt = apart_at ks apart.1 j i (omega (arith, below)) (omega (arith, lt))

with_extension : (y : Bool) → AreApart (Types ∷ ((if y then Extension ∷ [] else []) ++ (Symbols ∷ Dropped ∷ [])))
with_extension true = ((refl, (refl, (refl, tt))), ((refl, (refl, tt)), ((refl, tt), (tt, tt))))
with_extension false = ((refl, (refl, tt)), ((refl, tt), (tt, tt)))

kinds_apart : (o : Option ObjectTypes) → AreApart (types_kinds o ++ (Symbols ∷ Dropped ∷ []))
kinds_apart None = ((refl, tt), (tt, tt))
kinds_apart (Some t) = with_extension (has_extension t)

kinds_length : (o : Option ObjectTypes) → length (types_kinds o) ≡ length (types_names o)
kinds_length None = refl
kinds_length (Some t) = ap suc (if_length (has_extension t))
  where
    if_length : (y : Bool) → length (if y then Extension ∷ [] else []) ≡ length (if y then codes ".BTF.ext" ∷ [] else [])
    if_length true = refl
    if_length false = refl

own_kinds_length : (x : Object) → length (own_kinds x) ≡ own_count x
own_kinds_length x =
    length-append (types_kinds x.types) (Symbols ∷ Dropped ∷ []) ∙ ap (λ (n : ℕ). n + 2) (kinds_length x.types)

-- no two of them have one kind
pub own_apart : (x : Object) (j i : ℕ) → j < i → i < own_count x → is_kind (own_kind x i) (Some (own_kind x j)) ≡ false
unfolding own_kind
own_apart x j i below lt = apart_at (own_kinds x) (kinds_apart x.types) j i below (rw (own_kinds_length x) lt)

pub symtab_kind : (x : Object) → own_kind x (length (types_names x.types)) ≡ Symbols
unfolding own_kind
symtab_kind x =
    ap (λ (n : ℕ). get_or (own_kinds x) n Dropped) (omega (arith, kinds_length x.types))
    ∙ get_or-append-add (types_kinds x.types) (Symbols ∷ Dropped ∷ []) 0 Dropped

never_kept : (w : Kind) (ks : List Kind) → IsNone w ks → is_kind w (Some Dropped) ≡ false → (i : ℕ) → is_kind w (Some (get_or ks i Dropped)) ≡ false
never_kept w [] none d i = d
never_kept w (k ∷ ks) none d zero = other w k none.0
  where
    other : (w k : Kind) → is_kind k (Some w) ≡ false → is_kind w (Some k) ≡ false
    other Data Data h = h
    other Relocations Relocations h = h
    other Symbols Symbols h = h
    other Types Types h = h
    other Extension Extension h = h
    other Dropped Dropped h = h
    other _ _ h = refl
never_kept w (k ∷ ks) none d (suc i) = never_kept w ks none.1 d i

none_kept_if : (w : Kind) (y : Bool) → IsNone w (Types ∷ Extension ∷ Symbols ∷ Dropped ∷ []) → IsNone w (Types ∷ ((if y then Extension ∷ [] else []) ++ (Symbols ∷ Dropped ∷ [])))
none_kept_if w true n = n
none_kept_if w false n = (n.0, n.1.1)

none_kept : (w : Kind) (o : Option ObjectTypes) → IsNone w (Types ∷ Extension ∷ Symbols ∷ Dropped ∷ []) → IsNone w (types_kinds o ++ (Symbols ∷ Dropped ∷ []))
none_kept w None n = n.1.1
none_kept w (Some t) n = none_kept_if w (has_extension t) n

-- none of them is kept
pub own_not_data : (x : Object) (k : ℕ) → is_kind Data (Some (own_kind x k)) ≡ false
unfolding own_kind
own_not_data x k = never_kept Data (own_kinds x) (none_kept Data x.types (refl, (refl, (refl, (refl, tt))))) refl k

pub own_not_table : (x : Object) (k : ℕ) → is_kind Relocations (Some (own_kind x k)) ≡ false
unfolding own_kind
own_not_table x k = never_kept Relocations (own_kinds x) (none_kept Relocations x.types (refl, (refl, (refl, (refl, tt))))) refl k

-- ---- the types

own_never : (x : Object) (o : Option ObjectTypes) (w : Kind) → x.types ≡ o → IsNone w (types_kinds o ++ (Symbols ∷ Dropped ∷ [])) → is_kind w (Some Dropped) ≡ false
    → (k : ℕ) → is_kind w (Some (own_kind x k)) ≡ false
unfolding own_kind
own_never x o w is none dropped k =
    never_kept w (own_kinds x) (subst (λ (p : Option ObjectTypes). IsNone w (types_kinds p ++ (Symbols ∷ Dropped ∷ []))) (sym is) none) dropped k

-- an object without types has no section for them
pub no_types : (x : Object) → x.types ≡ None → (k : ℕ) → is_kind Types (Some (own_kind x k)) ≡ false
no_types x is k = own_never x None Types is (refl, (refl, tt)) refl k

pub no_extension : (x : Object) → x.types ≡ None → (k : ℕ) → is_kind Extension (Some (own_kind x k)) ≡ false
no_extension x is k = own_never x None Extension is (refl, (refl, tt)) refl k

pub no_extension_of : (x : Object) (t : ObjectTypes) → x.types ≡ Some t → has_extension t ≡ false → (k : ℕ) → is_kind Extension (Some (own_kind x k)) ≡ false
no_extension_of x t is none k =
    own_never x (Some t) Extension is
    (subst (λ (y : Bool). IsNone Extension (Types ∷ ((if y then Extension ∷ [] else []) ++ (Symbols ∷ Dropped ∷ [])))) (sym none) (refl, (refl, (refl, tt)))) refl k

-- .BTF is the first section that is written anew
pub types_kind : (x : Object) (t : ObjectTypes) → x.types ≡ Some t → own_kind x 0 ≡ Types
unfolding own_kind
types_kind x t is = ap (λ (o : Option ObjectTypes). get_or (types_kinds o ++ (Symbols ∷ Dropped ∷ [])) 0 Dropped) is

pub types_content : (x : Object) (t : ObjectTypes) → x.types ≡ Some t → (section_rows x (length x.sections + 0)).content ≡ btf_bytes x.order t
types_content x t is =
    ap (λ (w : WrittenSection). w.content) (own_row x 0)
    ∙ ap (λ (o : Option ObjectTypes). (get_or (types_sections x.order (offset_of (file_strings x)) o ++ last_sections x) 0 no_section).content) is

-- .BTF.ext is the next one
pub extension_kind_is : (x : Object) (t : ObjectTypes) → x.types ≡ Some t → has_extension t ≡ true → own_kind x 1 ≡ Extension
unfolding own_kind
extension_kind_is x t is has =
    ap (λ (o : Option ObjectTypes). get_or (types_kinds o ++ (Symbols ∷ Dropped ∷ [])) 1 Dropped) is
    ∙ ap (λ (y : Bool). get_or (Types ∷ ((if y then Extension ∷ [] else []) ++ (Symbols ∷ Dropped ∷ []))) 1 Dropped) has

pub extension_content : (x : Object) (t : ObjectTypes) → x.types ≡ Some t → has_extension t ≡ true
    → (section_rows x (length x.sections + 1)).content ≡ extension_bytes x.order (offset_of (types_strings t)) t
extension_content x t is has =
    let bytes = extension_bytes x.order (offset_of (types_strings t)) t in
    let place = offset_of (file_strings x) in
    ap (λ (w : WrittenSection). w.content) (own_row x 1)
    ∙ ap (λ (o : Option ObjectTypes). (get_or (types_sections x.order place o ++ last_sections x) 1 no_section).content) is
    ∙ ap (λ (y : Bool). (get_or (own_section (place (codes ".BTF")) 1 (btf_bytes x.order t) 0 0 4 0
    ∷ ((if y then own_section (place (codes ".BTF.ext")) 1 bytes 0 0 4 0 ∷ [] else []) ++ last_sections x)) 1 no_section).content) has

pub extension_below : (x : Object) (t : ObjectTypes) → x.types ≡ Some t → has_extension t ≡ true → length (types_names x.types) ≡ 2
extension_below x t is has =
    ap (λ (o : Option ObjectTypes). length (types_names o)) is ∙ ap (λ (y : Bool). length (codes ".BTF" ∷ (if y then codes ".BTF.ext" ∷ [] else []))) has
