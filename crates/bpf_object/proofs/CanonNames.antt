-- The names of an object read back from the string table of its canonical file.
use Rattle.std.proofs.Common.{◌≡◌, ℕ, zero, suc, ◌<◌, true, List, [], ◌∷◌, ◌++◌, length, get_or, map, codes, inl, inr, refl, arith}
use Rattle.bpf_elf.specs.Names.{is_closed, string_at}
use Rattle.btf_raw.specs.Names.{IsWithoutNul}
use Rattle.btf_types.specs.Names.{kept}
use Rattle.btf_types.proofs.Members.{Has}
use Rattle.bpf_object.specs.Objects.{Object}
use Rattle.bpf_object.specs.Canonical.{strings_of, offset_of, types_names, file_strings}
use Rattle.bpf_object.proofs.ReadBackStrings.{empty_string_in_table, name_in_table, name_below, table_closed}
use Rattle.bpf_object.proofs.CanonValid.{section_of, symbol_of, nothing, no_symbol}

-- ---- members of lists

pub has_left : {X : Type 0} (xs ys : List X) (x : X) → Has xs x → Has (xs ++ ys) x
has_left [] ys x h = absurd h
has_left (z ∷ zs) ys x (inl e) = inl e
has_left (z ∷ zs) ys x (inr h) = inr (has_left zs ys x h)

pub has_right : {X : Type 0} (xs ys : List X) (x : X) → Has ys x → Has (xs ++ ys) x
has_right [] ys x h = h
has_right (z ∷ zs) ys x h = inr (has_right zs ys x h)

pub has_mapped : {X Y : Type 0} (f : X → Y) (xs : List X) (k : ℕ) (d : X) → k < length xs → Has (map f xs) (f (get_or xs k d))
has_mapped f [] k d lt = absurd (omega (arith, lt))
has_mapped f (x ∷ xs) zero d lt = inl refl
has_mapped f (x ∷ xs) (suc k) d lt = inr (has_mapped f xs k d (omega (arith, lt)))

-- ---- a name of a table without shared bytes

pub name_reads : (xs : List (List ℕ)) (name : List ℕ) → Has xs name → IsWithoutNul name → string_at (strings_of xs) (offset_of xs name) ≡ name
name_reads xs [] has none = empty_string_in_table (kept xs)
name_reads xs (c ∷ cs) has none = name_in_table xs c cs has none

pub name_inside : (xs : List (List ℕ)) (name : List ℕ) → Has xs name → IsWithoutNul name → offset_of xs name < length (strings_of xs)
name_inside xs [] has none = omega arith
name_inside xs (c ∷ cs) has none = name_below xs c cs has none

-- ---- the table of a file

-- its bytes, and where a name is
unfoldable pub name_table : Object → List ℕ
name_table x = strings_of (file_strings x)

unfoldable pub new_name_offset : Object → List ℕ → ℕ
new_name_offset x name = offset_of (file_strings x) name

-- a name that the file has
pub IsNameOf : Object → List ℕ → Type 0
IsNameOf x name = Has (file_strings x) name

pub name_table_closed : (x : Object) → is_closed (name_table x) ≡ true
unfolding name_table
name_table_closed x = table_closed (kept (file_strings x))

pub file_name_reads : (x : Object) (name : List ℕ) → IsNameOf x name → IsWithoutNul name → string_at (name_table x) (new_name_offset x name) ≡ name
unfolding name_table new_name_offset IsNameOf
file_name_reads x name has none = name_reads (file_strings x) name has none

pub file_name_inside : (x : Object) (name : List ℕ) → IsNameOf x name → IsWithoutNul name → new_name_offset x name < length (name_table x)
unfolding name_table new_name_offset IsNameOf
file_name_inside x name has none = name_inside (file_strings x) name has none

pub empty_name_offset : (x : Object) → new_name_offset x [] ≡ 0
unfolding new_name_offset
empty_name_offset x = refl

-- ---- which names it has

-- the names that precede those of the symbols
abbrev kept_names : Object → List (List ℕ)
kept_names x = map (λ s. s.name) x.sections

abbrev table_names : List (List ℕ)
table_names = codes ".symtab" ∷ codes ".strtab" ∷ []

abbrev symbol_names : Object → List (List ℕ)
symbol_names x = map (λ s. s.name) x.symbols

before_symbols : (x : Object) (name : List ℕ) → Has (kept_names x ++ types_names x.types ++ table_names) name → IsNameOf x name
unfolding IsNameOf
before_symbols x name has = has_left (kept_names x ++ types_names x.types ++ table_names) (symbol_names x) name has

before_tables : (x : Object) (name : List ℕ) → Has (kept_names x ++ types_names x.types) name → IsNameOf x name
before_tables x name has = before_symbols x name (has_left (kept_names x ++ types_names x.types) table_names name has)

table_name_there : (x : Object) (name : List ℕ) → Has table_names name → IsNameOf x name
table_name_there x name has = before_symbols x name (has_right (kept_names x ++ types_names x.types) table_names name has)

pub section_name_there : (x : Object) (i : ℕ) → i < length x.sections → IsNameOf x (section_of x i).name
section_name_there x i lt =
    before_tables x (section_of x i).name
    (has_left (kept_names x) (types_names x.types) (section_of x i).name (has_mapped (λ s. s.name) x.sections i nothing lt))

pub types_name_there : (x : Object) (name : List ℕ) → Has (types_names x.types) name → IsNameOf x name
types_name_there x name has = before_tables x name (has_right (kept_names x) (types_names x.types) name has)

pub symbol_name_there : (x : Object) (j : ℕ) → j < length x.symbols → IsNameOf x (symbol_of x j).name
unfolding IsNameOf
symbol_name_there x j lt =
    has_right (kept_names x ++ types_names x.types ++ table_names) (symbol_names x) (symbol_of x j).name
    (has_mapped (λ s. s.name) x.symbols j no_symbol lt)

pub symtab_name_there : (x : Object) → IsNameOf x (codes ".symtab")
symtab_name_there x = table_name_there x (codes ".symtab") (inl refl)

pub strtab_name_there : (x : Object) → IsNameOf x (codes ".strtab")
strtab_name_there x = table_name_there x (codes ".strtab") (inr (inl refl))
