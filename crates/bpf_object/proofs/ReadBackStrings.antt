-- Strings of a table read back at their offsets.
use Rattle.std.proofs.Common.{◌≡◌, ℕ, zero, suc, ◌+◌, ◌-◌, ◌<◌, ◌==◌, Bool, true, cond, not, List, [], ◌∷◌, ◌++◌, length, drop, refl, sym, ap, ◌∙◌, append_assoc, length-append, arith}
use Rattle.std.specs.Prelude.{take_while, slice_index}
use Rattle.std.specs.List.{flat_map}
use Rattle.std.proofs.lemmas.Bool.Decides.{nat_tests}
use Rattle.std.proofs.lemmas.List.{drop_at, get_or_at, Sums.take_while-cons}
use Rattle.bpf_elf.specs.Names.{is_closed, string_at}
use Rattle.btf_raw.specs.{Header.HasNulEnds, Names.IsWithoutNul, Names.TextAt}
use Rattle.btf_types.specs.{Names.kept, Names.with_nul, Names.table_of, Names.offset_within, Reading.before_nul, Reading.text_from}
use Rattle.btf_types.proofs.Members.{Has}
use Rattle.btf_types.proofs.StringLemmas.Texts.{Has-kept, text_at_offset, empty_at_zero}

-- a byte that isn't NUL
abbrev is_some : ℕ → Bool
is_some c = not (c == 0)

some_passes : (c : ℕ) → ¬ (c ≡ 0) → is_some c ≡ true
some_passes c other = grind (arith, nat_tests)

-- both libraries read a string in the same way
pub string_is_text : (strings : List ℕ) (off : ℕ) → string_at strings off ≡ text_from strings off
string_is_text strings off = reads (drop off strings)
  where
    reads : (bytes : List ℕ) → take_while is_some bytes ≡ before_nul bytes
    reads [] = refl
    reads (zero ∷ bytes) = take_while-cons is_some zero bytes
    reads (suc c ∷ bytes) =
        take_while-cons is_some (suc c) bytes ∙ ap (λ (q : Bool). cond q (suc c ∷ take_while is_some bytes) []) (some_passes (suc c) (λ e. omega (arith, e)))
        ∙ ap (λ (t : List ℕ). suc c ∷ t) (reads bytes)

-- a string without NUL, before a NUL
before_first_nul : (x rest : List ℕ) → IsWithoutNul x → before_nul (x ++ 0 ∷ rest) ≡ x
before_first_nul [] rest none = refl
before_first_nul (zero ∷ x) rest none = absurd (none 0 (omega arith) refl)
before_first_nul (suc c ∷ x) rest none = ap (λ (t : List ℕ). suc c ∷ t) (before_first_nul x rest (λ i lt. none (suc i) (omega (arith, lt))))

-- a string that is at an offset is read there
pub text_read : (strings : List ℕ) (off : ℕ) (x : List ℕ) → TextAt strings off x → text_from strings off ≡ x
text_read strings off x t =
    let whole : strings ≡ t.before ++ (x ++ 0 ∷ t.after) = t.is_there ∙ append_assoc t.before x (0 ∷ t.after) in
    ap (λ (s : List ℕ). text_from s off) whole ∙ ap before_nul (drop_at t.before (x ++ 0 ∷ t.after) off t.at_offset) ∙ before_first_nul x t.after t.without_nul

pub string_read : (strings : List ℕ) (off : ℕ) (x : List ℕ) → TextAt strings off x → string_at strings off ≡ x
string_read strings off x t = string_is_text strings off ∙ text_read strings off x t

-- and its NUL is inside
pub text_inside : (strings : List ℕ) (off : ℕ) (x : List ℕ) → TextAt strings off x → off + length x < length strings
text_inside strings off x t =
    let place = t.at_offset in
    omega (arith, ap length t.is_there, length-append (t.before ++ x) (0 ∷ t.after), length-append t.before x)

-- ---- the table of a list of strings

module _ (ks : List (List ℕ)) (x : List ℕ) (has : Has ks x) (none : IsWithoutNul x) where
  -- a string of the list is at its offset
  pub string_in_table : string_at (table_of ks) (offset_within ks x) ≡ x
  string_in_table = string_read (table_of ks) (offset_within ks x) x (text_at_offset ks x has none)

  pub text_in_table : text_from (table_of ks) (offset_within ks x) ≡ x
  text_in_table = text_read (table_of ks) (offset_within ks x) x (text_at_offset ks x has none)

  pub place_below : offset_within ks x < length (table_of ks)
  place_below = let inside = text_inside (table_of ks) (offset_within ks x) x (text_at_offset ks x has none) in omega (arith, inside)

-- the empty string is at 0
pub empty_string_in_table : (ks : List (List ℕ)) → string_at (table_of ks) 0 ≡ []
empty_string_in_table ks = string_read (table_of ks) 0 [] (empty_at_zero ks)

-- a name that isn't empty is at its offset in the table of the distinct ones
pub name_in_table : (xs : List (List ℕ)) (c : ℕ) (cs : List ℕ) → Has xs (c ∷ cs) → IsWithoutNul (c ∷ cs)
    → string_at (table_of (kept xs)) (offset_within (kept xs) (c ∷ cs)) ≡ c ∷ cs
name_in_table xs c cs has none = string_in_table (kept xs) (c ∷ cs) (Has-kept xs c cs has) none

pub name_below : (xs : List (List ℕ)) (c : ℕ) (cs : List ℕ) → Has xs (c ∷ cs) → IsWithoutNul (c ∷ cs) → offset_within (kept xs) (c ∷ cs) < length (table_of (kept xs))
name_below xs c cs has none = place_below (kept xs) (c ∷ cs) (Has-kept xs c cs has) none

-- the table begins and ends with NUL
table_front : (ks : List (List ℕ)) → (front : List ℕ) × (table_of ks ≡ front ++ 0 ∷ [])
table_front [] = ([], refl)
table_front (k ∷ ks) =
    let rest = table_front ks in (
      (0 ∷ k) ++ rest.0,
      ap (λ (t : List ℕ). 0 ∷ t) (append_assoc k (0 ∷ []) (flat_map with_nul ks) ∙ ap (λ (t : List ℕ). k ++ t) rest.1 ∙ sym (append_assoc k rest.0 (0 ∷ []))),
    )

pub table_ends : (ks : List (List ℕ)) → HasNulEnds (table_of ks)
table_ends ks =
    let t = table_front ks in
    let at : length (table_of ks) - 1 ≡ length t.0 = omega (arith, ap length t.1, length-append t.0 (0 ∷ [])) in
    record {
      some = omega arith;
      first = refl;
      last = ap (λ (k : ℕ). slice_index (table_of ks) k) at ∙ ap (λ (s : List ℕ). slice_index s (length t.0)) t.1 ∙ get_or_at t.0 0 [] 0 (length t.0) refl;
    }

-- the tests of bpf_elf for it, and what they tell
pub closed_from_ends : (strings : List ℕ) → HasNulEnds strings → is_closed strings ≡ true
closed_from_ends strings ends = let some = ends.some in let first = ends.first in let last = ends.last in grind (arith, nat_tests)

pub ends_from_closed : (strings : List ℕ) → is_closed strings ≡ true → HasNulEnds strings
ends_from_closed strings closed = record { some = grind (arith, nat_tests); first = grind (arith, nat_tests); last = grind (arith, nat_tests) }

pub table_closed : (ks : List (List ℕ)) → is_closed (table_of ks) ≡ true
table_closed ks = closed_from_ends (table_of ks) (table_ends ks)
