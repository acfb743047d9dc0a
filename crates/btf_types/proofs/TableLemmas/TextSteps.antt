-- The string at an offset of a section with NUL ends, and when it is a name.
use Rattle.std.proofs.Common.{◌≡◌, ◌≢◌, ◌⊎◌, ℕ, zero, suc, ◌-◌, ◌<◌, ◌≤◌, Bool, true, false, List, [], ◌∷◌, ◌++◌, length, get_or, take, drop, refl, sym, ap, subst, ◌∙◌, inl, inr, take-append-drop, append_assoc, arith}
use Rattle.std.specs.{Prelude.IsUtf8, Str.is_utf8}
use Rattle.std.proofs.lemmas.{Bool.cases_lt, Str.IsUtf8-from_is_utf8, Str.is_utf8-from_IsUtf8}
use Rattle.std.proofs.lemmas.List.{length-take-le, length-drop, get_or-drop}
use Rattle.btf_raw.specs.{Header.HasNulEnds, Names.TextAt, Names.NameAt, Names.IsWithoutNul}
use Rattle.btf_types.specs.Reading.{before_nul, text_from}

record FirstNul (xs : List ℕ) : Type 0 where
  rest : List ℕ
  parts : xs ≡ before_nul xs ++ 0 ∷ rest
  no_nul : IsWithoutNul (before_nul xs)

after_first : (x : ℕ) (text : List ℕ) → IsWithoutNul text → IsWithoutNul (suc x ∷ text)
after_first x text h zero lt e = absurd (omega arith)
after_first x text h (suc i) lt e = h i (omega arith) e

first_nul : (xs : List ℕ) (k : ℕ) → k < length xs → get_or xs k 0 ≡ 0 → FirstNul xs
first_nul [] k h e = absurd (omega arith)
first_nul (zero ∷ xs) k h e = record { rest = xs; parts = refl; no_nul = λ i lt. absurd (omega arith) }
first_nul (suc x ∷ xs) zero h e = absurd (omega arith)
first_nul (suc x ∷ xs) (suc k) h e =
    let more = first_nul xs k (omega arith) e in
    record {
      rest = more.rest;
      parts = ap (λ (t : List ℕ). suc x ∷ t) more.parts;
      no_nul = after_first x (before_nul xs) more.no_nul;
    }

pub text_there : (strings : List ℕ) (offset : ℕ) → HasNulEnds strings → offset < length strings → TextAt strings offset (text_from strings offset)
text_there strings offset ends h =
    let last : get_or (drop offset strings) (length strings - 1 - offset) 0 ≡ 0 =
    get_or-drop offset strings (length strings - 1 - offset) 0 ∙ subst (λ (i : ℕ). get_or strings i 0 ≡ 0) (omega arith) ends.last in
    let nul = first_nul (drop offset strings) (length strings - 1 - offset) (omega (arith, length-drop offset strings)) last in
    record {
      without_nul = nul.no_nul;
      before = take offset strings;
      after = nul.rest;
      at_offset = length-take-le offset strings (omega arith);
      is_there =
          sym (take-append-drop offset strings) ∙ ap (λ (t : List ℕ). take offset strings ++ t) nul.parts
          ∙ sym (append_assoc (take offset strings) (text_from strings offset) (0 ∷ nul.rest));
    }

pub decided : (b : Bool) → (b ≡ true) ⊎ (b ≡ false)
decided true = inl refl
decided false = inr refl

pub empty_or_not : (x : List ℕ) → (x ≡ []) ⊎ (x ≢ [])
empty_or_not [] = inl refl
empty_or_not (c ∷ x) = inr (λ e. absurd cc)

-- an offset within the section has a name unless its string isn't UTF-8
pub name_there : (strings : List ℕ) (offset : ℕ) → HasNulEnds strings → ¬ (length strings ≤ offset) → ((text : List ℕ) → TextAt strings offset text → ¬ ¬ IsUtf8 text)
    → NameAt strings offset (text_from strings offset)
name_there strings offset ends inside utf8 =
    elim (cases_lt offset (length strings)) [
      | inl lt ↦
          let x = text_from strings offset in
          let text = text_there strings offset ends lt in
          record {
            text = text;
            utf8 = elim (decided (is_utf8 x)) [
              | inl passes ↦ IsUtf8-from_is_utf8 x passes
              | inr fails ↦ absurd (utf8 x text (λ u. let passes = is_utf8-from_IsUtf8 x u in absurd cc))
            ];
          }
      | inr le ↦ absurd (inside le)
    ]
