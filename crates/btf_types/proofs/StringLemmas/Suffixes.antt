-- Suffixes as lists after a prefix, and which strings are suffixes of the same string.
use Rattle.std.proofs.Common.{◌≡◌, ◌≢◌, ℕ, ◌-◌, ◌<◌, ◌≤◌, true, not, inl, inr, List, [], ◌∷◌, ◌++◌, length, take, refl, sym, ap, ◌∙◌, arith, append_assoc}
use Rattle.std.specs.Str.{bytes_eq}
use Rattle.std.proofs.lemmas.Bool.{and_parts, and_from, both_ways, not-true, cases_Bool, cases_lt, Decides.Decides-eqb}
use Rattle.std.proofs.lemmas.{Slice.Eq.ends_is, Slice.Eq.bytes_eq-Decides, List.length-append}
use Rattle.btf_types.specs.{Names.is_other, strings.SharedNames.is_suffix, strings.SharedNames.is_proper_suffix}

-- y ends with x
abbrev pub Ends : List ℕ → List ℕ → Type 0
Ends x y = (front : List ℕ) × (y ≡ front ++ x)

pub Ends-from_suffix : (x y : List ℕ) → is_suffix x y ≡ true → Ends x y
Ends-from_suffix x y t = (take (length y - length x) y, (ends_is Decides-eqb y x (is_suffix x y) refl).0 t)

pub suffix_from_Ends : (x y : List ℕ) → Ends x y → is_suffix x y ≡ true
suffix_from_Ends x y (front, e) = (ends_is Decides-eqb y x (is_suffix x y) refl).1 front e

pub Ends-refl : (x : List ℕ) → Ends x x
Ends-refl x = ([], refl)

pub Ends-trans : (x y z : List ℕ) → Ends x y → Ends y z → Ends x z
Ends-trans x y z (f, e) (g, i) = (g ++ f, i ∙ ap (λ (t : List ℕ). g ++ t) e ∙ sym (append_assoc g f x))

pub Ends-length : (x y : List ℕ) → Ends x y → length x ≤ length y
Ends-length x y (f, e) = omega (arith, length-append f x, ap length e)

-- two ways to split a list: the longer prefix begins with the shorter
pub split_ends : (f g x y : List ℕ) → f ++ x ≡ g ++ y → length g ≤ length f → (m : List ℕ) × (f ≡ g ++ m) × (m ++ x ≡ y)
split_ends f [] x y e h = (f, refl, e)
split_ends [] (b ∷ g) x y e h = absurd (omega (arith, h))
split_ends (a ∷ f) (b ∷ g) x y e h =
    let heads : a ≡ b = cc in
    let tails : f ++ x ≡ g ++ y = cc in
    let i = split_ends f g x y tails (omega (arith, h)) in
    (i.0, cc, i.2)

-- if two strings are suffixes of the same string, the shorter is a suffix of the longer
pub Ends-shorter : (x y z : List ℕ) → Ends x z → Ends y z → length x ≤ length y → Ends x y
Ends-shorter x y z (f, e) (g, i) h =
    let s = split_ends f g x y (sym e ∙ i) (omega (arith, h, length-append f x, length-append g y, ap length e, ap length i)) in
    (s.0, sym s.2)

pub Ends-same_length : (x y : List ℕ) → Ends x y → length y ≤ length x → y ≡ x
Ends-same_length x y ([], e) h = e
Ends-same_length x y (b ∷ f, e) h = absurd (omega (arith, h, length-append f x, ap length e))

-- a proper suffix is a shorter one
pub Ends-from_proper : (x y : List ℕ) → is_proper_suffix x y ≡ true → Ends x y × (length x < length y)
Ends-from_proper x y t =
    let parts = and_parts (is_suffix x y) (is_other x y) t in
    let ends = Ends-from_suffix x y parts.0 in (
      ends,
      elim (cases_lt (length x) (length y)) [
        | inl l ↦ l
        | inr g ↦ absurd (both_ways (bytes_eq x y) (not-true _ parts.1) ((bytes_eq-Decides x y).1 (sym (Ends-same_length x y ends g))))
      ],
    )

pub proper_from_Ends : (x y : List ℕ) → Ends x y → x ≢ y → is_proper_suffix x y ≡ true
proper_from_Ends x y e n = and_from (is_suffix x y) (is_other x y) (suffix_from_Ends x y e) (elim (cases_Bool (bytes_eq x y)) [
  | inl t ↦ absurd (n ((bytes_eq-Decides x y).0 t))
  | inr f ↦ ap not f
])
