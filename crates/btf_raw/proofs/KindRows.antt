-- What the table of kinds says of a number: what the row of its kind says, or what is said of a number that isn't one of a kind.
use Rattle.std.proofs.Common.{◌≡◌, ◌⊎◌, ℕ, Bool, true, false, List, [], ◌∷◌, inl, inr, refl, sym, ap, subst}
use Rattle.std.specs.Prelude.{IsTrue, map, ◌==◌, if◌then◌else◌, ⊤}
use Rattle.std.proofs.lemmas.Bool.{eqb-true}
use Rattle.btf_raw.specs.declared.info.Layout.{Layout}
use Rattle.btf_raw.specs.Kinds.{has_item_names, layouts, layout_in, layout_of, no_layout}

-- what holds of the number of each row
abbrev pub OfEachRow : (ℕ → Type 0) → List (ℕ × Layout) → Type 0
OfEachRow P [] = ⊤
OfEachRow P (row ∷ rows) = P row.0 × OfEachRow P rows

-- the numbers of the kinds
abbrev pub kind_numbers : List ℕ
kind_numbers = map (λ row. row.0) layouts

row_or_rest : (P : ℕ → Type 0) (n k : ℕ) (row rest : Layout) → P n → P k ⊎ (rest ≡ no_layout) → P k ⊎ ((if k == n then row else rest) ≡ no_layout)
row_or_rest P n k row rest here (inl there) = inl there
row_or_rest P n k row rest here (inr none) = split (k == n) refl
  where
    split : (b : Bool) → (k == n) ≡ b → P k ⊎ ((if b then row else rest) ≡ no_layout)
    split true e = inl (subst P (sym (eqb-true k n e)) here)
    split false e = inr none

row_or_none : (P : ℕ → Type 0) (rows : List (ℕ × Layout)) (k : ℕ) → OfEachRow P rows → P k ⊎ (layout_in rows k ≡ no_layout)
row_or_none P [] k each = inr refl
row_or_none P (row ∷ rows) k each = row_or_rest P row.0 k row.1 (layout_in rows k) each.0 (row_or_none P rows k each.1)

-- a number for which items have names is that of a row
pub named_row : (P : ℕ → Type 0) (k : ℕ) → OfEachRow P layouts → IsTrue (has_item_names k) → P k
unfolding has_item_names
named_row P k each h = elim (row_or_none P layouts k each) [
  | inl there ↦ there
  | inr none ↦ let not : has_item_names k ≡ false = ap (λ (row : Layout). row.item.named) none in absurd cc
]
