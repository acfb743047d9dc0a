-- The first sections, of which each has been looked at.
use Rattle.std.proofs.Common.{◌≡◌, ℕ, zero, suc, ◌+◌, ◌<◌, ◌≤◌, true, false, None, List, length, inl, inr, refl, subst, add-one, arith}
use Rattle.std.proofs.lemmas.Bool.{cases_lt}
use Rattle.bpf_elf.specs.declared.kinds.Kind.{Kind, TheVariants.Data, TheVariants.Relocations, TheVariants.Symbols, TheVariants.Types, TheVariants.Extension, TheVariants.Dropped}
use Rattle.bpf_elf.specs.Kinds.{is_kind}
use Rattle.bpf_elf.specs.Sections.{kind, kept_size, kept_total}
use Rattle.bpf_elf.specs.Headers.{IsKnown, AreKnown, IsTotal}

pub known_more : (b : List ℕ) (n : ℕ) → AreKnown b n → IsKnown b n → AreKnown b (n + 1)
known_more b n before here i lt =
    elim (cases_lt i n) [
      | inl below ↦ before i below
      | inr from ↦
          let same : n ≡ i = omega arith in
          subst (IsKnown b) same here
    ]

-- the size of one more section is added to the total
pub total_more : (b : List ℕ) (n total size : ℕ) → IsTotal b n total → size ≡ kept_size b n → total + size ≤ length b → IsTotal b (n + 1) (total + size)
total_more b n total size before here short = record { value = rw (add-one, before.value, here) refl; small = short }

pub false_more : (b : List ℕ) (k : Kind) (n : ℕ) → ((i : ℕ) → i < n → is_kind k (kind b i) ≡ false) → is_kind k (kind b n) ≡ false → (i : ℕ) → i < n + 1
    → is_kind k (kind b i) ≡ false
false_more b k n before here i lt =
    elim (cases_lt i n) [
      | inl below ↦ before i below
      | inr from ↦
          let same : n ≡ i = omega arith in
          subst (λ (j : ℕ). is_kind k (kind b j) ≡ false) same here
    ]

none_is : (k : Kind) → is_kind k None ≡ false
none_is Data = refl
none_is Relocations = refl
none_is Symbols = refl
none_is Types = refl
none_is Extension = refl
none_is Dropped = refl

-- section 0 has no kind
pub not_zero : (b : List ℕ) (k : Kind) (i : ℕ) → is_kind k (kind b i) ≡ true → 0 < i
not_zero b k zero here = let none = none_is k in cc
not_zero b k (suc i) here = omega arith
