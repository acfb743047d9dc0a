-- Records with the same keys have the same order.
use Rattle.std.proofs.Common.{◌≡◌, ℕ, zero, suc, ◌+◌, ◌<◌, ◌==◌, ◌&&◌, ◌||◌, Bool, true, false, List, [], ◌∷◌, ◌++◌, length, get_or, inl, inr, refl, sym, ap, ◌∙◌, arith}
use Rattle.std.specs.Prelude.{if◌then◌else◌, nat_le}
use Rattle.std.specs.{Cmp.Lexicographic.slice_cmp, List.range_with_len}
use Rattle.std.specs.List.Sorted.{IsPermutation}
use Rattle.std.specs.Ordering.{nat_cmp, ordering_then}
use Rattle.std.specs.declared.cmp.Ordering.{Ordering, TheVariants.Less, TheVariants.Equal, TheVariants.Greater}
use Rattle.std.proofs.lemmas.Bool.{cases_Bool, eqb-true}
use Rattle.std.proofs.lemmas.Map.Keys.{Less-from_sorted, sorted_from_all_adjacent}
use Rattle.bpf_elf.specs.Names.{string_at}
use Rattle.btf_raw.specs.KindNumbers.{FWD, VAR, DATASEC, TYPE_TAG}
use Rattle.btf_raw.specs.Frames.{name_word, third_word, kind, flag}
use Rattle.btf_types.specs.Sections.{SectionWords}
use Rattle.bpf_object.specs.TypeOrder.{frame_of, tags_from, layer, group, has_layer, is_sorted, sorted_name, sorted_flag, sorted_type, key, compare_types, new_number, IsOrder}
use Rattle.bpf_object.proofs.OrderLayers.{compare_total}

-- the kinds that are sorted
abbrev pub is_ranked : ℕ → Bool
is_ranked k = k == VAR || (k == FWD || k == TYPE_TAG)

-- type m t of the second is like type t of the first
pub record IsAlike (s w : SectionWords) (m : ℕ → ℕ) (t : ℕ) : Type 0 where
  pub same_kind : kind (frame_of w (m t)) ≡ kind (frame_of s t)
  pub same_name :
      is_ranked (kind (frame_of s t)) ≡ true → string_at w.strings (name_word (frame_of w (m t))) ≡ string_at s.strings (name_word (frame_of s t))
  pub same_flag : is_ranked (kind (frame_of s t)) ≡ true → flag (frame_of w (m t)) ≡ flag (frame_of s t)
  pub same_third : kind (frame_of s t) ≡ TYPE_TAG → third_word (frame_of w (m t)) ≡ m (third_word (frame_of s t))

choose : {X : Type 0} (b : Bool) (x y none : X) → (b ≡ true → x ≡ y) → (if b then x else none) ≡ (if b then y else none)
choose true x y none same = same refl
choose false x y none same = refl

ranked_kind : (v w x low : Bool) → (v || (w || (x && low))) ≡ true → (v || (w || x)) ≡ true
ranked_kind true w x low is = refl
ranked_kind false true x low is = refl
ranked_kind false false true low is = refl
ranked_kind false false false low is = absurd cc

tag_kind : (x low : Bool) → (x && low) ≡ true → x ≡ true
tag_kind true low is = refl
tag_kind false low is = absurd cc

abbrev groups : ℕ → ℕ → ℕ
groups k l = if k == VAR then 1 else if k == DATASEC then 2 else if k == FWD then 3 else if k == TYPE_TAG then 3 + l else 0

-- what decides, then the numbers
decided : (o p q : Ordering) → ordering_then o p ≡ Less → (p ≡ Less → q ≡ Less) → ordering_then o q ≡ Less
decided Less p q first more = refl
decided Equal p q first more = more first
decided Greater p q first more = absurd cc

module _ (s w : SectionWords) (m : ℕ → ℕ) (size : length w.frames ≡ length s.frames) (alike : (t : ℕ) → IsAlike s w m t) where
  tags_alike : (k t : ℕ) → tags_from w k (m t) ≡ tags_from s k t
  tags_alike zero t = refl
  tags_alike (suc k) t =
      let same : (kind (frame_of w (m t)) == TYPE_TAG) ≡ (kind (frame_of s t) == TYPE_TAG) = ap (λ (j : ℕ). j == TYPE_TAG) (alike t).same_kind in
      elim (cases_Bool (kind (frame_of s t) == TYPE_TAG)) [
        | inl tag ↦
            let also : (kind (frame_of w (m t)) == TYPE_TAG) ≡ true = same ∙ tag in
            let left : tags_from w (suc k) (m t) ≡ suc (tags_from w k (third_word (frame_of w (m t)))) = rw also refl in
            let right : tags_from s (suc k) t ≡ suc (tags_from s k (third_word (frame_of s t))) = rw tag refl in
            let to = (alike t).same_third (eqb-true (kind (frame_of s t)) TYPE_TAG tag) in
            left ∙ ap (λ (u : ℕ). suc (tags_from w k u)) to ∙ ap suc (tags_alike k (third_word (frame_of s t))) ∙ sym right
        | inr other ↦
            let also : (kind (frame_of w (m t)) == TYPE_TAG) ≡ false = same ∙ other in
            let left : tags_from w (suc k) (m t) ≡ 0 = rw also refl in
            let right : tags_from s (suc k) t ≡ 0 = rw other refl in
            left ∙ sym right
      ]

  layer_alike : (t : ℕ) → layer w (m t) ≡ layer s t
  layer_alike t = ap (λ (n : ℕ). tags_from w (suc n) (m t)) size ∙ tags_alike (suc (length s.frames)) t

  group_alike : (t : ℕ) → group w (m t) ≡ group s t
  group_alike t =
      ap (λ (k : ℕ). groups k (layer w (m t))) (alike t).same_kind ∙ ap (λ (l : ℕ). groups (kind (frame_of s t)) l) (layer_alike t)

  layered_alike : (t : ℕ) → has_layer w (m t) ≡ has_layer s t
  layered_alike t =
      ap (λ (k : ℕ). k == TYPE_TAG && nat_le (layer w (m t)) (length w.frames)) (alike t).same_kind
      ∙ ap (λ (l : ℕ). kind (frame_of s t) == TYPE_TAG && nat_le l (length w.frames)) (layer_alike t)
      ∙ ap (λ (n : ℕ). kind (frame_of s t) == TYPE_TAG && nat_le (layer s t) n) size

  sorted_alike : (t : ℕ) → is_sorted w (m t) ≡ is_sorted s t
  sorted_alike t =
      ap (λ (k : ℕ). k == VAR || (k == FWD || has_layer w (m t))) (alike t).same_kind
      ∙ ap (λ (b : Bool). kind (frame_of s t) == VAR || (kind (frame_of s t) == FWD || b)) (layered_alike t)

  module _ (f g : ℕ → ℕ) (same : (t : ℕ) → g (m t) ≡ f t) where
    key_alike : (t : ℕ) → key w g (m t) ≡ key s f t
    key_alike t =
        let k = kind (frame_of s t) in
        let low = nat_le (layer s t) (length s.frames) in
        let name = string_at w.strings (name_word (frame_of w (m t))) in
        let fl = flag (frame_of w (m t)) in
        let to = g (third_word (frame_of w (m t))) in
        let names : sorted_name w (m t) ≡ sorted_name s t =
        ap (λ (b : Bool). if b then name else []) (sorted_alike t)
        ∙ choose (is_sorted s t) name (string_at s.strings (name_word (frame_of s t))) [] (λ is. (alike t).same_name (ranked_kind (k == VAR) (k == FWD) (k == TYPE_TAG) low is)) in
        let flags : sorted_flag w (m t) ≡ sorted_flag s t =
        ap (λ (b : Bool). if b then fl else 0) (sorted_alike t)
        ∙ choose (is_sorted s t) fl (flag (frame_of s t)) 0 (λ is. (alike t).same_flag (ranked_kind (k == VAR) (k == FWD) (k == TYPE_TAG) low is)) in
        let types : sorted_type w g (m t) ≡ sorted_type s f t =
        ap (λ (b : Bool). if b then to else 0) (layered_alike t)
        ∙ choose (has_layer s t) to (f (third_word (frame_of s t))) 0
        (λ is. ap g ((alike t).same_third (eqb-true k TYPE_TAG (tag_kind (k == TYPE_TAG) low is))) ∙ same (third_word (frame_of s t))) in
        ap (λ (n : ℕ). n ∷ length (sorted_name w (m t)) ∷ (sorted_name w (m t) ++ sorted_flag w (m t) ∷ sorted_type w g (m t) ∷ [])) (group_alike t)
        ∙ ap (λ (name : List ℕ). group s t ∷ length name ∷ (name ++ sorted_flag w (m t) ∷ sorted_type w g (m t) ∷ [])) names
        ∙ ap (λ (fl : ℕ). group s t ∷ length (sorted_name s t) ∷ (sorted_name s t ++ fl ∷ sorted_type w g (m t) ∷ [])) flags
        ∙ ap (λ (u : ℕ). group s t ∷ length (sorted_name s t) ∷ (sorted_name s t ++ sorted_flag s t ∷ u ∷ [])) types

  -- an order of the first is one of the second, if equal ones rise there as well
  pub alike_order : (p q : List ℕ) → IsOrder s p → IsPermutation (range_with_len 1 (length w.frames)) q → ((t : ℕ) → new_number q (m t) ≡ new_number p t) → length q ≡ length p
      → ((k : ℕ) → k < length p → get_or q k 0 ≡ m (get_or p k 0))
      → ((k : ℕ) → k + 1 < length p → nat_cmp (get_or p k 0) (get_or p (k + 1) 0) ≡ Less → nat_cmp (get_or q k 0) (get_or q (k + 1) 0) ≡ Less)
      → IsOrder w q
  alike_order p q is are same whole each ties = record {
    permutation = are;
    sorted = sorted_from_all_adjacent (compare_total w (new_number q)) q 0 (λ k lt.
        let there : k + 1 < length p = omega (arith, lt, whole) in
        let rises = Less-from_sorted (compare_types s (new_number p)) p k (k + 1) 0 is.sorted (omega arith) there in
        let first : key w (new_number q) (get_or q k 0) ≡ key s (new_number p) (get_or p k 0) =
        ap (key w (new_number q)) (each k (omega (arith, there))) ∙ key_alike (new_number p) (new_number q) same (get_or p k 0) in
        let second : key w (new_number q) (get_or q (k + 1) 0) ≡ key s (new_number p) (get_or p (k + 1) 0) =
        ap (key w (new_number q)) (each (k + 1) there) ∙ key_alike (new_number p) (new_number q) same (get_or p (k + 1) 0) in
        let by = decided (slice_cmp nat_cmp (key s (new_number p) (get_or p k 0)) (key s (new_number p) (get_or p (k + 1) 0))) _ _ rises (ties k there) in
        ap (λ (a : List ℕ). ordering_then (slice_cmp nat_cmp a (key w (new_number q) (get_or q (k + 1) 0))) (nat_cmp (get_or q k 0) (get_or q (k + 1) 0))) first
        ∙ ap (λ (b : List ℕ). ordering_then (slice_cmp nat_cmp (key s (new_number p) (get_or p k 0)) b) (nat_cmp (get_or q k 0) (get_or q (k + 1) 0))) second
        ∙ by);
  }
