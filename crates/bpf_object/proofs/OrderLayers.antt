-- The order of records is total, and the key of a record depends only on the new numbers of earlier groups: so there is one order.
use Rattle.std.proofs.Common.{◌≡◌, ◌⊎◌, ℕ, zero, suc, ◌+◌, ◌<◌, ◌≤◌, ◌==◌, Bool, true, false, List, [], ◌∷◌, ◌++◌, length, get_or, inl, inr, refl, sym, ap, ◌∙◌, arith}
use Rattle.std.specs.Prelude.{if◌then◌else◌, nat_le, nat_lt}
use Rattle.std.specs.{Cmp.IsTotalOrder, Cmp.Lexicographic.slice_cmp}
use Rattle.std.specs.Ordering.{nat_cmp, ordering_then}
use Rattle.std.specs.declared.cmp.Ordering.{TheVariants.Less}
use Rattle.std.proofs.lemmas.Bool.{cases_Bool, cases_lt, eqb-true, leb-true, and_parts, lt-ltb, cond-true}
use Rattle.std.proofs.lemmas.Cmp.{then_total, on_total, nat_cmp_total, nat_list_cmp_total}
use Rattle.btf_raw.specs.KindNumbers.{FWD, VAR, DATASEC, TYPE_TAG}
use Rattle.btf_raw.specs.Frames.{third_word, kind}
use Rattle.btf_types.specs.Sections.{SectionWords}
use Rattle.bpf_object.specs.TypeOrder.{frame_of, tags_from, layer, group, has_layer, sorted_name, sorted_flag, key, compare_types, IsOrder}
use Rattle.bpf_object.proofs.OneOrder.{IsSequence, IsEarlier, one_sequence}

pub compare_total : (s : SectionWords) (f : ℕ → ℕ) → IsTotalOrder (compare_types s f)
compare_total s f = then_total (on_total (key s f) nat_list_cmp_total) nat_cmp_total

pub less : (a b : ℕ) → a < b → nat_cmp a b ≡ Less
less a b h = cond-true (nat_lt a b) Less _ (lt-ltb a b h)

pub lower_first : (s : SectionWords) (f : ℕ → ℕ) (a b : ℕ) → group s a < group s b → compare_types s f a b ≡ Less
lower_first s f a b lt = rw (less (group s a) (group s b) lt) refl

-- ---- layers

-- once the TYPE_TAG have ended, more aren't found
pub tags_ended : (s : SectionWords) (m id : ℕ) → tags_from s m id < m → tags_from s (suc m) id ≡ tags_from s m id
tags_ended s zero id lt = absurd (omega (arith, lt))
tags_ended s (suc m) id lt = elim (cases_Bool (kind (frame_of s id) == TYPE_TAG)) [
  | inl tag ↦
      let t = third_word (frame_of s id) in
      let now : tags_from s (suc m) id ≡ suc (tags_from s m t) = rw tag refl in
      let next : tags_from s (suc (suc m)) id ≡ suc (tags_from s (suc m) t) = rw tag refl in
      next ∙ ap suc (tags_ended s m t (omega (arith, lt, now))) ∙ sym now
  | inr other ↦
      let now : tags_from s (suc m) id ≡ 0 = rw other refl in
      let next : tags_from s (suc (suc m)) id ≡ 0 = rw other refl in
      next ∙ sym now
]

no_frame : (fs : List (List ℕ)) (i : ℕ) → length fs ≤ i → get_or fs i [] ≡ []
no_frame [] i le = refl
no_frame (f ∷ fs) zero le = absurd (omega (arith, le))
no_frame (f ∷ fs) (suc i) le = no_frame fs i (omega (arith, le))

pub frame_out : (s : SectionWords) (id : ℕ) → (id ≡ 0) ⊎ (length s.frames < id) → frame_of s id ≡ []
frame_out s zero out = refl
frame_out s (suc i) (inl none) = absurd (omega (arith, none))
frame_out s (suc i) (inr over) = no_frame s.frames i (omega (arith, over))

-- the group of a TYPE_TAG, and of what is none
pub tag_group : (s : SectionWords) (id : ℕ) → kind (frame_of s id) ≡ TYPE_TAG → group s id ≡ 3 + layer s id
tag_group s id is = rw is refl

choose_low : (v d w t : Bool) (l : ℕ) → t ≡ false → (if v then 1 else if d then 2 else if w then 3 else if t then 3 + l else 0) ≤ 3
choose_low true d w t l none = omega arith
choose_low false true w t l none = omega arith
choose_low false false true t l none = omega arith
choose_low false false false t l none = rw none (omega arith)

pub other_group : (s : SectionWords) (id : ℕ) → (kind (frame_of s id) == TYPE_TAG) ≡ false → group s id ≤ 3
other_group s id other =
    let k = kind (frame_of s id) in
    choose_low (k == VAR) (k == DATASEC) (k == FWD) (k == TYPE_TAG) (layer s id) other

-- the type of a TYPE_TAG in a layer is in an earlier group
pub tag_above : (s : SectionWords) (id : ℕ) → kind (frame_of s id) ≡ TYPE_TAG → layer s id ≤ length s.frames → group s (third_word (frame_of s id)) < group s id
tag_above s id is le =
    let t = third_word (frame_of s id) in
    let n = length s.frames in
    let tag : (kind (frame_of s id) == TYPE_TAG) ≡ true = rw is refl in
    let up : layer s id ≡ suc (tags_from s n t) = rw tag refl in
    let ended : layer s t ≡ tags_from s n t = tags_ended s n t (omega (arith, le, up)) in
    elim (cases_Bool (kind (frame_of s t) == TYPE_TAG)) [
      | inl also ↦ omega (arith, up, ended, tag_group s id is, tag_group s t (eqb-true (kind (frame_of s t)) TYPE_TAG also))
      | inr other ↦ omega (arith, up, tag_group s id is, other_group s t other)
    ]

-- ---- keys

choose_type : (b : Bool) (x y : ℕ) → (b ≡ true → x ≡ y) → (if b then x else 0) ≡ (if b then y else 0)
choose_type true x y same = same refl
choose_type false x y same = refl

pub key_same : (s : SectionWords) (f g : ℕ → ℕ) (id : ℕ) → (kind (frame_of s id) ≡ TYPE_TAG → layer s id ≤ length s.frames → f (third_word (frame_of s id)) ≡ g (third_word (frame_of s id)))
    → key s f id ≡ key s g id
key_same s f g id same =
    let k = kind (frame_of s id) in
    let t = third_word (frame_of s id) in
    ap (λ (u : ℕ). group s id ∷ length (sorted_name s id) ∷ (sorted_name s id ++ sorted_flag s id ∷ u ∷ []))
    (choose_type (has_layer s id) (f t) (g t)
    (λ both.
    let parts = and_parts (k == TYPE_TAG) (nat_le (layer s id) (length s.frames)) both in
    same (eqb-true k TYPE_TAG parts.0) (leb-true (layer s id) (length s.frames) parts.1)))

abbrev pub Earlier : SectionWords → ℕ → ℕ → Type 0
Earlier s t a = IsEarlier (length s.frames) (group s) (compare_types s) (compare_total s) (lower_first s) t a

type_earlier : (s : SectionWords) (id : ℕ) → kind (frame_of s id) ≡ TYPE_TAG → layer s id ≤ length s.frames → Earlier s (third_word (frame_of s id)) id
type_earlier s id is le =
    let t = third_word (frame_of s id) in
    let above = tag_above s id is le in
    elim (cases_lt 0 t) [
      | inr none ↦ inl (inl (omega (arith, none)))
      | inl some ↦ elim (cases_lt (length s.frames) t) [ inl over ↦ inl (inr over) | inr within ↦ inr (some, omega (arith, within), above) ]
    ]

pub depends : (s : SectionWords) (f g : ℕ → ℕ) (a b : ℕ) → ((t : ℕ) → Earlier s t a → f t ≡ g t) → ((t : ℕ) → Earlier s t b → f t ≡ g t)
    → compare_types s f a b ≡ compare_types s g a b
depends s f g a b left right =
    let first = key_same s f g a (λ is le. left (third_word (frame_of s a)) (type_earlier s a is le)) in
    let second = key_same s f g b (λ is le. right (third_word (frame_of s b)) (type_earlier s b is le)) in
    ap (λ (k : List ℕ). ordering_then (slice_cmp nat_cmp k (key s f b)) (nat_cmp a b)) first
    ∙ ap (λ (k : List ℕ). ordering_then (slice_cmp nat_cmp (key s g a) k) (nat_cmp a b)) second

abbrev pub Sequence : SectionWords → List ℕ → Type 0
Sequence s ids = IsSequence (length s.frames) (group s) (compare_types s) (compare_total s) (lower_first s) ids

pub sequence_of : (s : SectionWords) (ids : List ℕ) → IsOrder s ids → Sequence s ids
sequence_of s ids is = record { are = is.permutation; sorted = is.sorted }

-- records have one order
pub one_order : (s : SectionWords) (p q : List ℕ) → IsOrder s p → IsOrder s q → p ≡ q
one_order s p q left right =
    one_sequence (length s.frames) (group s) (compare_types s) (compare_total s) (lower_first s) (depends s) p q (sequence_of s p left) (sequence_of s q right)
