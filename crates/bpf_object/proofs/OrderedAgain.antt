-- Records in their order, with their new numbers, are in order.
use Rattle.std.proofs.Common.{◌≡◌, ◌⊎◌, ℕ, zero, suc, ◌+◌, ◌<◌, ◌==◌, Bool, true, false, List, [], ◌∷◌, length, get_or, map, inl, inr, refl, sym, ap, subst, ◌∙◌, arith}
use Rattle.std.specs.Prelude.{if◌then◌else◌}
use Rattle.std.specs.{List.range_with_len}
use Rattle.std.specs.List.Sorted.{IsPermutation}
use Rattle.std.proofs.lemmas.Bool.{cases_lt, cases_eq, ne_eqb}
use Rattle.std.proofs.lemmas.List.{get_or-map, length-map}
use Rattle.std.proofs.lemmas.List.FromFn.{length-range_with_len, get_or-range_with_len}
use Rattle.std.proofs.lemmas.List.Sorted.{IsPermutation-refl}
use Rattle.bpf_elf.specs.Names.{string_at}
use Rattle.btf_raw.specs.KindNumbers.{TYPE_TAG}
use Rattle.btf_raw.specs.Kinds.{has_target}
use Rattle.btf_raw.specs.Frames.{name_word, third_word, kind, flag}
use Rattle.btf_types.specs.Sections.{SectionWords}
use Rattle.bpf_object.specs.TypeOrder.{frame_of, group, compare_types, place_from, new_number, IsOrder, renewed_frame, ordered}
use Rattle.bpf_object.proofs.Places.{ids_length, find}
use Rattle.bpf_object.proofs.OneOrder.{number_at, number_out}
use Rattle.bpf_object.proofs.OrderLayers.{compare_total, lower_first, sequence_of, frame_out, less}
use Rattle.bpf_object.proofs.OrderAlike.{IsAlike, alike_order}
use Rattle.bpf_object.proofs.RenewedFrames.{renewed_name, renewed_kind, renewed_flag, renewed_third, renewed_same}

-- ---- the numbers from 1

range_place : (k n t : ℕ) → place_from k (range_with_len k n) t ≡ t
range_place k zero t = refl
range_place k (suc n) t = elim (cases_eq k t) [
  | inl e ↦ let is : (k == t) ≡ true = rw e (same_test t) in rw is e
  | inr other ↦
      let is : (k == t) ≡ false = ne_eqb k t other in
      let next : k + 1 ≡ suc k = omega arith in
      rw (is, next) (range_place (suc k) n t)
]
  where
    same_test : (a : ℕ) → (a == a) ≡ true
    same_test a = grind arith

-- all stay
pub range_stays : (n t : ℕ) → new_number (range_with_len 1 n) t ≡ t
range_stays n t = range_place 1 n t

range_at : (n k : ℕ) → k < n → get_or (range_with_len 1 n) k 0 ≡ suc k
range_at n k lt = get_or-range_with_len 1 n k 0 lt ∙ omega arith

pub mapped_range : (k : ℕ) (fs : List (List ℕ)) (value : ℕ → List ℕ) → ((i : ℕ) → i < length fs → value (k + i) ≡ get_or fs i []) → map value (range_with_len k (length fs)) ≡ fs
mapped_range k [] value each = refl
mapped_range k (f ∷ fs) value each =
    let first : value k ≡ f = let at : k + 0 ≡ k = omega arith in ap value (sym at) ∙ each 0 (omega arith) in
    let rest : map value (range_with_len (k + 1) (length fs)) ≡ fs =
    mapped_range (k + 1) fs value (λ i lt. let at : k + 1 + i ≡ k + suc i = omega arith in ap value at ∙ each (suc i) (omega (arith, lt))) in
    cc

-- records in this order are those that are read
pub ordered_same : (w : SectionWords) → (ordered (range_with_len 1 (length w.frames)) w).frames ≡ w.frames
ordered_same w =
    let new = new_number (range_with_len 1 (length w.frames)) in
    mapped_range 1 w.frames (λ id. renewed_frame new (frame_of w id)) (λ i lt.
    let at : 1 + i ≡ suc i = omega arith in
    ap (λ (id : ℕ). renewed_frame new (frame_of w id)) at
    ∙ renewed_same new (frame_of w (suc i)) (range_stays (length w.frames)))

pub ordered_is : (w : SectionWords) → ordered (range_with_len 1 (length w.frames)) w ≡ w
ordered_is w = λ i. record { order = w.order; strings = w.strings; frames = ordered_same w i }

-- ---- the ordered records

module _ (s : SectionWords) (ids : List ℕ) (is : IsOrder s ids) where
  abbrev n : ℕ
  n = length s.frames

  abbrev new : ℕ → ℕ
  new = new_number ids

  abbrev w : SectionWords
  w = ordered ids s

  pub order_length : length ids ≡ n
  order_length = ids_length n ids is.permutation

  pub new_at : (i : ℕ) → i < n → new (get_or ids i 0) ≡ suc i
  new_at i lt = number_at n (group s) (compare_types s) (compare_total s) (lower_first s) ids (sequence_of s ids is) i (omega (arith, lt, order_length))

  pub new_out : (t : ℕ) → (t ≡ 0) ⊎ (n < t) → new t ≡ t
  new_out t out = number_out n (group s) (compare_types s) (compare_total s) (lower_first s) ids (sequence_of s ids is) t out

  pub ordered_length : length w.frames ≡ n
  ordered_length = length-map ids (λ id. renewed_frame new (frame_of s id)) ∙ order_length

  outside : (t : ℕ) → (t ≡ 0) ⊎ (n < t) → frame_of w (new t) ≡ renewed_frame new (frame_of s t)
  outside t out =
      ap (frame_of w) (new_out t out) ∙ frame_out w t (elim out [ inl none ↦ inl none | inr over ↦ inr (omega (arith, over, ordered_length)) ])
      ∙ ap (renewed_frame new) (sym (frame_out s t out))

  -- each is where its new number says
  pub ordered_at : (t : ℕ) → frame_of w (new t) ≡ renewed_frame new (frame_of s t)
  ordered_at t = elim (cases_lt 0 t) [
    | inr none ↦ outside t (inl (omega (arith, none)))
    | inl some ↦ elim (cases_lt n t) [
      | inl over ↦ outside t (inr over)
      | inr within ↦
          let at = find n ids is.permutation t some (omega (arith, within)) in
          let lt = at.inside in
          ap (frame_of w) (ap new (sym at.is) ∙ new_at at.index (omega (arith, lt, order_length)))
          ∙ get_or-map (λ id. renewed_frame new (frame_of s id)) ids at.index 0 [] at.inside
          ∙ ap (λ (id : ℕ). renewed_frame new (frame_of s id)) at.is
    ]
  ]

  tag_has_type : has_target TYPE_TAG ≡ true
  unfolding has_target
  tag_has_type = refl

  ordered_alike : (t : ℕ) → IsAlike s w new t
  ordered_alike t =
      let f = frame_of s t in
      let at = ordered_at t in
      record {
        same_kind = ap kind at ∙ renewed_kind new f;
        same_name = λ _. ap (λ (g : List ℕ). string_at s.strings (name_word g)) at ∙ ap (string_at s.strings) (renewed_name new f);
        same_flag = λ _. ap flag at ∙ renewed_flag new f;
        same_third = λ tag.
            ap third_word at ∙ renewed_third new f (new_out 0 (inl refl))
            ∙ ap (λ (b : Bool). if b then new (third_word f) else third_word f) (ap has_target tag ∙ tag_has_type);
      }

  -- their order is that in which they are
  pub ordered_again : IsOrder w (range_with_len 1 (length w.frames))
  ordered_again =
      let m = length w.frames in
      let whole : length (range_with_len 1 m) ≡ length ids = length-range_with_len 1 m ∙ ordered_length ∙ sym order_length in
      let inside : (k : ℕ) → k < length ids → k < m = λ k lt. omega (arith, lt, ordered_length, order_length) in
      alike_order s w new ordered_length ordered_alike ids (range_with_len 1 m) is (IsPermutation-refl (range_with_len 1 m)) (λ t. range_stays m (new t)) whole
      (λ k lt. range_at m k (inside k lt) ∙ sym (new_at k (omega (arith, lt, order_length))))
      (λ k lt _.
      less (get_or (range_with_len 1 m) k 0) (get_or (range_with_len 1 m) (k + 1) 0)
      (omega (arith, range_at m k (inside k (omega (arith, lt))), range_at m (k + 1) (inside (k + 1) lt))))

-- records that are alike have the order in which they are as well
pub order_of_alike : (s w : SectionWords) → length w.frames ≡ length s.frames → ((t : ℕ) → IsAlike s w (λ u. u) t) → IsOrder s (range_with_len 1 (length s.frames))
    → IsOrder w (range_with_len 1 (length w.frames))
order_of_alike s w size alike is =
    subst (λ (k : ℕ). IsOrder w (range_with_len 1 k)) (sym size)
    (alike_order s w (λ u. u) size alike (range_with_len 1 (length s.frames)) (range_with_len 1 (length s.frames)) is
    (subst (λ (k : ℕ). IsPermutation (range_with_len 1 k) (range_with_len 1 (length s.frames))) (sym size) (IsPermutation-refl (range_with_len 1 (length s.frames))))
    (λ t. refl) refl (λ k lt. refl) (λ k lt e. e))
