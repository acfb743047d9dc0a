-- Records with new numbers have the form of records.
use Rattle.std.proofs.Common.{◌≡◌, ℕ, zero, suc, ◌+◌, ◌^◌, ◌<◌, ◌≤◌, ◌==◌, Bool, true, false, List, [], ◌∷◌, ◌++◌, length, inl, inr, lit<, sym, ap, subst, ◌∙◌, length-append, arith}
use Rattle.std.specs.Prelude.{if◌then◌else◌, slice_index}
use Rattle.std.specs.{List.All}
use Rattle.std.proofs.lemmas.Bool.{cases_lt, cases_Bool}
use Rattle.std.proofs.lemmas.List.Elements.{All-nil, All-cons, All-head, All-tail}
use Rattle.bpf_words.specs.declared.Order.{Order}
use Rattle.btf_raw.specs.Frames.{IsFrame, IsAllowed, bytes_of, section_of, kind, vlen}
use Rattle.btf_raw.specs.Kinds.{tail_words}
use Rattle.btf_raw.proofs.Frames.{length-bytes_of}
use Rattle.btf_types.specs.{Denotes.HoldsSections, Sections.SectionWords}
use Rattle.bpf_object.specs.TypeOrder.{frame_of, place_from, new_number, is_type_word, renewed_frame, IsOrder, ordered}
use Rattle.bpf_object.specs.private.TypeSteps.{AreInRange, renewed_frames}
use Rattle.bpf_object.proofs.Places.{ids_length, ids_in_range}
use Rattle.bpf_object.proofs.RenewedFrames.{past_end, renewed_length, renewed_at, renewed_info, renewed_kind, renewed_vlen}

-- ---- new numbers have 32 bits

place_low : (k : ℕ) (ids : List ℕ) (id m : ℕ) → k + length ids ≤ m → id < m → place_from k ids id < m
place_low k [] id m le lt = lt
place_low k (a ∷ ids) id m le lt = elim (cases_Bool (a == id)) [
  | inl is ↦ rw is (omega (arith, le))
  | inr other ↦ rw other (place_low (suc k) ids id m (omega (arith, le)) lt)
]

pub new_low : (ids : List ℕ) → length ids + 1 < 2 ^ 32 → (t : ℕ) → t < 2 ^ 32 → new_number ids t < 2 ^ 32
new_low ids few t lt = place_low 1 ids t (2 ^ 32) (omega (arith, few)) lt

-- ---- records with them

either_low : (b : Bool) (x y m : ℕ) → x < m → y < m → (if b then x else y) < m
either_low true x y m p q = p
either_low false x y m p q = q

pub renewed_is_frame : (new : ℕ → ℕ) (f : List ℕ) → IsFrame f → ((t : ℕ) → t < 2 ^ 32 → new t < 2 ^ 32) → IsFrame (renewed_frame new f)
renewed_is_frame new f is low = record {
  words = λ i. elim (cases_lt i (length f)) [
    | inl lt ↦
        subst (λ (w : ℕ). w < 2 ^ 32) (sym (renewed_at new f i lt))
        (either_low (is_type_word (kind f) i) (new (slice_index f i)) (slice_index f i) (2 ^ 32) (low (slice_index f i) (is.words i)) (is.words i))
    | inr le ↦
        let none : slice_index (renewed_frame new f) i ≡ 0 = past_end (renewed_frame new f) i (omega (arith, le, renewed_length new f)) in
        subst (λ (w : ℕ). w < 2 ^ 32) (sym none) (lit< tt)
  ];
  info = subst IsAllowed (sym (renewed_info new f)) is.info;
  size =
      renewed_length new f ∙ is.size ∙ ap (λ (k : ℕ). 3 + tail_words k (vlen f)) (sym (renewed_kind new f))
      ∙ ap (λ (n : ℕ). 3 + tail_words (kind (renewed_frame new f)) n) (sym (renewed_vlen new f));
}

frame_is : (s : SectionWords) (id : ℕ) → All IsFrame s.frames → 0 < id → id ≤ length s.frames → IsFrame (frame_of s id)
frame_is s zero each some le = absurd (omega (arith, some))
frame_is s (suc i) each some le = each i [] (omega (arith, le))

frames_are : (s : SectionWords) (new : ℕ → ℕ) (ids : List ℕ) → All IsFrame s.frames → ((t : ℕ) → t < 2 ^ 32 → new t < 2 ^ 32) → AreInRange (length s.frames) ids
    → All IsFrame (renewed_frames s new ids)
frames_are s new [] each low inside = All-nil IsFrame
frames_are s new (id ∷ ids) each low inside =
    let here = All-head (λ a. (0 < a) × (a ≤ length s.frames)) id ids inside in
    All-cons IsFrame (renewed_frame new (frame_of s id)) (renewed_frames s new ids) (renewed_is_frame new (frame_of s id) (frame_is s id each here.0 here.1) low)
    (frames_are s new ids each low (All-tail (λ a. (0 < a) × (a ≤ length s.frames)) id ids inside))

-- a table has fewer records than bytes
frames_few : (o : Order) (fs : List (List ℕ)) → All IsFrame fs → length fs ≤ length (section_of o fs)
frames_few o [] each = omega arith
frames_few o (f ∷ fs) each =
    let size = (All-head IsFrame f fs each).size in
    omega (arith, size, length-bytes_of o f, length-append (bytes_of o f) (section_of o fs), frames_few o fs (All-tail IsFrame f fs each))

pub records_few : (b : List ℕ) (s : SectionWords) → HoldsSections b s → length s.frames ≤ 33554432
records_few b s held = let fit = held.cut.types_fit in omega (arith, fit, frames_few s.order s.frames held.each)

pub order_low : (b : List ℕ) (s : SectionWords) (ids : List ℕ) → HoldsSections b s → IsOrder s ids → (t : ℕ) → t < 2 ^ 32 → new_number ids t < 2 ^ 32
order_low b s ids held is = new_low ids (omega (arith, records_few b s held, ids_length (length s.frames) ids is.permutation))

pub ordered_frames : (b : List ℕ) (s : SectionWords) (ids : List ℕ) → HoldsSections b s → IsOrder s ids → All IsFrame (ordered ids s).frames
ordered_frames b s ids held is = frames_are s (new_number ids) ids held.each (order_low b s ids held is) (ids_in_range (length s.frames) ids is.permutation)
