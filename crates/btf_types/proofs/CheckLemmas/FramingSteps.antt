-- One more frame.
use Rattle.std.proofs.Common.{◌≡◌, ℕ, zero, suc, ◌+◌, ◌*◌, ◌<◌, ◌≤◌, List, [], ◌∷◌, ◌++◌, length, take, drop, refl, sym, ap, subst, ◌∙◌, inl, inr, length-append, append-nil, lit<, arith}
use Rattle.std.specs.{Prelude.slice_index, List.All}
use Rattle.std.proofs.lemmas.{Grind.flat_map-append, Bool.cases_lt, List.Elements.All-push}
use Rattle.std.proofs.lemmas.List.{map_push, drop-drop, take-append-drop, take-append-le, length-take-le, length-map, take_at, get_or_past}
use Rattle.std.proofs.Math.{ListN.get_or-append, Seq.take-add, Seq.get_or-append_seam}
use Rattle.bpf_words.specs.{declared.Order.Order, Words.IsBytes, Words.word32, Words.word32_at}
use Rattle.bpf_words.proofs.WordLemmas.{word32-word32_at, word32_at-below}
use Rattle.btf_raw.specs.declared.{records.RawHead.RawHead, cause.BtfCause.BtfCause}
use Rattle.btf_raw.specs.{Kinds.kind_of, Kinds.vlen_of, Kinds.tail_words, Heads.HeadAt, Heads.HeadFault, Cause.LeastByOffset}
use Rattle.btf_raw.specs.Frames.{IsFrame, IsAllowed, RecordFault, FramingFault, bytes_of, section_of, info_word}
use Rattle.btf_types.specs.Reading.{tabulate, info_at, frame_at, frames_at}
use Rattle.btf_raw.proofs.Frames.{IsNoFrame, frame_has_none, frames_cancel}
use Rattle.btf_types.proofs.Lists.{length-tabulate, get_or-tabulate}

-- The offsets are those of the frames of the section up to an offset, in order.
pub record IsFramedTo (o : Order) (types offsets : List ℕ) (pos : ℕ) : Type 0 where
  pub each : All IsFrame (frames_at o types offsets)
  pub whole : section_of o (frames_at o types offsets) ≡ take pos types
  pub inside : pos ≤ length types
  pub count : length offsets ≤ pos
  pub starts : (i : ℕ) → i < length offsets → slice_index offsets i ≡ length (section_of o (take i (frames_at o types offsets)))

-- the words that are read from an offset on have those bytes
bytes_of-tabulate : (o : Order) (types : List ℕ) (pos n : ℕ) → IsBytes types → pos + 4 * n ≤ length types → bytes_of o (tabulate (λ j. word32_at o types (pos + 4 * j)) n) ≡ take (4 * n) (drop pos types)
bytes_of-tabulate o types pos zero fits h = refl
bytes_of-tabulate o types pos (suc n) fits h =
    let f : ℕ → ℕ = λ j. word32_at o types (pos + 4 * j) in
    let front = bytes_of-tabulate o types pos n fits (omega arith) in
    let last : word32 o (f n) ≡ take 4 (drop (4 * n) (drop pos types)) = rw drop-drop (word32-word32_at o types (pos + 4 * n) fits (omega arith)) in
    let step : 4 * suc n ≡ 4 * n + 4 = omega arith in
    flat_map-append (word32 o) (tabulate f n) (f n ∷ []) ∙ rw (append-nil, front, last, step) (sym (take-add (4 * n) 4 (drop pos types)))

abbrev pub words_at : Order → List ℕ → ℕ → ℕ
words_at o types pos = 3 + tail_words (kind_of (info_at o types pos)) (vlen_of (info_at o types pos))

pub frame_word : (o : Order) (types : List ℕ) (pos j : ℕ) → j < words_at o types pos → slice_index (frame_at o types pos) j ≡ word32_at o types (pos + 4 * j)
frame_word o types pos j h = get_or-tabulate (λ j. word32_at o types (pos + 4 * j)) (words_at o types pos) j 0 h

pub length-frame_at : (o : Order) (types : List ℕ) (pos : ℕ) → length (frame_at o types pos) ≡ words_at o types pos
length-frame_at o types pos = length-tabulate (λ j. word32_at o types (pos + 4 * j)) (words_at o types pos)

pub frame_is_frame : (o : Order) (types : List ℕ) (pos : ℕ) → IsBytes types → IsAllowed (info_at o types pos) → IsFrame (frame_at o types pos)
frame_is_frame o types pos fits allowed =
    let info : info_word (frame_at o types pos) ≡ info_at o types pos = frame_word o types pos 1 (omega arith) in
    let size : length (frame_at o types pos) ≡ words_at o types pos = length-tabulate (λ j. word32_at o types (pos + 4 * j)) (words_at o types pos) in
    record {
      words = λ i. elim (cases_lt i (words_at o types pos)) [
        | inl lt ↦ rw (frame_word o types pos i lt) (word32_at-below o types (pos + 4 * i) fits)
        | inr le ↦ rw (get_or_past (frame_at o types pos) i 0 (omega arith)) (lit< tt)
      ];
      info = rw info allowed;
      size = rw info size;
    }

pub bytes_of-frame_at : (o : Order) (types : List ℕ) (pos end : ℕ) → IsBytes types → end ≡ pos + 4 * words_at o types pos → end ≤ length types → bytes_of o (frame_at o types pos) ≡ take (4 * words_at o types pos) (drop pos types)
bytes_of-frame_at o types pos end fits is h = bytes_of-tabulate o types pos (words_at o types pos) fits (omega arith)

pub framed_more : (o : Order) (types offsets : List ℕ) (pos : ℕ) (head : RawHead) → IsBytes types → IsFramedTo o types offsets pos → HeadAt o types pos head → IsFramedTo o types (offsets ++ pos ∷ []) head.next
framed_more o types offsets pos head fits so at =
    let frames = frames_at o types offsets in
    let words : tail_words head.kind head.vlen ≡ tail_words (kind_of (info_at o types pos)) (vlen_of (info_at o types pos)) = rw (at.kind, at.vlen) refl in
    let next : head.next ≡ pos + 4 * words_at o types pos = omega (arith, at.next, at.tail, words) in
    let bytes = bytes_of-frame_at o types pos head.next fits next at.inside in
    let before : length (section_of o frames) ≡ pos = ap length so.whole ∙ length-take-le pos types so.inside in
    record {
      each = rw map_push (All-push IsFrame frames (frame_at o types pos) so.each (frame_is_frame o types pos fits at.allowed));
      whole =
          rw (map_push, next, flat_map-append (bytes_of o) frames (frame_at o types pos ∷ []), append-nil, so.whole, bytes)
          (sym (take-add pos (4 * words_at o types pos) types));
      inside = at.inside;
      count = omega (arith, so.count, length-append offsets (pos ∷ []));
      starts = λ i h. elim (cases_lt i (length offsets)) [
        | inl lt ↦
            let inside : i ≤ length frames = omega (arith, length-map offsets (frame_at o types)) in
            get_or-append offsets (pos ∷ []) 0 i lt ∙ so.starts i lt
            ∙ rw (map_push, take-append-le i frames (frame_at o types pos ∷ []) inside) refl
        | inr le ↦
            let is : i ≡ length offsets = omega (arith, length-append offsets (pos ∷ [])) in
            let all : take (length offsets) (frames ++ frame_at o types pos ∷ []) ≡ frames = take_at frames (frame_at o types pos ∷ []) (length offsets) (length-map offsets (frame_at o types)) in
            rw (is, get_or-append_seam, map_push, all) (sym before)
      ];
    }

-- the fault of the first record that isn't a frame
pub first_framing_fault : (o : Order) (types offsets : List ℕ) (pos at_offset : ℕ) (cause : BtfCause) → IsFramedTo o types offsets pos → LeastByOffset (HeadFault o types pos) at_offset cause → LeastByOffset (FramingFault o types) at_offset cause
first_framing_fault o types offsets pos at_offset cause so least =
    let frames = frames_at o types offsets in
    let before : length (section_of o frames) ≡ pos = ap length so.whole ∙ length-take-le pos types so.inside in
    let whole : types ≡ section_of o frames ++ drop pos types = sym (rw so.whole (take-append-drop pos types)) in
    let no_frame : (x : List ℕ) (q : ℕ) (d : BtfCause) → RecordFault o x q d → IsNoFrame o x =
    λ x q d fault f rest frame is. frame_has_none o f rest q d frame (subst (λ (b : List ℕ). RecordFault o b q d) is fault) in
    record {
      holds = record {
        frames = frames;
        rest = drop pos types;
        offset = least.holds.0;
        each = so.each;
        whole = whole;
        fault = least.holds.1;
        at_offset_is = rw before least.holds.2;
      };
      least = λ q d other.
          let same = frames_cancel o frames other.frames (drop pos types) other.rest so.each other.each
          (no_frame (drop pos types) least.holds.0 cause least.holds.1) (no_frame other.rest other.offset d other.fault) (sym whole ∙ other.whole) in
          least.least q d (other.offset, subst (λ (b : List ℕ). RecordFault o b other.offset d) (sym same.rest) other.fault, other.at_offset_is ∙ rw (← same.frames, before) refl);
    }

-- what the search cites of the words of a frame
pub ruleset words_of_frame = (frame_word, length-frame_at)
