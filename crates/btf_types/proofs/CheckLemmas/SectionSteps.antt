-- The records of a framed section, one by one.
use Rattle.std.proofs.Common.{◌≡◌, ℕ, zero, suc, ◌+◌, ◌-◌, ◌*◌, ◌<◌, ◌≤◌, Some, List, [], ◌∷◌, length, get_or, take, refl, ap, subst, ◌∙◌, length-append, arith}
use Rattle.std.specs.{Prelude.slice_index, Prelude.slice_get, List.concat}
use Rattle.std.proofs.{Math.Dec.eqb-suc-zero, lemmas.List.length-map, lemmas.List.get_or-map, lemmas.List.Folds.length-flat_map-take}
use Rattle.bpf_words.specs.declared.Order.{Order}
use Rattle.btf_raw.specs.{KindNumbers.INT, Kinds.tail_words, Kinds.fixed_words, Kinds.item_words}
use Rattle.btf_raw.specs.Frames.{IsFrame, bytes_of, section_of, kind}
use Rattle.btf_raw.proofs.Frames.{length-bytes_of}
use Rattle.btf_types.proofs.Lists.{get-map}
use Rattle.btf_types.specs.{declared.checks.section.Section.TheInside.Inside, Reading.frame_at}
use Rattle.btf_types.specs.{checks.Numbers.type_at, checks.FieldFaults.frame_facts, Sections.HasFrame, Sections.facts_in}
use Rattle.btf_types.specs.checks.SectionParts.{IsSection, words_in}

-- the frame of the i-th record, from 0
abbrev pub nth_frame : Inside → ℕ → List ℕ
nth_frame s i = frame_at s.order s.types.now (slice_index s.offsets.now i)

-- the section has four bytes for each word
pub length-section : (o : Order) (fs : List (List ℕ)) → length (section_of o fs) ≡ 4 * length (concat fs)
length-section o [] = refl
length-section o (f ∷ fs) = omega (arith, length-append (bytes_of o f) (section_of o fs), length-append f (concat fs), length-bytes_of o f, length-section o fs)

-- a frame ends within the section
pub ends_inside : (o : Order) (frames : List (List ℕ)) (i : ℕ) → i < length frames → length (section_of o (take i frames)) + 4 * length (get_or frames i []) ≤ length (section_of o frames)
ends_inside o frames i h = omega (arith, length-flat_map-take (bytes_of o) frames i [] h, length-bytes_of o (get_or frames i []))

module _ (s : Inside) (valid : IsSection s) (i : ℕ) (there : i < length s.offsets.now) where
  among : i < length ((words_in s).frames)
  among = omega (arith, length-map s.offsets.now (frame_at s.order s.types.now))

  frame_is : get_or ((words_in s).frames) i [] ≡ nth_frame s i
  frame_is = get_or-map (frame_at s.order s.types.now) s.offsets.now i 0 [] there

  -- it exists, after the words of the records before it, four bytes each
  pub has_frame : HasFrame s.order s.types.now (slice_index s.offsets.now i)
  has_frame =
      let start = valid.framed.starts i there in
      let whole : length s.types.now ≡ length (section_of s.order ((words_in s).frames)) = ap length valid.framed.frames.whole in
      let room : length (section_of s.order (take i ((words_in s).frames))) + 4 * length (nth_frame s i) ≤ length (section_of s.order ((words_in s).frames)) =
      rw frame_is at (ends_inside s.order ((words_in s).frames) i among) in
      record {
        inside = omega arith;
        frame = subst (λ (g : List ℕ). IsFrame g) frame_is (valid.framed.frames.each i [] among);
      }

  pub starts_in : slice_index s.offsets.now i ≡ 4 * length (concat (take i ((words_in s).frames)))
  starts_in = valid.framed.starts i there ∙ length-section s.order (take i ((words_in s).frames))

  pub frame_get : slice_get ((words_in s).frames) i ≡ Some (nth_frame s i)
  frame_get = get-map (frame_at s.order s.types.now) s.offsets.now i 0 there

  pub facts_get : slice_get (facts_in (words_in s)) i ≡ Some (frame_facts (nth_frame s i))
  facts_get = get-map frame_facts ((words_in s).frames) i [] among ∙ ap (λ (f : List ℕ). Some (frame_facts f)) frame_is

-- a frame has at least three fields, and that of an INT a fourth
pub three_words : (f : List ℕ) → IsFrame f → 3 ≤ length f
three_words f frame = omega (arith, frame.size)

pub int_has_word : (f : List ℕ) → IsFrame f → kind f ≡ INT → 3 < length f
unfolding tail_words fixed_words item_words
int_has_word f frame int = let size : length f ≡ 4 = frame.size ∙ rw int (omega arith) in omega arith

pub type_is : (s : Inside) (id : ℕ) → IsSection s → 0 < id → id ≤ length s.offsets.now → type_at (facts_in (words_in s)) id ≡ frame_facts (nth_frame s (id - 1))
type_is s zero valid some few = absurd (omega arith)
type_is s (suc i) valid some few =
    let e : suc i - 1 ≡ i = omega arith in
    rw (e, eqb-suc-zero i, facts_get s valid i (omega arith)) refl

-- what the search cites of a type of a section
pub ruleset types_of_section = (has_frame, type_is)
