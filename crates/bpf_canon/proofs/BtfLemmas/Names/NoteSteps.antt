-- The names of one item and of one record more.
use Rattle.std.proofs.Common.{◌≡◌, ◌∙◌, ℕ, suc, ◌+◌, ◌-◌, ◌<◌, Some, List, [], ◌∷◌, ◌++◌, inl, inr, length, take, sym, ap, append-nil, arith}
use Rattle.std.proofs.lemmas.List.{Concat.flat_map-append, Elements.All-nil, Elements.All-cons}
use Rattle.std.specs.Prelude.{if◌then◌else◌, slice_get}
use Rattle.std.specs.List.{All}
use Rattle.btf_types.proofs.{TabulateSteps.All-tabulate, TableLemmas.TableWalk.take_more, TableLemmas.TextSteps.decided}
use Rattle.btf_raw.specs.{Frames.name_word, Frames.kind, Frames.vlen, Kinds.has_item_names}
use Rattle.btf_raw.proofs.Texts.{TextAt-inside}
use Rattle.btf_types.specs.tables.OffsetWords.{ReadsRecord}
use Rattle.btf_types.specs.Reading.{text_from, item_total, tabulate}
use Rattle.bpf_canon.specs.btf.strings.FirstUses.{noted, noted_all}
use Rattle.bpf_canon.specs.btf.write.NameOffsets.{item_word, name_offsets, all_offsets, IsBelow}
use Rattle.bpf_canon.proofs.BtfLemmas.{Strings.FirstUseSteps.noted_all-append, Write.RecordNames.named_total}

-- one more of the frames, that of the next ID
pub one_more : (frames : List (List ℕ)) (i : ℕ) (f : List ℕ) → slice_get frames (i + 1 - 1) ≡ Some f → take (i + 1) frames ≡ take i frames ++ f ∷ []
one_more frames i f is =
    let at : i + 1 - 1 ≡ i = omega arith in
    let next : i + 1 ≡ suc i = omega arith in
    rw next (take_more frames i f (rw at at is))

pub item_noted : (offs : List ℕ) (f : ℕ → ℕ) (k : ℕ) → noted (noted_all offs (tabulate f k)) (f k) ≡ noted_all offs (tabulate f (k + 1))
item_noted offs f k = grind (arith, noted_all-append)

pub record_noted : (offs : List ℕ) (frames : List (List ℕ)) (i : ℕ) (f : List ℕ) → slice_get frames (i + 1 - 1) ≡ Some f
    → noted_all (noted_all offs (all_offsets (take i frames))) (name_offsets f) ≡ noted_all offs (all_offsets (take (i + 1) frames))
record_noted offs frames i f is =
    rw (one_more frames i f is)
    (sym (ap (noted_all offs) (flat_map-append name_offsets (take i frames) (f ∷ []) ∙ ap (λ (t : List ℕ). all_offsets (take i frames) ++ t) (append-nil (name_offsets f))) ∙ noted_all-append offs (all_offsets (take i frames)) (name_offsets f)))

-- the names of a record are inside the strings
pub names_inside : (strings f : List ℕ) → ReadsRecord strings f → All (IsBelow (length strings)) (name_offsets f)
names_inside strings f reads =
    let own = TextAt-inside strings (name_word f) (text_from strings (name_word f)) reads.name.text in
    All-cons (IsBelow (length strings)) (name_word f) (if has_item_names (kind f) then tabulate (item_word f) (vlen f) else []) own (
    elim (decided (has_item_names (kind f))) [
      | inl has ↦ rw has (All-tabulate (IsBelow (length strings)) (item_word f) (vlen f) (λ k low.
          let total : k < item_total f = omega (arith, named_total f reads.frame has, low) in
          TextAt-inside strings (item_word f k) (text_from strings (item_word f k)) (reads.item_names k total has).text))
      | inr none ↦ rw none (All-nil (IsBelow (length strings)))
    ])
