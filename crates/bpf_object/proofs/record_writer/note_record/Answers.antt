use Rattle.std.proofs.Common.{◌≡◌, ◌<◌, ◌∙◌, ℕ, Bool, true, false, List, [], length, ap, refl, arith}
use Rattle.std.specs.Prelude.{if◌then◌else◌, slice_index}
use Rattle.btf_raw.specs.{Frames.kind, Frames.vlen, Kinds.has_item_names}
use Rattle.btf_types.specs.Reading.{tabulate}
use Rattle.bpf_canon.specs.btf.strings.FirstUses.{noted, noted_all}
use Rattle.bpf_canon.specs.btf.write.NameOffsets.{item_word}
use Rattle.bpf_canon.proofs.BtfLemmas.Names.NoteSteps.{item_noted}
use Rattle.bpf_object.specs.Types.{item_name, named_items}
use Rattle.bpf_object.proofs.RecordLemmas.{name_inside, item_name_inside}
use Rattle.bpf_object.proofs.record_writer.note_record.Goals as goal

pub note-requires : goal.note-requires
note-requires g c = omega (arith, name_inside c.args.uses.now.strings c.args.this.now c.requires, c.word.ensures)

pub note-requires-in-loop-k : goal.note-requires-in-loop-k
note-requires-in-loop-k g c =
    let f = c.args.this.now in
    let low : c.loop-k.k < named_items f = omega (arith, c.loop-k-test.true, c.named_items-k-end.ensures) in
    let inside = item_name_inside c.args.uses.now.strings f c.loop-k.k c.requires low in
    let is = c.word-in-loop-k.ensures ∙ ap (slice_index f) c.item_name.ensures.value in
    let same = ap (λ (strings : List ℕ). length strings) (c.loop-k.invariant.strings ∙ c.in_ok-note.ensures.strings) in
    omega (arith, inside, is, same)

pub loop-k-preserved : goal.loop-k-preserved
loop-k-preserved g c =
    let f = c.args.this.now in
    let is : c.word-in-loop-k.result ≡ item_word f c.loop-k.k = c.word-in-loop-k.ensures ∙ ap (slice_index f) c.item_name.ensures.value in
    record {
      strings = c.in_ok-note-2.ensures.strings ∙ c.loop-k.invariant.strings;
      offsets = c.in_ok-note-2.ensures.offsets ∙ ap (λ t. noted t c.word-in-loop-k.result) c.loop-k.invariant.offsets ∙ rw is (item_noted c.note.new.self.offsets (item_word f) c.loop-k.k);
    }

-- a record has names of items, or it has none
names_of : (b : Bool) (value : ℕ → ℕ) (n : ℕ) → tabulate value (if b then n else 0) ≡ (if b then tabulate value n else [])
names_of true value n = refl
names_of false value n = refl

pub returns-clause-offsets : goal.returns-clause-offsets
returns-clause-offsets g c =
    let f = c.args.this.now in
    let start = c.note.new.self.offsets in
    let all : c.loop-k.k ≡ named_items f = omega (arith, c.loop-k-test.false, c.named_items-k-end.ensures) in
    c.loop-k.invariant.offsets ∙ ap (λ (n : ℕ). noted_all start (tabulate (item_word f) n)) all
    ∙ ap (noted_all start) (names_of (has_item_names (kind f)) (item_word f) (vlen f))
    ∙ ap (λ (t : List ℕ). noted_all t (if has_item_names (kind f) then tabulate (item_word f) (vlen f) else []))
    (c.in_ok-note.ensures.offsets ∙ ap (noted c.args.uses.now.offsets) c.word.ensures)
