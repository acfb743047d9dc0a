use Rattle.std.proofs.Common.{◌≡◌, ◌*◌, ◌+◌, ℕ, List, true, false, length, sym, ap, ◌∙◌, arith}
use Rattle.std.specs.Prelude.{slice_index}
use Rattle.btf_raw.specs.{Frames.kind, Frames.vlen, Kinds.has_item_names}
use Rattle.btf_types.specs.Reading.{tabulate}
use Rattle.bpf_canon.specs.btf.strings.FirstUses.{noted, noted_all}
use Rattle.bpf_canon.specs.btf.write.NameOffsets.{item_word, IsBelow}
use Rattle.bpf_canon.proofs.BtfLemmas.{Names.NoteSteps.item_noted, Write.RecordNames.HasNamedItems, Write.RecordNames.named_by_row, Write.RecordNames.words_by_row, Write.RecordNames.item_is, Write.RecordWords.item_room}
use Rattle.bpf_canon.proofs.btf.write.sections.note_record.Given.{Over}
use Rattle.bpf_canon.proofs.btf.write.sections.note_record.Goals.{After-vlen}
use Rattle.bpf_canon.proofs.btf.write.sections.note_record.Goals as goal

items : (g : Over) (c : After-vlen g) → HasNamedItems c.args.this.now c.layout_of.result.item.words c.vlen.result
items g c = record {
  named = named_by_row c.args.this.now c.kind.result c.layout_of.result c.layout_of.ensures.row c.kind.ensures ∙ c.if-item.true;
  words = words_by_row c.args.this.now c.kind.result c.layout_of.result c.layout_of.ensures.row c.kind.ensures;
  all = c.vlen.ensures;
}

pub word-requires-in-loop-k : goal.word-requires-in-loop-k
word-requires-in-loop-k g c =
    let has = items g (goal.at.word-requires-in-loop-k g c).After-vlen in
    let room = item_room c.args.this.now c.layout_of.result.item.words c.vlen.result c.loop-k.k c.requires.frame has (omega arith) in
    omega (arith, room.0, room.1)

pub note-requires-in-loop-k : goal.note-requires-in-loop-k
note-requires-in-loop-k g c =
    let has = items g (goal.at.note-requires-in-loop-k g c).After-vlen in
    let inside = item_is (IsBelow (length c.args.uses.now.strings)) c.args.this.now c.layout_of.result.item.words c.vlen.result c.loop-k.k c.word-in-loop-k.result c.requires.inside has (omega arith) c.word-in-loop-k.ensures in
    let same = ap (λ (strings : List ℕ). length strings) (c.loop-k.invariant.strings ∙ c.in_ok-note.ensures.strings) in
    omega (arith, inside, same)

pub loop-k-preserved : goal.loop-k-preserved
loop-k-preserved g c =
    let f = c.args.this.now in
    let has = items g (goal.at.loop-k-preserved g c).After-vlen in
    let is : c.word-in-loop-k.result ≡ item_word f c.loop-k.k = c.word-in-loop-k.ensures ∙ ap (λ (w : ℕ). slice_index f (3 + w * c.loop-k.k)) (sym has.words) in
    record {
      strings = c.in_ok-note-2.ensures.strings ∙ c.loop-k.invariant.strings;
      offsets = c.in_ok-note-2.ensures.offsets ∙ ap (λ t. noted t c.word-in-loop-k.result) c.loop-k.invariant.offsets ∙ rw is (item_noted c.note.new.self.offsets (item_word f) c.loop-k.k);
    }

pub returns-else-item-clause-offsets : goal.returns-else-item-clause-offsets
returns-else-item-clause-offsets g c =
    let f = c.args.this.now in
    let none : has_item_names (kind f) ≡ false = named_by_row f c.kind.result c.layout_of.result c.layout_of.ensures.row c.kind.ensures ∙ c.if-item.false in
    rw none (c.in_ok-note.ensures.offsets ∙ ap (noted c.args.uses.now.offsets) c.word.ensures)

pub returns-after-loop-k-clause-offsets : goal.returns-after-loop-k-clause-offsets
returns-after-loop-k-clause-offsets g c =
    let f = c.args.this.now in
    let named : has_item_names (kind f) ≡ true = named_by_row f c.kind.result c.layout_of.result c.layout_of.ensures.row c.kind.ensures ∙ c.if-item.true in
    let all : c.loop-k.k ≡ vlen f = omega (arith, c.loop-k-test.false, c.vlen.ensures) in
    let items : ℕ → List ℕ = tabulate (item_word f) in
    rw named (c.loop-k.invariant.offsets ∙ ap (λ (n : ℕ). noted_all c.note.new.self.offsets (items n)) all
    ∙ ap (λ (t : List ℕ). noted_all t (items (vlen f))) (c.in_ok-note.ensures.offsets ∙ ap (noted c.args.uses.now.offsets) c.word.ensures))
