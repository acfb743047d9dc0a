use Rattle.std.proofs.Common.{◌≡◌, ℕ, ◌*◌, ◌+◌, ◌^◌, ◌<◌, ◌≤◌, inl, inr, length, List, Bool, true, false, [], ◌∷◌, ◌++◌, refl, sym, ap, ◌∙◌, arith, take, subst}
use Rattle.std.specs.{Prelude.not, Prelude.slice_index, List.Contains}
use Rattle.std.proofs.lemmas.Result.{on_ok_weaker}
use Rattle.btf_raw.specs.{Kinds.has_item_names, Frames.bytes_of, Frames.kind, Frames.name_word}
use Rattle.btf_types.specs.Reading.{item_total, text_from, record_of}
use Rattle.bpf_canon.specs.btf.CanonicalBtf.{record_words}
use Rattle.bpf_canon.proofs.BtfLemmas.Write.RecordNames.{HasNamedItems, named_by_row, words_by_row, item_is, named_total, own_offset}
use Rattle.bpf_canon.proofs.BtfLemmas.Write.RecordWords.{item_begins, item_room, item_size, items_to, named_item_more, record_pushed, record_tail, rest_words, items_are_tail}
use Rattle.bpf_canon.proofs.btf.write.sections.push_record.Given.{Over}
use Rattle.bpf_canon.proofs.btf.write.sections.push_record.Goals.{After-kind-kind, Else-not-item, then-size-eq2+in_ok-push_words-2, else-size-eq2+in_ok-push_words-3}
use Rattle.bpf_canon.proofs.btf.write.sections.push_record.Goals as goal

pub new_offset-name-requires : goal.new_offset-name-requires
new_offset-name-requires g c =
    let f = c.args.this.now in
    subst (Contains (g.N.NewOffsets.names c.args.names.now).offsets) {x = name_word f} (sym c.word.ensures) (own_offset (Contains (g.N.NewOffsets.names c.args.names.now).offsets) f c.requires.noted)

-- the first three words, before what follows them
front : (g : Over) (c : After-kind-kind g)
    → c.push_words.new.out.items ++ bytes_of c.args.to (record_tail (g.N.NewOffsets.offset_of c.args.names.now) (record_of (g.N.NewOffsets.names c.args.names.now).strings c.args.this.now)) ≡ c.args.out.now.items ++ bytes_of c.args.to (record_words (g.N.NewOffsets.offset_of c.args.names.now) (record_of (g.N.NewOffsets.names c.args.names.now).strings c.args.this.now))
front g c =
    let strings = (g.N.NewOffsets.names c.args.names.now).strings in
    let f = c.args.this.now in
    let text_offset : List ℕ → ℕ = g.N.NewOffsets.offset_of c.args.names.now in
    let at : c.new_offset-name.result ≡ text_offset (text_from strings (name_word f)) = c.new_offset-name.ensures ∙ ap (λ (w : ℕ). text_offset (text_from strings w)) c.word.ensures in
    ap (λ (t : List ℕ). t ++ bytes_of c.args.to (record_tail text_offset (record_of strings f))) c.in_ok-push_words.ensures.ok
    ∙ record_pushed c.args.to c.args.out.now.items text_offset strings f c.new_offset-name.result c.canonical_info-info.result c.word-2.result
    c.requires.reads.ends c.requires.reads.encoded at (c.canonical_info-info.ensures strings c.requires.reads) c.word-2.ensures

named_is : (b : Bool) → not b ≡ false → b ≡ true
named_is true e = refl
named_is false e = absurd cc

nameless_is : (b : Bool) → not b ≡ true → b ≡ false
nameless_is true e = absurd cc
nameless_is false e = refl

named : (g : Over) (c : Else-not-item g) → HasNamedItems c.args.this.now c.layout_of.result.item.words c.vlen-vlen.result
named g c = record {
  named = named_by_row c.args.this.now c.kind-kind.result c.layout_of.result c.layout_of.ensures.row c.kind-kind.ensures ∙ named_is _ c.if-not-item.false;
  words = words_by_row c.args.this.now c.kind-kind.result c.layout_of.result c.layout_of.ensures.row c.kind-kind.ensures;
  all = c.vlen-vlen.ensures;
}

-- an item has two or three words, all inside the record
room : (g : Over) (c : Else-not-item g) (k : ℕ) → k < c.vlen-vlen.result → (2 ≤ c.layout_of.result.item.words) × ((3 + c.layout_of.result.item.words * k + c.layout_of.result.item.words ≤ length c.args.this.now) × (3 + c.layout_of.result.item.words * k < 2 ^ 20))
room g c k low =
    let items = named g c in
    let within = item_room c.args.this.now c.layout_of.result.item.words c.vlen-vlen.result k c.requires.reads.frame items low in
    (within.0, (within.1, item_begins c.layout_of.result.item.words k (item_size c.args.this.now c.layout_of.result.item.words c.vlen-vlen.result c.requires.reads.frame items) (omega arith)))

pub returns-then-not-item : goal.returns-then-not-item
returns-then-not-item g c =
    let strings = (g.N.NewOffsets.names c.args.names.now).strings in
    let f = c.args.this.now in
    let text_offset = g.N.NewOffsets.offset_of c.args.names.now in
    let none : has_item_names (kind f) ≡ false = named_by_row c.args.this.now c.kind-kind.result c.layout_of.result c.layout_of.ensures.row c.kind-kind.ensures ∙ nameless_is _ c.if-not-item.true in
    on_ok_weaker c.push_rest.result
    (λ e. e ∙ ap (λ (t : List ℕ). c.push_words.new.out.items ++ bytes_of c.args.to t) (rest_words text_offset strings f c.requires.reads.frame c.requires.reads.encoded none)
    ∙ front g (goal.at.returns-then-not-item g c).After-kind-kind)
    c.push_rest.ensures

pub overflow_mul-at : goal.overflow_mul-at
overflow_mul-at g c = omega (arith, (room g (goal.at.overflow_mul-at g c).Else-not-item c.loop-k.k (omega arith)).1.1)

pub overflow_add-at : goal.overflow_add-at
overflow_add-at g c = omega (arith, (room g (goal.at.overflow_add-at g c).Else-not-item c.loop-k.k (omega arith)).1.1)

pub word-requires-in-loop-k : goal.word-requires-in-loop-k
word-requires-in-loop-k g c =
    let r = room g (goal.at.word-requires-in-loop-k g c).Else-not-item c.loop-k.k (omega arith) in
    omega (arith, r.0, r.1.0)

pub new_offset-name-requires-in-loop-k : goal.new_offset-name-requires-in-loop-k
new_offset-name-requires-in-loop-k g c =
    let items = named g (goal.at.new_offset-name-requires-in-loop-k g c).Else-not-item in
    item_is (Contains (g.N.NewOffsets.names c.args.names.now).offsets) c.args.this.now c.layout_of.result.item.words c.vlen-vlen.result c.loop-k.k c.word-in-loop-k.result c.requires.noted items (omega arith) c.word-in-loop-k.ensures

pub overflow_add-at-in-loop-k : goal.overflow_add-at-in-loop-k
overflow_add-at-in-loop-k g c = omega (arith, (room g (goal.at.overflow_add-at-in-loop-k g c).Else-not-item c.loop-k.k (omega arith)).1.1)

pub word-second-requires : goal.word-second-requires
word-second-requires g c =
    let r = room g (goal.at.word-second-requires g c).Else-not-item c.loop-k.k (omega arith) in
    omega (arith, r.0, r.1.0)

pub overflow_add-at-else-size-eq2 : goal.overflow_add-at-else-size-eq2
overflow_add-at-else-size-eq2 g c = omega (arith, (room g (goal.at.overflow_add-at-else-size-eq2 g c).Else-not-item c.loop-k.k (omega arith)).1.1)

pub word-requires-else-size-eq2 : goal.word-requires-else-size-eq2
word-requires-else-size-eq2 g c =
    let r = room g (goal.at.word-requires-else-size-eq2 g c).Else-not-item c.loop-k.k (omega arith) in
    omega (arith, r.0, r.1.0, c.if-size-eq2.false)

pub loop-k-preserved : goal.loop-k-preserved
loop-k-preserved g c =
    let items = named g (goal.at.loop-k-preserved g c).Else-not-item in
    let strings = (g.N.NewOffsets.names c.args.names.now).strings in
    let f = c.args.this.now in
    let size = c.layout_of.result.item.words in
    let from = 3 + size * c.loop-k.k in
    let text_offset = g.N.NewOffsets.offset_of c.args.names.now in
    let name = c.new_offset-name-in-loop-k.result in
    let b : ℕ = slice_index f (from + 1) in
    let d : ℕ = slice_index f (from + 2) in
    let second : from + 1 ≡ 4 + size * c.loop-k.k = omega arith in
    let third : from + 2 ≡ 5 + size * c.loop-k.k = omega arith in
    let pushed : c.if-size-eq2.out.items ≡ c.loop-k.out.items ++ bytes_of c.args.to (take size (name ∷ b ∷ d ∷ [])) = elim c.if-size-eq2.branch [
      | then-size-eq2+in_ok-push_words-2 w ↦
          ap (λ v. v.items) w.out-is ∙ w.in_ok-push_words-2.ensures.ok
          ∙ ap (λ (t : List ℕ). c.loop-k.out.items ++ bytes_of c.args.to t) (ap (λ (n : ℕ). name ∷ n ∷ []) c.word-second.ensures ∙ sym (ap (λ (n : ℕ). take n (name ∷ b ∷ d ∷ [])) w.if-size-eq2.true))
      | else-size-eq2+in_ok-push_words-3 w ↦
          let three : size ≡ 3 = elim (item_size f size c.vlen-vlen.result c.requires.reads.frame items) [ inl e ↦ absurd (w.if-size-eq2.false e) | inr e ↦ e ] in
          ap (λ v. v.items) w.out-is ∙ w.in_ok-push_words-3.ensures.ok
          ∙ ap (λ (t : List ℕ). c.loop-k.out.items ++ bytes_of c.args.to t) (ap (λ (n : ℕ). name ∷ n ∷ w.word-else-size-eq2.result ∷ []) c.word-second.ensures
          ∙ ap (λ (n : ℕ). name ∷ b ∷ n ∷ []) w.word-else-size-eq2.ensures ∙ sym (ap (λ (n : ℕ). take n (name ∷ b ∷ d ∷ [])) three))
    ] in
    pushed
    ∙ ap (λ t. t ++ bytes_of c.args.to (take size (name ∷ b ∷ d ∷ []))) c.loop-k.invariant
    ∙ named_item_more c.args.to c.push_words.new.out.items text_offset strings f size c.vlen-vlen.result c.loop-k.k c.word-in-loop-k.result name b d
    c.requires.reads.frame items c.word-in-loop-k.ensures c.new_offset-name-in-loop-k.ensures (ap (slice_index f) second) (ap (slice_index f) third)

pub returns : goal.returns
returns g c =
    let strings = (g.N.NewOffsets.names c.args.names.now).strings in
    let f = c.args.this.now in
    let text_offset = g.N.NewOffsets.offset_of c.args.names.now in
    let items = named g (goal.at.returns g c).Else-not-item in
    let all : c.loop-k.k ≡ item_total f = omega (arith, items.all, named_total f c.requires.reads.frame items.named) in
    c.loop-k.invariant ∙ ap (λ (n : ℕ). c.push_words.new.out.items ++ bytes_of c.args.to (items_to text_offset strings f n)) all
    ∙ ap (λ (t : List ℕ). c.push_words.new.out.items ++ bytes_of c.args.to t) (items_are_tail text_offset strings f c.requires.reads.frame items.named)
    ∙ front g (goal.at.returns g c).After-kind-kind
