-- A name is among those that were noted.
use Rattle.std.proofs.Common.{◌≡◌, ◌∙◌, ℕ, true, false, ap, sym, subst}
use Rattle.std.specs.List.{Contains}
use Rattle.btf_raw.specs.Frames.{kind}
use Rattle.btf_types.specs.Reading.{text_from}
use Rattle.bpf_object.specs.private.{NotedStrings.text_offset, TypeSteps.numbered, WrittenRecords.is_name_word}
use Rattle.bpf_object.proofs.PlacedWords.{name_among, placed_name, placed_other}
use Rattle.bpf_object.proofs.record_writer.new_word.Goals as goal

pub new_offset-requires : goal.new_offset-requires
new_offset-requires g c =
    let f = c.args.this.now in
    let names = c.args.names.now in
    let is : is_name_word (kind f) c.args.j ≡ true = ap (λ (k : ℕ). is_name_word k c.args.j) (sym c.kind.ensures) ∙ sym c.is_name_word.ensures ∙ c.if-is_name_word.true in
    subst (Contains names.offsets) (sym c.word.ensures) (name_among (Contains names.offsets) f c.args.j c.requires.frame c.requires.there is c.requires.noted)

pub returns-then-is_name_word : goal.returns-then-is_name_word
returns-then-is_name_word g c =
    let f = c.args.this.now in
    let names = c.args.names.now in
    let is : is_name_word (kind f) c.args.j ≡ true = ap (λ (k : ℕ). is_name_word k c.args.j) (sym c.kind.ensures) ∙ sym c.is_name_word.ensures ∙ c.if-is_name_word.true in
    c.new_offset.ensures ∙ ap (λ (off : ℕ). text_offset names (text_from names.strings off)) c.word.ensures
    ∙ placed_name (text_offset names) names.strings (numbered c.args.numbers.now) f c.args.j is

pub returns : goal.returns
returns g c =
    let f = c.args.this.now in
    let names = c.args.names.now in
    let other : is_name_word (kind f) c.args.j ≡ false = ap (λ (k : ℕ). is_name_word k c.args.j) (sym c.kind.ensures) ∙ sym c.is_name_word.ensures ∙ c.if-is_name_word.false in
    c.renewed_word.ensures ∙ placed_other (text_offset names) names.strings (numbered c.args.numbers.now) f c.args.j c.requires.there other
