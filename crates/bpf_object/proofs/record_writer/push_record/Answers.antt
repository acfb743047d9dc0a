use Rattle.std.proofs.Common.{◌≡◌, ◌++◌, ℕ, List, length, ap, sym, ◌∙◌, arith}
use Rattle.bpf_words.specs.Words.{word32}
use Rattle.btf_raw.specs.Frames.{bytes_of}
use Rattle.btf_types.specs.Reading.{tabulate}
use Rattle.bpf_object.specs.TypeOrder.{renewed_frame}
use Rattle.bpf_object.specs.private.{NotedStrings.text_offset, TypeSteps.numbered, WrittenRecords.placed_word}
use Rattle.bpf_object.proofs.{KeptLemmas.appended, WordBytes.bytes_more, PlacedWords.words_placed, RenewedFrames.renewed_length}
use Rattle.bpf_object.proofs.record_writer.push_record.Goals as goal

pub loop-j-preserved : goal.loop-j-preserved
loop-j-preserved g c =
    let names = c.args.names.now in
    let word = placed_word (text_offset names) names.strings (renewed_frame (numbered c.args.numbers.now) c.args.this.now) in
    let pushed = c.in_ok-push32.ensures.ok ∙ ap (λ (n : ℕ). c.loop-j.out.items ++ word32 c.args.to n) c.new_word.ensures in
    appended _ _ _ _ _ _ c.loop-j.invariant pushed (bytes_more c.args.to word c.loop-j.j)

pub returns : goal.returns
returns g c =
    let names = c.args.names.now in
    let f = renewed_frame (numbered c.args.numbers.now) c.args.this.now in
    let word = placed_word (text_offset names) names.strings f in
    let whole : c.loop-j.j ≡ length f = omega (arith, c.loop-j-test.false, c.word_count-j-end.ensures, renewed_length (numbered c.args.numbers.now) c.args.this.now) in
    c.loop-j.invariant
    ∙ ap (λ (b : List ℕ). c.args.out.now.items ++ b) (ap (λ (n : ℕ). bytes_of c.args.to (tabulate word n)) whole
    ∙ sym (words_placed c.args.to (text_offset names) names.strings f c.requires.writable))
