use Rattle.std.proofs.Common.{◌++◌, ◌∙◌, ℕ, List, map, take, ap, append_assoc}
use Rattle.std.specs.List.{Contains}
use Rattle.btf_raw.specs.Frames.{bytes_of, section_of}
use Rattle.btf_types.specs.Reading.{record_of}
use Rattle.bpf_canon.specs.btf.CanonicalBtf.{record_words}
use Rattle.bpf_canon.proofs.BtfLemmas.Write.{RecordNames.record_offsets, RecordWords.record_more}
use Rattle.bpf_canon.proofs.btf.write.sections.push_records.Goals as goal

pub push_record-requires-clause-noted : goal.push_record-requires-clause-noted
push_record-requires-clause-noted g c =
    record_offsets (Contains (g.N.NewOffsets.names c.args.names.now).offsets) c.args.sections.now.frames _ c.record-this.result c.record-this.ensures.frame c.requires.noted

pub loop-index-preserved : goal.loop-index-preserved
loop-index-preserved g c =
    let text_offset : List ℕ → ℕ = g.N.NewOffsets.offset_of c.args.names.now in
    let s = c.args.sections.now in
    let out = c.args.out.now.items in
    let words : List ℕ → List ℕ = λ strings. bytes_of c.args.to (record_words text_offset (record_of strings c.record-this.result)) in
    let before = section_of c.args.to (map (record_words text_offset) (map (record_of s.strings) (take c.loop-index.index s.frames))) in
    c.in_ok-push_record.ensures
    ∙ ap (λ (strings : List ℕ). c.loop-index.out.items ++ words strings) c.requires.strings
    ∙ ap (λ (t : List ℕ). t ++ words s.strings) c.loop-index.invariant
    ∙ append_assoc out before (words s.strings)
    ∙ ap (λ (t : List ℕ). out ++ t) (record_more c.args.to text_offset s.strings s.frames c.loop-index.index c.record-this.result c.record-this.ensures.frame)
