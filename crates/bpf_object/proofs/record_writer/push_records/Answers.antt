use Rattle.std.proofs.Common.{◌≡◌, ◌+◌, ◌++◌, ◌∙◌, ℕ, List, [], take, get_or, ap, sym, subst, arith}
use Rattle.std.specs.List.{All, Contains, flat_map}
use Rattle.std.proofs.lemmas.List.{get_or-map, length-map, take_all}
use Rattle.btf_raw.specs.Frames.{bytes_of}
use Rattle.btf_types.specs.Reading.{record_of}
use Rattle.bpf_canon.specs.btf.{CanonicalBtf.record_words, write.NameOffsets.name_offsets}
use Rattle.bpf_object.specs.TypeOrder.{frame_of, renewed_frame}
use Rattle.bpf_object.specs.private.{NotedStrings.text_offset, TypeSteps.numbered, WrittenRecords.IsWritable}
use Rattle.bpf_object.proofs.{FitLemmas.all_in, KeptLemmas.appended, LayerLemmas.frame_read, WrittenStrings.taken_next}
use Rattle.bpf_object.proofs.WritableRecords.{all_names_kept, new_bytes, new_bytes_are}
use Rattle.bpf_object.proofs.record_writer.push_records.Goals as goal

pub record-this-requires-clause-first : goal.record-this-requires-clause-first
record-this-requires-clause-first g c = (c.requires.writable.inside c.loop-k.k 0 c.loop-k-test.true).0

pub record-this-requires-clause-last : goal.record-this-requires-clause-last
record-this-requires-clause-last g c = (c.requires.writable.inside c.loop-k.k 0 c.loop-k-test.true).1

pub push_record-requires-clause-frame : goal.push_record-requires-clause-frame
push_record-requires-clause-frame g c = c.record-this.ensures.reads.frame

pub push_record-requires-clause-noted : goal.push_record-requires-clause-noted
push_record-requires-clause-noted g c =
    let s = c.args.sections.now in
    let ids = c.args.ids.now in
    let k = c.loop-k.k in
    let P = Contains c.args.names.now.offsets in
    let read = frame_read s (get_or ids k 0) c.record-this.result (c.requires.writable.inside k 0 c.loop-k-test.true).0 c.record-this.ensures.frame in
    let each = all_in P (λ id. name_offsets (frame_of s id)) ids (subst (All P) (all_names_kept s (numbered c.args.numbers.now) ids) c.requires.noted) in
    subst (λ (f : List ℕ). All P (name_offsets f)) read (each k 0 c.loop-k-test.true)

pub push_record-requires-clause-writable : goal.push_record-requires-clause-writable
push_record-requires-clause-writable g c =
    let s = c.args.sections.now in
    let ids = c.args.ids.now in
    let k = c.loop-k.k in
    let lt = c.loop-k-test.true in
    let value : ℕ → List ℕ = λ id. renewed_frame (numbered c.args.numbers.now) (frame_of s id) in
    let read = frame_read s (get_or ids k 0) c.record-this.result (c.requires.writable.inside k 0 lt).0 c.record-this.ensures.frame in
    let each = c.requires.writable.each k [] (omega (arith, lt, length-map ids value)) in
    let at = get_or-map value ids k 0 [] lt ∙ ap (renewed_frame (numbered c.args.numbers.now)) read in
    subst (λ (strings : List ℕ). IsWritable strings (renewed_frame (numbered c.args.numbers.now) c.record-this.result)) (sym c.requires.strings) (subst (IsWritable s.strings) at each)

pub loop-k-preserved : goal.loop-k-preserved
loop-k-preserved g c =
    let s = c.args.sections.now in
    let ids = c.args.ids.now in
    let k = c.loop-k.k in
    let lt = c.loop-k-test.true in
    let new = numbered c.args.numbers.now in
    let place = text_offset c.args.names.now in
    let bytes = new_bytes c.args.to place s new in
    let words : List ℕ → List ℕ → List ℕ = λ strings f. bytes_of c.args.to (record_words place (record_of strings (renewed_frame new f))) in
    let read = frame_read s (get_or ids k 0) c.record-this.result (c.requires.writable.inside k 0 lt).0 c.record-this.ensures.frame in
    let pushed = c.in_ok-push_record.ensures ∙ ap (λ (b : List ℕ). c.loop-k.out.items ++ b) (ap (λ (strings : List ℕ). words strings c.record-this.result) c.requires.strings ∙ ap (words s.strings) (sym read)) in
    appended _ _ _ _ _ _ c.loop-k.invariant pushed (taken_next bytes ids k 0 lt)

pub returns : goal.returns
returns g c =
    let s = c.args.sections.now in
    let ids = c.args.ids.now in
    let bytes = new_bytes c.args.to (text_offset c.args.names.now) s (numbered c.args.numbers.now) in
    let whole : take c.loop-k.k ids ≡ ids = take_all c.loop-k.k ids (omega (arith, c.loop-k-test.false)) in
    c.loop-k.invariant
    ∙ ap (λ (b : List ℕ). c.args.out.now.items ++ b) (ap (flat_map bytes) whole ∙ new_bytes_are c.args.to (text_offset c.args.names.now) s (numbered c.args.numbers.now) ids)
