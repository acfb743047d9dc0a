use Rattle.std.proofs.Common.{◌≡◌, ◌+◌, ◌++◌, ◌∙◌, ℕ, List, take, get_or, ap, sym, subst}
use Rattle.std.specs.List.{flat_map}
use Rattle.btf_types.specs.tables.OffsetWords.{ReadsRecord}
use Rattle.bpf_canon.specs.btf.write.NameOffsets.{name_offsets}
use Rattle.bpf_object.specs.TypeOrder.{frame_of}
use Rattle.bpf_object.proofs.{LayerLemmas.frame_read, NotedLemmas.noted_after, WrittenStrings.taken_next}
use Rattle.bpf_object.proofs.record_writer.note_records.Goals as goal

pub record-this-requires-clause-first : goal.record-this-requires-clause-first
record-this-requires-clause-first g c = (c.requires.ids c.loop-k.k 0 c.loop-k-test.true).0

pub record-this-requires-clause-last : goal.record-this-requires-clause-last
record-this-requires-clause-last g c = (c.requires.ids c.loop-k.k 0 c.loop-k-test.true).1

pub note_record-requires : goal.note_record-requires
note_record-requires g c = subst (λ (strings : List ℕ). ReadsRecord strings c.record-this.result) (sym c.loop-k.invariant.strings) c.record-this.ensures.reads

pub loop-k-preserved : goal.loop-k-preserved
loop-k-preserved g c =
    let s = c.args.sections.now in
    let ids = c.args.ids.now in
    let k = c.loop-k.k in
    let names : ℕ → List ℕ = λ id. name_offsets (frame_of s id) in
    let lt = c.loop-k-test.true in
    let read : frame_of s (get_or ids k 0) ≡ c.record-this.result = frame_read s (get_or ids k 0) c.record-this.result (c.requires.ids k 0 lt).0 c.record-this.ensures.frame in
    let next : flat_map names (take (k + 1) ids) ≡ flat_map names (take k ids) ++ name_offsets c.record-this.result =
    taken_next names ids k 0 lt ∙ ap (λ (f : List ℕ). flat_map names (take k ids) ++ name_offsets f) read in
    record {
      strings = c.note_record.ensures.strings ∙ c.loop-k.invariant.strings;
      offsets = noted_after _ _ _ (flat_map names (take k ids)) (name_offsets c.record-this.result) _ c.loop-k.invariant.offsets c.in_ok-note_record.ensures.offsets next;
    }
