-- One more record is read.
use Rattle.std.proofs.Common.{◌≡◌, ◌+◌, ℕ, [], ◌∷◌, ◌++◌, false, sym, ap, subst, ◌∙◌, arith}
use Rattle.btf_raw.specs.Frames.{kind}
use Rattle.bpf_object.specs.TypeOrder.{frame_of}
use Rattle.bpf_object.specs.private.TypeSteps.{may_be_sorted, AreNameOffsets}
use Rattle.bpf_object.proofs.{LayerLemmas.frame_read, NameOffsets.offsets_pushed, NameOffsets.offsets_kept, RecordLemmas.name_inside}
use Rattle.bpf_object.proofs.type_names.name_offsets.Goals as goal
use Rattle.bpf_object.proofs.type_names.name_offsets.Goals.{then-may_be_sorted+in_ok-push, else-may_be_sorted}

pub loop-index-preserved : goal.loop-index-preserved
loop-index-preserved g c =
    let s = c.args.sections.now in
    let i = c.loop-index.index in
    let f = c.record-record.result in
    let offsets = c.loop-index.offsets.items in
    let is : frame_of s (i + 1) ≡ f = frame_read s (i + 1) f (omega arith) c.record-record.ensures.frame in
    elim c.if-may_be_sorted.branch [
      | then-may_be_sorted+in_ok-push w ↦
          let more = offsets_pushed s i offsets f c.loop-index.invariant is (name_inside s.strings f c.record-record.ensures.reads) in
          let items = w.in_ok-push.ensures.items ∙ ap (λ (off : ℕ). offsets ++ off ∷ []) w.word.ensures in
          rw w.offsets-is (subst (AreNameOffsets s (i + 1)) (sym items) more)
      | else-may_be_sorted w ↦
          let not_named : may_be_sorted (kind f) ≡ false = ap may_be_sorted (sym c.kind.ensures) ∙ sym c.may_be_sorted.ensures ∙ w.if-may_be_sorted.false in
          rw w.offsets-is (offsets_kept s i offsets f c.loop-index.invariant is not_named)
    ]
