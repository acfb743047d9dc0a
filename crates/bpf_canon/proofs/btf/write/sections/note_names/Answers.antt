use Rattle.std.proofs.Common.{ℕ, List, length, sym, subst}
use Rattle.std.specs.List.{All}
use Rattle.bpf_canon.specs.btf.{write.NameOffsets.name_offsets, write.NameOffsets.IsBelow}
use Rattle.bpf_canon.proofs.BtfLemmas.Names.NoteSteps.{names_inside}
use Rattle.bpf_canon.proofs.btf.write.sections.note_names.Goals as goal

pub note_record-requires-clause-inside : goal.note_record-requires-clause-inside
note_record-requires-clause-inside g c =
    subst (λ (strings : List ℕ). All (IsBelow (length strings)) (name_offsets c.record-this.result)) (sym c.loop-index.invariant.strings) (names_inside c.args.sections.now.strings _ c.record-this.ensures.reads)
