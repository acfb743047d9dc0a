use Rattle.bpf_canon.specs.btf.strings.FirstUses.{slots_of}
use Rattle.bpf_canon.proofs.BtfLemmas.Strings.UsedSteps.{CountedTo}
use Rattle.bpf_canon.proofs.btf.strings.used_offsets.UsedOffsets.new.Given as goal

abbrev pub invariant-loop-word : goal.invariant-loop-word
invariant-loop-word g l = CountedTo (slots_of l.marks.items l.section_len) l.before.items l.count l.word
