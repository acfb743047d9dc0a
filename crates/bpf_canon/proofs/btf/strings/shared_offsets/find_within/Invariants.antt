use Rattle.std.proofs.Common.{map, get_or}
use Rattle.bpf_canon.specs.btf.strings.{SectionTexts.text_in, InHost.no_text}
use Rattle.bpf_canon.proofs.BtfLemmas.Strings.InHostSteps.{WithinTo}
use Rattle.bpf_canon.proofs.btf.strings.shared_offsets.find_within.Given as goal

abbrev pub invariant-loop-off : goal.invariant-loop-off
invariant-loop-off g l = WithinTo l.ranked.section.now l.uses.slots (map (text_in l.ranked.section.now) l.ranked.texts.items) l.ranked.common.items (get_or l.ranked.texts.items l.rank no_text) l.rank l.fn.in_hosts l.in_hosts l.from l.off
