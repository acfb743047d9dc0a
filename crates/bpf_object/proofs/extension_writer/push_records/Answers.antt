use Rattle.bpf_object.specs.private.NotedStrings.{text_offset}
use Rattle.bpf_object.specs.Sources.{section}
use Rattle.bpf_object.specs.private.TypeSteps.{numbered}
use Rattle.bpf_object.proofs.KeptLemmas.{appended}
use Rattle.bpf_object.proofs.WrittenStrings.{records_next}
use Rattle.bpf_object.proofs.extension_writer.push_records.Goals as goal

pub loop-k-preserved : goal.loop-k-preserved
loop-k-preserved g c =
    let next = records_next (section c.args.x) (numbered c.args.x.numbers.now) (text_offset c.args.names.now) c.args.part c.args.group c.loop-k.k in
    appended _ _ _ _ _ _ c.loop-k.invariant c.in_ok-push_record.ensures next
