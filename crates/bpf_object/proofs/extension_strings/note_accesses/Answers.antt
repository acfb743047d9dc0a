use Rattle.std.proofs.Common.{◌∙◌, true, refl}
use Rattle.bpf_object.specs.Groups.{access_off}
use Rattle.bpf_object.specs.Sources.{section}
use Rattle.bpf_object.proofs.NotedLemmas.{noted_more}
use Rattle.bpf_object.proofs.KeptLemmas.{all}
use Rattle.bpf_object.proofs.extension_strings.note_accesses.Goals as goal

pub loop-k-preserved : goal.loop-k-preserved
loop-k-preserved g c = (
  c.note_access.ensures.strings ∙ c.loop-k.invariant.0,
  noted_more _ _ _ all (access_off (section c.args.x) c.args.group) c.loop-k.k _ true c.loop-k.invariant.1 refl refl c.in_ok-note_access.ensures.offsets,
)
