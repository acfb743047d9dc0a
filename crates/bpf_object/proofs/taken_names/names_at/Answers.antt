use Rattle.std.proofs.Common.{ap}
use Rattle.bpf_object.specs.private.NameRanks.{text_key}
use Rattle.bpf_object.proofs.{TakenLemmas.keys_more}
use Rattle.bpf_object.proofs.taken_names.names_at.Goals as goal

pub loop-off-preserved : goal.loop-off-preserved
loop-off-preserved g c = record {
  known = c.string_after-known.ensures;
  names =
      keys_more c.args.strings.now c.args.offsets.now c.loop-off.off-index c.loop-off.names.items c.push.new.self.items _ c.loop-off-test.true c.in_ok-push.ensures.items
      (ap text_key c.string_after-known.ensures) c.loop-off.invariant.names;
}
