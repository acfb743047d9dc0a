use Rattle.std.proofs.Common.{◌≡◌, ◌-◌}
use Rattle.bpf_canon.specs.{Engine.devices, insn.Run.limit}
use Rattle.bpf_canon.proofs.InsnLemmas.RunLemmas.{Running}
use Rattle.bpf_canon.proofs.insn.run.run_insns.Given as goal

abbrev pub invariant-reads : goal.invariant-reads
invariant-reads g l = record {
  running : Running (devices (g.S.ByteSource.remaining l.fn.source) (g.S.ByteSource.remaining l.source) (g.W.ByteSink.contents l.fn.sink) (g.W.ByteSink.contents l.sink))
      l.fn.order l.fn.to l.feed l.written;
  reads : g.S.ByteSource.failures l.source ≡ g.S.ByteSource.failures l.fn.source;
  writes : g.W.ByteSink.failures l.sink ≡ g.W.ByteSink.failures l.fn.sink;
}

abbrev pub decreases-reads : goal.decreases-reads
decreases-reads g l = limit - l.feed.fed
