use Rattle.bpf_text.proofs.InsnLemmas.WrittenLines.{in_range_more, written_lists, written_more}
use Rattle.bpf_text.proofs.insn.write.listing.Goals as goal

pub returns-clause-listed : goal.returns-clause-listed
returns-clause-listed g c = written_lists c.loop-insn.text.items c.args.insns.now c.loop-insn.insn-index c.loop-insn-test.false c.loop-insn.invariant.written c.loop-insn.invariant.in_range

pub loop-insn-preserved : goal.loop-insn-preserved
loop-insn-preserved g c = record {
  written = written_more c.loop-insn.text.items c.push_line.new.out.items c.args.insns.now c.loop-insn.insn-index c.insn-item.result c.insn-item.is c.loop-insn-test.true c.loop-insn.invariant.written c.in_ok-push_line.ensures.ok;
  in_range = in_range_more c.args.insns.now c.insn-item.result c.loop-insn.insn-index c.insn-item.is c.loop-insn-test.true c.push_line.ensures.in_range c.loop-insn.invariant.in_range;
}
