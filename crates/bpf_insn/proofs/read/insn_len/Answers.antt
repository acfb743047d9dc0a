use Rattle.std.proofs.Common.{rules, Ok, sym}
use Rattle.bpf_insn.proofs.PlainLemmas.{len_answered}
use Rattle.bpf_insn.proofs.read.insn_len.Goals as goal

pub returns-then-begins_plainly-clause-all : goal.returns-then-begins_plainly-clause-all
returns-then-begins_plainly-clause-all c =
    let one = c.begins_plainly.ensures (search rules) in
    len_answered c.args.order c.args.bytes.now (Ok 8) (one.0, (one.1.0, sym one.1.1)) tt

pub returns-clause-all : goal.returns-clause-all
returns-clause-all c = len_answered c.args.order c.args.bytes.now _ c.other_len.ensures.found c.other_len.ensures.fault
