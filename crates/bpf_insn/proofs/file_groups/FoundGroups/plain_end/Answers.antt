use Rattle.std.proofs.Common.{sym, arith}
use Rattle.bpf_insn.proofs.{FileGroups.step, OpcodeGroups.already_there}
use Rattle.bpf_insn.proofs.file_groups.FoundGroups.plain_end.Goals as goal

pub loop-end-preserved : goal.loop-end-preserved
loop-end-preserved c =
    let found = c.begins_plainly.ensures c.if-begins_plainly.true in
    let adds = already_there c.args.order c.args.bytes.now c.loop-end.end _ _ 8 c.requires.settled c.if-self-bytes.true (found.0, found.1.0, sym found.1.1) in
    record { forward = omega arith; groups = step _ _ _ _ _ 8 c.loop-end.invariant.groups adds }
