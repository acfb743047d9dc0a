use Rattle.bpf_insn.proofs.OpcodeGroups.{opcode_at, settles}
use Rattle.bpf_insn.proofs.file_groups.FoundGroups.read_at.Goals as goal

pub returns-clause-settled : goal.returns-clause-settled
returns-clause-settled c =
    let opcode = opcode_at c.args.order c.args.bytes.now c.args.pos c.in_ok-insn.insn c.in_ok-insn.ensures.found.0 in
    rw c.opcode_has_group.ensures (settles c.args.self.now.settled c.args.self.now.set c.add.new.self _ c.in_ok-insn.insn opcode c.requires.settled (rw c.group_of.ensures at c.add.ensures))
