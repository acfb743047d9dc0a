use Rattle.std.proofs.Common.{rules, ap, ◌∙◌}
use Rattle.bpf_text.specs.declared.insn.mnemonic.Mnemonic.TheVariants.{Alu, Movsx, Neg, Swap, Jump, JumpLong, Branch, CallHelper, CallLocal, CallBtf, Load, LoadSigned, StoreImm, StoreReg, Atomic, PacketAbs, PacketInd}
use Rattle.bpf_text.specs.insn.OperandFields.{register_field, imm_field, offset_field, source_field, address_field, operand_count}
use Rattle.bpf_text.proofs.InsnLemmas.OperandFieldsLemmas.{only_read, two_read, three_read}
use Rattle.bpf_text.proofs.InsnLemmas.MakeTable.{made_by}
use Rattle.bpf_text.proofs.insn.make.insn_of_form.Goals as goal

pub returns-in-Alu : goal.returns-in-Alu
returns-in-Alu c =
    rw c.in-Alu.is (made_by (Alu c.in-Alu.width c.in-Alu.op) _ c.both.result _ c.map.ensures.cases (λ x i v p. search rules)
    (two_read register_field source_field _ _ _ _ _ _ c.index-operands-0.is c.index-operands-1.is (c.requires ∙ ap operand_count c.in-Alu.is) c.register.ensures c.source.ensures c.both.ensures))

pub returns-in-Movsx : goal.returns-in-Movsx
returns-in-Movsx c =
    rw c.in-Movsx.is (made_by (Movsx c.in-Movsx.form) _ c.both-in-Movsx.result _ c.map-in-Movsx.ensures.cases (λ x i v p. search rules)
    (two_read register_field register_field _ _ _ _ _ _ c.index-operands-0-in-Movsx.is c.index-operands-1-in-Movsx.is (c.requires ∙ ap operand_count c.in-Movsx.is) c.register-in-Movsx.ensures c.register-in-Movsx-2.ensures c.both-in-Movsx.ensures))

pub returns-in-Neg : goal.returns-in-Neg
returns-in-Neg c =
    rw c.in-Neg.is (made_by (Neg c.in-Neg.width) _ c.register-in-Neg.result _ c.map-in-Neg.ensures.cases (λ x i v p. search rules)
    (only_read register_field _ _ _ c.index-operands-0-in-Neg.is (c.requires ∙ ap operand_count c.in-Neg.is) c.register-in-Neg.ensures))

pub returns-in-Swap : goal.returns-in-Swap
returns-in-Swap c =
    rw c.in-Swap.is (made_by (Swap c.in-Swap.kind c.in-Swap.bits) _ c.register-in-Swap.result _ c.map-in-Swap.ensures.cases (λ x i v p. search rules)
    (only_read register_field _ _ _ c.index-operands-0-in-Swap.is (c.requires ∙ ap operand_count c.in-Swap.is) c.register-in-Swap.ensures))

pub returns-in-Jump : goal.returns-in-Jump
returns-in-Jump c =
    rw c.in-Jump.is (made_by Jump _ c.offset.result _ c.map-in-Jump.ensures.cases (λ x i v p. search rules)
    (only_read offset_field _ _ _ c.index-operands-0-in-Jump.is (c.requires ∙ ap operand_count c.in-Jump.is) c.offset.ensures))

pub returns-in-JumpLong : goal.returns-in-JumpLong
returns-in-JumpLong c =
    rw c.in-JumpLong.is (made_by JumpLong _ c.imm.result _ c.map-in-JumpLong.ensures.cases (λ x i v p. search rules)
    (only_read imm_field _ _ _ c.index-operands-0-in-JumpLong.is (c.requires ∙ ap operand_count c.in-JumpLong.is) c.imm.ensures))

pub returns-in-Branch : goal.returns-in-Branch
returns-in-Branch c =
    rw c.in-Branch.is (made_by (Branch c.in-Branch.width c.in-Branch.op) _ c.both-in-Branch-2.result _ c.map-in-Branch.ensures.cases (λ x i v p. search rules)
    (three_read register_field source_field offset_field _ _ _ _ _ _ _ _ _ c.index-operands-0-in-Branch.is c.index-operands-1-in-Branch.is c.index-operands-2.is (c.requires ∙ ap operand_count c.in-Branch.is) c.register-in-Branch.ensures c.source-in-Branch.ensures c.offset-in-Branch.ensures c.both-in-Branch.ensures c.both-in-Branch-2.ensures))

pub returns-in-CallHelper : goal.returns-in-CallHelper
returns-in-CallHelper c =
    rw c.in-CallHelper.is (made_by CallHelper _ c.imm-in-CallHelper.result _ c.map-in-CallHelper.ensures.cases (λ x i v p. search rules)
    (only_read imm_field _ _ _ c.index-operands-0-in-CallHelper.is (c.requires ∙ ap operand_count c.in-CallHelper.is) c.imm-in-CallHelper.ensures))

pub returns-in-CallLocal : goal.returns-in-CallLocal
returns-in-CallLocal c =
    rw c.in-CallLocal.is (made_by CallLocal _ c.imm-in-CallLocal.result _ c.map-in-CallLocal.ensures.cases (λ x i v p. search rules)
    (only_read imm_field _ _ _ c.index-operands-0-in-CallLocal.is (c.requires ∙ ap operand_count c.in-CallLocal.is) c.imm-in-CallLocal.ensures))

pub returns-in-CallBtf : goal.returns-in-CallBtf
returns-in-CallBtf c =
    rw c.in-CallBtf.is (made_by CallBtf _ c.both-in-CallBtf.result _ c.map-in-CallBtf.ensures.cases (λ x i v p. search rules)
    (two_read imm_field offset_field _ _ _ _ _ _ c.index-operands-0-in-CallBtf.is c.index-operands-1-in-CallBtf.is (c.requires ∙ ap operand_count c.in-CallBtf.is) c.imm-in-CallBtf.ensures c.offset-in-CallBtf.ensures c.both-in-CallBtf.ensures))

pub returns-in-Load : goal.returns-in-Load
returns-in-Load c =
    rw c.in-Load.is (made_by (Load c.in-Load.size) _ c.both-in-Load.result _ c.map-in-Load.ensures.cases (λ x i v p. search rules)
    (two_read register_field address_field _ _ _ _ _ _ c.index-operands-0-in-Load.is c.index-operands-1-in-Load.is (c.requires ∙ ap operand_count c.in-Load.is) c.register-in-Load.ensures c.address.ensures c.both-in-Load.ensures))

pub returns-in-LoadSigned : goal.returns-in-LoadSigned
returns-in-LoadSigned c =
    rw c.in-LoadSigned.is (made_by (LoadSigned c.in-LoadSigned.size) _ c.both-in-LoadSigned.result _ c.map-in-LoadSigned.ensures.cases (λ x i v p. search rules)
    (two_read register_field address_field _ _ _ _ _ _ c.index-operands-0-in-LoadSigned.is c.index-operands-1-in-LoadSigned.is (c.requires ∙ ap operand_count c.in-LoadSigned.is) c.register-in-LoadSigned.ensures c.address-in-LoadSigned.ensures c.both-in-LoadSigned.ensures))

pub returns-in-StoreImm : goal.returns-in-StoreImm
returns-in-StoreImm c =
    rw c.in-StoreImm.is (made_by (StoreImm c.in-StoreImm.size) _ c.both-in-StoreImm.result _ c.map-in-StoreImm.ensures.cases (λ x i v p. search rules)
    (two_read address_field imm_field _ _ _ _ _ _ c.index-operands-0-in-StoreImm.is c.index-operands-1-in-StoreImm.is (c.requires ∙ ap operand_count c.in-StoreImm.is) c.address-in-StoreImm.ensures c.imm-in-StoreImm.ensures c.both-in-StoreImm.ensures))

pub returns-in-StoreReg : goal.returns-in-StoreReg
returns-in-StoreReg c =
    rw c.in-StoreReg.is (made_by (StoreReg c.in-StoreReg.size) _ c.both-in-StoreReg.result _ c.map-in-StoreReg.ensures.cases (λ x i v p. search rules)
    (two_read address_field register_field _ _ _ _ _ _ c.index-operands-0-in-StoreReg.is c.index-operands-1-in-StoreReg.is (c.requires ∙ ap operand_count c.in-StoreReg.is) c.address-in-StoreReg.ensures c.register-in-StoreReg.ensures c.both-in-StoreReg.ensures))

pub returns-in-Atomic : goal.returns-in-Atomic
returns-in-Atomic c =
    rw c.in-Atomic.is (made_by (Atomic c.in-Atomic.width c.in-Atomic.op) _ c.both-in-Atomic.result _ c.map-in-Atomic.ensures.cases (λ x i v p. search rules)
    (two_read address_field register_field _ _ _ _ _ _ c.index-operands-0-in-Atomic.is c.index-operands-1-in-Atomic.is (c.requires ∙ ap operand_count c.in-Atomic.is) c.address-in-Atomic.ensures c.register-in-Atomic.ensures c.both-in-Atomic.ensures))

pub returns-in-PacketAbs : goal.returns-in-PacketAbs
returns-in-PacketAbs c =
    rw c.in-PacketAbs.is (made_by (PacketAbs c.in-PacketAbs.size) _ c.imm-in-PacketAbs.result _ c.map-in-PacketAbs.ensures.cases (λ x i v p. search rules)
    (only_read imm_field _ _ _ c.index-operands-0-in-PacketAbs.is (c.requires ∙ ap operand_count c.in-PacketAbs.is) c.imm-in-PacketAbs.ensures))

pub returns-in-PacketInd : goal.returns-in-PacketInd
returns-in-PacketInd c =
    rw c.in-PacketInd.is (made_by (PacketInd c.in-PacketInd.size) _ c.both-in-PacketInd.result _ c.map-in-PacketInd.ensures.cases (λ x i v p. search rules)
    (two_read register_field imm_field _ _ _ _ _ _ c.index-operands-0-in-PacketInd.is c.index-operands-1-in-PacketInd.is (c.requires ∙ ap operand_count c.in-PacketInd.is) c.register-in-PacketInd.ensures c.imm-in-PacketInd.ensures c.both-in-PacketInd.ensures))
