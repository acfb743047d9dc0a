use Rattle.std.proofs.{Common.rules}
use Rattle.bpf_text.specs.declared.insn.mnemonic.WideKind.TheVariants as kind
use Rattle.bpf_text.specs.declared.insn.mnemonic.Mnemonic.TheVariants.{Wide}
use Rattle.bpf_text.specs.insn.OperandFields.{register_field, imm_field, imm64_field}
use Rattle.bpf_text.proofs.InsnLemmas.{OperandFieldsLemmas.two_read, OperandFieldsLemmas.three_read, MakeTable.made_by}
use Rattle.bpf_text.proofs.insn.make.wide_from_operands.Goals as goal

pub returns-in-Number : goal.returns-in-Number
returns-in-Number c =
    rw c.in-Number.is (made_by (Wide kind.Number) _ c.both.result _ c.map.ensures.cases (λ x i v p. search rules)
    (two_read register_field imm64_field _ _ _ _ _ _ c.index-operands-0.is c.index-operands-1.is (rw c.in-Number.is at c.requires) c.register.ensures c.imm64.ensures c.both.ensures))

pub returns-in-MapValueFd : goal.returns-in-MapValueFd
returns-in-MapValueFd c =
    rw c.in-MapValueFd.is (made_by (Wide kind.MapValueFd) _ c.both-in-MapValueFd-2.result _ c.map-in-MapValueFd.ensures.cases (λ x i v p. search rules)
    (three_read register_field imm_field imm_field _ _ _ _ _ _ _ _ _ c.index-operands-0-in-MapValueFd.is c.index-operands-1-in-MapValueFd.is c.index-operands-2.is (rw c.in-MapValueFd.is at c.requires) c.register-in-MapValueFd.ensures c.imm-in-MapValueFd.ensures c.imm-in-MapValueFd-2.ensures c.both-in-MapValueFd.ensures c.both-in-MapValueFd-2.ensures))

pub returns-in-VarAddr : goal.returns-in-VarAddr
returns-in-VarAddr c =
    rw c.in-VarAddr.is (made_by (Wide kind.VarAddr) _ c.both-in-VarAddr-2.result _ c.map-in-VarAddr.ensures.cases (λ x i v p. search rules)
    (three_read register_field imm_field imm_field _ _ _ _ _ _ _ _ _ c.index-operands-0-in-VarAddr.is c.index-operands-1-in-VarAddr.is c.index-operands-2-in-VarAddr.is (rw c.in-VarAddr.is at c.requires) c.register-in-VarAddr.ensures c.imm-in-VarAddr.ensures c.imm-in-VarAddr-2.ensures c.both-in-VarAddr.ensures c.both-in-VarAddr-2.ensures))

pub returns-in-CodeAddr : goal.returns-in-CodeAddr
returns-in-CodeAddr c =
    rw c.in-CodeAddr.is (made_by (Wide kind.CodeAddr) _ c.both-in-CodeAddr.result _ c.map-in-CodeAddr.ensures.cases (λ x i v p. search rules)
    (two_read register_field imm_field _ _ _ _ _ _ c.index-operands-0-in-CodeAddr.is c.index-operands-1-in-CodeAddr.is (rw c.in-CodeAddr.is at c.requires) c.register-in-CodeAddr.ensures c.imm-in-CodeAddr.ensures c.both-in-CodeAddr.ensures))

pub returns-in-MapIdx : goal.returns-in-MapIdx
returns-in-MapIdx c =
    rw c.in-MapIdx.is (made_by (Wide kind.MapIdx) _ c.both-in-MapIdx.result _ c.map-in-MapIdx.ensures.cases (λ x i v p. search rules)
    (two_read register_field imm_field _ _ _ _ _ _ c.index-operands-0-in-MapIdx.is c.index-operands-1-in-MapIdx.is (rw c.in-MapIdx.is at c.requires) c.register-in-MapIdx.ensures c.imm-in-MapIdx.ensures c.both-in-MapIdx.ensures))

pub returns-in-MapValueIdx : goal.returns-in-MapValueIdx
returns-in-MapValueIdx c =
    rw c.in-MapValueIdx.is (made_by (Wide kind.MapValueIdx) _ c.both-in-MapValueIdx-2.result _ c.map-in-MapValueIdx.ensures.cases (λ x i v p. search rules)
    (three_read register_field imm_field imm_field _ _ _ _ _ _ _ _ _ c.index-operands-0-in-MapValueIdx.is c.index-operands-1-in-MapValueIdx.is c.index-operands-2-in-MapValueIdx.is (rw c.in-MapValueIdx.is at c.requires) c.register-in-MapValueIdx.ensures c.imm-in-MapValueIdx.ensures c.imm-in-MapValueIdx-2.ensures c.both-in-MapValueIdx.ensures c.both-in-MapValueIdx-2.ensures))

pub returns-in-MapFd : goal.returns-in-MapFd
returns-in-MapFd c =
    rw c.in-MapFd.is (made_by (Wide kind.MapFd) _ c.both-in-MapFd.result _ c.map-in-MapFd.ensures.cases (λ x i v p. search rules)
    (two_read register_field imm_field _ _ _ _ _ _ c.index-operands-0-in-MapFd.is c.index-operands-1-in-MapFd.is (rw c.in-MapFd.is at c.requires) c.register-in-MapFd.ensures c.imm.ensures c.both-in-MapFd.ensures))
