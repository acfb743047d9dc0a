use Rattle.std.proofs.Common.{◌≡◌, ℕ, List, map, subst}
use Rattle.bpf_text.specs.insn.Operands.{SpellsOperands}
use Rattle.bpf_text.proofs.InsnLemmas.{OperandsLemmas.bytes_of, OneReading.one_tokens}
use Rattle.bpf_text.proofs.InsnLemmas.ReadingLemmas.{no_mnemonic, is_mnemonic, no_form, no_form_of_many, tokens_read}
use Rattle.bpf_text.proofs.insn.read.insn_from_tokens.Goals as goal

pub returns-in_default : goal.returns-in_default
returns-in_default c = λ ts h. no_mnemonic c.args.first_token.now c.in_default.ensures.none

pub returns-then-not-read_tokens : goal.returns-then-not-read_tokens
returns-then-not-read_tokens c = λ ts h. (
  is_mnemonic c.args.first_token.now c.in-Some.mnemonic c.in-Some.ensures.some,
  no_form_of_many c.args.first_token.now ts (rw c.if-not-read_tokens.true at c.read_tokens.ensures ts h),
)

pub returns-in_default-operands_from_tokens : goal.returns-in_default-operands_from_tokens
returns-in_default-operands_from_tokens c = λ ts h.
    let same : map bytes_of c.as_slice.result.now ≡ ts = rw c.as_slice.ensures.value (one_tokens c.args.following.now (map bytes_of c.read_tokens.new.tokens.items) ts (rw c.if-not-read_tokens.false at c.read_tokens.ensures) h) in
    (is_mnemonic c.args.first_token.now c.in-Some.mnemonic c.in-Some.ensures.some, no_form c.args.first_token.now ts (rw same at c.in_default-operands_from_tokens.ensures.none))

pub returns : goal.returns
returns c = λ ts h.
    let same : map bytes_of c.as_slice.result.now ≡ ts = rw c.as_slice.ensures.value (one_tokens c.args.following.now (map bytes_of c.read_tokens.new.tokens.items) ts (rw c.if-not-read_tokens.false at c.read_tokens.ensures) h) in
    let w = c.in-Some-operands_from_tokens.ensures.some in
    let spells : SpellsOperands ts w.0 = subst (λ (x : List (List ℕ)). SpellsOperands x w.0) same w.1 in
    tokens_read c.args.first_token.now ts c.in-Some.mnemonic c.in-Some.ensures.some w.0 spells c.insn_from_operands.result (c.insn_from_operands.ensures w.0 (rw c.as_slice-2.ensures.value w.2))
