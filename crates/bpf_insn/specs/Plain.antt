-- Plain instructions, in which each field after the opcode can be checked by itself, and these checks as bits of a number.
use Rattle.std.specs.Prelude.{◌≡◌, ℕ, ◌+◌, ◌*◌, ◌/◌, ◌%◌, pos, Bool, true, false, Option, Some, None, IsSomeAnd, option_and_then}
use Rattle.std.specs.Bool.{OnFalse}
use Rattle.bpf_words.specs.{declared.Order.Order, Slots.Fields, Slots.register_byte}
use Rattle.bpf_insn.specs.{Forms.form_at, Table.IsReg}
use Rattle.bpf_insn.specs.declared.form.{Source.Source, Source.TheVariants.K, Source.TheVariants.X, Form.Form}
use Rattle.bpf_insn.specs.declared.form.Form.TheVariants.{Alu, Neg, Jump, JumpLong, Branch, Call, Exit, Load, LoadSigned, StoreImm, StoreReg, PacketAbs, PacketInd}

-- which fields may have any value; the others must be 0
pub record Rule : Type 0 where
  pub any_dst : Bool
  pub any_src : Bool
  pub any_off : Bool
  pub any_imm : Bool

-- a rule allows the fields, and both registers exist
pub record IsWithin (r : Rule) (slot : Fields) : Type 0 where
  pub dst : IsReg slot.dst
  pub src : IsReg slot.src
  pub no_dst : OnFalse r.any_dst (slot.dst ≡ 0)
  pub no_src : OnFalse r.any_src (slot.src ≡ 0)
  pub no_off : OnFalse r.any_off (slot.off ≡ pos 0)
  pub no_imm : OnFalse r.any_imm (slot.imm ≡ pos 0)

abbrev pub rule : Bool → Bool → Bool → Bool → Rule
rule any_dst any_src any_off any_imm = record { any_dst = any_dst; any_src = any_src; any_off = any_off; any_imm = any_imm }

-- the rule of instructions with a destination and a second operand, an immediate or a register
abbrev pub operand_rule : Source → Bool → Rule
operand_rule K any_off = rule true false any_off true
operand_rule X any_off = rule true true any_off false

-- the rule of a form, if it has one; that of calls allows only calls of helpers by static ID
abbrev pub rule_of_form : Form → Option Rule
rule_of_form (Alu width op source) = Some (operand_rule source false)
rule_of_form (Neg width) = Some (rule true false false false)
rule_of_form Jump = Some (rule false false true false)
rule_of_form JumpLong = Some (rule false false false true)
rule_of_form (Branch width op source) = Some (operand_rule source true)
rule_of_form Call = Some (rule false false false true)
rule_of_form Exit = Some (rule false false false false)
rule_of_form (Load z) = Some (operand_rule X true)
rule_of_form (LoadSigned z) = Some (operand_rule X true)
rule_of_form (StoreImm z) = Some (operand_rule K true)
rule_of_form (StoreReg z) = Some (operand_rule X true)
rule_of_form (PacketAbs z) = Some (rule false false false true)
rule_of_form (PacketInd z) = Some (rule false true false true)
rule_of_form _ = None

abbrev pub rule_at : ℕ → Option Rule
rule_at n = option_and_then rule_of_form (form_at n)

-- the opcode has a rule, which allows the fields
abbrev pub IsPlain : Fields → Type 0
IsPlain slot = IsSomeAnd (rule_at slot.opcode) (λ r. IsWithin r slot)

-- ---- rules as bits of the number whose little-endian bytes are those of a slot

-- the bits that must be 0: all bits of the field, or none if any value is allowed
abbrev pub zero_unless : Bool → ℕ → ℕ
zero_unless true all = 0
zero_unless false all = all

abbrev pub rule_bits : Order → Rule → ℕ
rule_bits order r =
    0x100 * (register_byte order (zero_unless r.any_dst 0xf) (zero_unless r.any_src 0xf)
    + 0x100 * (zero_unless r.any_off 0xffff + 0x10000 * zero_unless r.any_imm 0xffffffff))

-- the bits that must be 0; only bit 0 for an opcode without a rule
abbrev pub bits_of : Order → Option Rule → ℕ
bits_of order None = 1
bits_of order (Some r) = rule_bits order r

abbrev pub zero_bits_at : Order → ℕ → ℕ
zero_bits_at order n = bits_of order (rule_at n)

-- how many of the two registers in a register byte are above 10
abbrev pub registers_above : ℕ → ℕ
registers_above n = n % 16 / 11 + n / 16 / 11
