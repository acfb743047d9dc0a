-- The fields of the instructions of each mnemonic.
use Rattle.std.proofs.Common.{rules, pos, arith, MatchResult, IsOkAnd, ◌≡◌, [], ◌∷◌, List, map, refl, sym, ap, ◌∙◌, subst, Result, Ok, Err}
use Rattle.std.specs.List.{AllZip}
use Rattle.bpf_insn.specs.declared.insn.{Operand.Operand, Reg.Reg}
use Rattle.bpf_insn.specs.declared.insn.Operand.TheVariants as operand
use Rattle.bpf_insn.specs.declared.insn.WideOf.TheVariants as of
use Rattle.bpf_insn.specs.declared.insn.Insn.{Insn}
use Rattle.bpf_insn.specs.declared.insn.Insn.TheVariants as insn
use Rattle.bpf_insn.specs.Table.{IsInsn, IsReg, register_number}
use Rattle.bpf_text.specs.declared.insn.fault.LineCause.{LineCause, TheVariants.Shape, TheVariants.Range}
use Rattle.bpf_text.specs.declared.insn.mnemonic.WideKind.TheVariants as kind
use Rattle.bpf_text.specs.declared.insn.{mnemonic.Mnemonic.Mnemonic, read_operand.ReadOperand.ReadOperand}
use Rattle.bpf_text.specs.declared.insn.mnemonic.Mnemonic.TheVariants.{Alu, Movsx, Neg, Swap, Jump, JumpLong, Branch, CallHelper, CallLocal, CallBtf, Exit, Load, LoadSigned, StoreImm, StoreReg, Atomic, Wide, PacketAbs, PacketInd}
use Rattle.bpf_text.specs.insn.Operands.{LineOperand, register, number, operand_kind}
use Rattle.bpf_text.specs.insn.{Table.source_operand, Table.operands_of, Mnemonics.mnemonic_of, Numbers.IsReadAs}
use Rattle.bpf_text.specs.insn.OperandFields.{plain, ReadsInsn, register_field, imm_field, offset_field, imm64_field, source_field, address_field}
use Rattle.bpf_text.proofs.InsnLemmas.FieldLists.{FieldList, last_field, field_then, ReadsFields, FieldsAreRead}
use Rattle.bpf_text.proofs.InsnLemmas.OperandFieldsLemmas.{plain_kinds}

-- the fields of some instructions, in the order of the line
abbrev pub Form : Type 1
Form = (X : Type 0) × FieldList X

abbrev pub form : {X : Type 0} → FieldList X → Form
form {X} fields = (X, fields)

-- those of the instructions of a mnemonic
abbrev pub form_of : Mnemonic → Form
form_of (Alu width op) = form (field_then register_field (last_field source_field))
form_of (Movsx which) = form (field_then register_field (last_field register_field))
form_of (Neg width) = form (last_field register_field)
form_of (Swap which bits) = form (last_field register_field)
form_of Jump = form (last_field offset_field)
form_of (Branch width op) = form (field_then register_field (field_then source_field (last_field offset_field)))
form_of CallBtf = form (field_then imm_field (last_field offset_field))
form_of Exit = form {X = Unit {0}} (record { valid = λ x. Unit {0}; written = λ x. [] })
form_of (Load size) = form (field_then register_field (last_field address_field))
form_of (LoadSigned size) = form (field_then register_field (last_field address_field))
form_of (StoreImm size) = form (field_then address_field (last_field imm_field))
form_of (StoreReg size) = form (field_then address_field (last_field register_field))
form_of (Atomic width op) = form (field_then address_field (last_field register_field))
form_of (Wide kind.Number) = form (field_then register_field (last_field imm64_field))
form_of (Wide kind.MapValueFd) = form (field_then register_field (field_then imm_field (last_field imm_field)))
form_of (Wide kind.VarAddr) = form (field_then register_field (field_then imm_field (last_field imm_field)))
form_of (Wide kind.MapValueIdx) = form (field_then register_field (field_then imm_field (last_field imm_field)))
form_of (Wide _) = form (field_then register_field (last_field imm_field))
form_of (PacketInd size) = form (field_then register_field (last_field imm_field))
form_of _ = form (last_field imm_field)

abbrev pub Fields : Mnemonic → Type 0
Fields m = (form_of m).0

abbrev pub fields_of : (m : Mnemonic) → FieldList (Fields m)
fields_of m = (form_of m).1

-- the instruction of a mnemonic that has these fields
abbrev pub insn_of : (m : Mnemonic) → Fields m → Insn
insn_of (Alu width op) x = insn.Alu width op x.0 x.1
insn_of (Movsx which) x = insn.Movsx which x.0 x.1
insn_of (Neg width) x = insn.Neg width x
insn_of (Swap which bits) x = insn.Swap which bits x
insn_of Jump x = insn.Jump x
insn_of JumpLong x = insn.JumpLong x
insn_of (Branch width op) x = insn.Branch width op x.0 x.1.0 x.1.1
insn_of CallHelper x = insn.CallHelper x
insn_of CallLocal x = insn.CallLocal x
insn_of CallBtf x = insn.CallBtf x.0 x.1
insn_of Exit x = insn.Exit
insn_of (Load size) x = insn.Load size x.0 x.1.0 x.1.1
insn_of (LoadSigned size) x = insn.LoadSigned size x.0 x.1.0 x.1.1
insn_of (StoreImm size) x = insn.StoreImm size x.0.0 x.0.1 x.1
insn_of (StoreReg size) x = insn.StoreReg size x.0.0 x.1 x.0.1
insn_of (Atomic width op) x = insn.Atomic width op x.0.0 x.1 x.0.1
insn_of (Wide kind.Number) x = insn.Wide x.0 (of.Number x.1)
insn_of (Wide kind.MapFd) x = insn.Wide x.0 (of.MapFd x.1)
insn_of (Wide kind.MapValueFd) x = insn.Wide x.0 (of.MapValueFd x.1.0 x.1.1)
insn_of (Wide kind.VarAddr) x = insn.Wide x.0 (of.VarAddr x.1.0 x.1.1)
insn_of (Wide kind.CodeAddr) x = insn.Wide x.0 (of.CodeAddr x.1)
insn_of (Wide kind.MapIdx) x = insn.Wide x.0 (of.MapIdx x.1)
insn_of (Wide kind.MapValueIdx) x = insn.Wide x.0 (of.MapValueIdx x.1.0 x.1.1)
insn_of (PacketAbs size) x = insn.PacketAbs size x
insn_of (PacketInd size) x = insn.PacketInd size x.0 x.1

operand_plain : (arg : Operand) → plain (source_operand arg) ≡ source_operand arg
operand_plain (operand.Imm k) = refl
operand_plain (operand.Reg r) = refl

spelled_is : (m : Mnemonic) (x : Fields m) → map plain (operands_of (insn_of m x)) ≡ (fields_of m).written x
spelled_is (Alu width op) x = ap (λ a. register x.0 ∷ a ∷ []) (operand_plain x.1)
spelled_is (Branch width op) x = ap (λ a. register x.0 ∷ a ∷ number x.1.1 ∷ []) (operand_plain x.1.0)
spelled_is (Wide kind.Number) x = refl
spelled_is (Wide _) x = refl
spelled_is _ x = refl

named : (m : Mnemonic) (x : Fields m) → mnemonic_of (insn_of m x) ≡ m
named (Wide kind.Number) x = refl
named (Wide _) x = refl
named _ x = refl

some_register : Reg
some_register = record { number = 0; in_range = omega arith }

some_fields : (m : Mnemonic) → Fields m
some_fields (Alu width op) = (some_register, operand.Reg some_register)
some_fields (Movsx which) = (some_register, some_register)
some_fields (Neg width) = some_register
some_fields (Swap which bits) = some_register
some_fields (Branch width op) = (some_register, (operand.Reg some_register, pos 0))
some_fields CallBtf = (pos 0, pos 0)
some_fields Exit = tt
some_fields (Load size) = (some_register, (some_register, pos 0))
some_fields (LoadSigned size) = (some_register, (some_register, pos 0))
some_fields (StoreImm size) = ((some_register, pos 0), pos 0)
some_fields (StoreReg size) = ((some_register, pos 0), some_register)
some_fields (Atomic width op) = ((some_register, pos 0), some_register)
some_fields (Wide kind.Number) = (some_register, 0)
some_fields (Wide kind.MapValueFd) = (some_register, (pos 0, pos 0))
some_fields (Wide kind.VarAddr) = (some_register, (pos 0, pos 0))
some_fields (Wide kind.MapValueIdx) = (some_register, (pos 0, pos 0))
some_fields (Wide _) = (some_register, pos 0)
some_fields (PacketInd size) = (some_register, pos 0)
some_fields Jump = pos 0
some_fields JumpLong = pos 0
some_fields _ = pos 0

-- each mnemonic has an instruction
pub some_insn : (m : Mnemonic) → (i : Insn) × (mnemonic_of i ≡ m)
some_insn m = (insn_of m (some_fields m), named m (some_fields m))

is_reg : (r : Reg) → IsReg (register_number r)
is_reg r = r.in_range

sound : (m : Mnemonic) (x : Fields m) → (fields_of m).valid x → IsInsn (insn_of m x)
sound (Wide kind.Number) x v = search (rules, is_reg)
sound _ x v = search (rules, is_reg)

-- the instruction is made from fields of the mnemonic's form
abbrev Made : Mnemonic → Insn → Type 0
Made m i = (x : Fields m) × (map plain (operands_of i) ≡ (fields_of m).written x) × (IsInsn i → (fields_of m).valid x)

-- each instruction is made from fields of its own mnemonic's form
made : (i : Insn) → Made (mnemonic_of i) i
made (insn.Alu w o d arg) = ((d, arg), ap (λ a. register d ∷ a ∷ []) (operand_plain arg), (λ v. (tt, v.1)))
made (insn.Movsx f d s) = ((d, s), refl, (λ v. (tt, tt)))
made (insn.Neg w d) = (d, refl, (λ v. tt))
made (insn.Swap k b d) = (d, refl, (λ v. tt))
made (insn.Jump o) = (o, refl, (λ v. v))
made (insn.JumpLong k) = (k, refl, (λ v. v))
made (insn.Branch w p d arg o) = ((d, (arg, o)), ap (λ a. register d ∷ a ∷ number o ∷ []) (operand_plain arg), (λ v. (tt, (v.1, v.2))))
made (insn.CallHelper k) = (k, refl, (λ v. v))
made (insn.CallLocal k) = (k, refl, (λ v. v))
made (insn.CallBtf k o) = ((k, o), refl, (λ v. v))
made (insn.Load z d s o) = ((d, (s, o)), refl, (λ v. (tt, v.2)))
made (insn.LoadSigned z d s o) = ((d, (s, o)), refl, (λ v. (tt, v.2)))
made (insn.StoreImm z d o k) = (((d, o), k), refl, (λ v. (v.1, v.2)))
made (insn.StoreReg z d s o) = (((d, o), s), refl, (λ v. (v.2, tt)))
made (insn.Atomic w p d s o) = (((d, o), s), refl, (λ v. (v.2, tt)))
made (insn.Wide d (of.Number n)) = ((d, n), refl, (λ v. (tt, v.1)))
made (insn.Wide d (of.MapFd k)) = ((d, k), refl, (λ v. (tt, v.1)))
made (insn.Wide d (of.MapValueFd k m)) = ((d, (k, m)), refl, (λ v. (tt, v.1)))
made (insn.Wide d (of.VarAddr k m)) = ((d, (k, m)), refl, (λ v. (tt, v.1)))
made (insn.Wide d (of.CodeAddr k)) = ((d, k), refl, (λ v. (tt, v.1)))
made (insn.Wide d (of.MapIdx k)) = ((d, k), refl, (λ v. (tt, v.1)))
made (insn.Wide d (of.MapValueIdx k m)) = ((d, (k, m)), refl, (λ v. (tt, v.1)))
made (insn.PacketAbs z k) = (k, refl, (λ v. v))
made (insn.PacketInd z s k) = ((s, k), refl, (λ v. (tt, v.1)))
made insn.Exit = (tt, refl, (λ v. tt))

-- likewise for each instruction with this mnemonic
only_made : (m : Mnemonic) (i : Insn) → mnemonic_of i ≡ m → Made m i
only_made m i e = subst (λ n. Made n i) e (made i)

-- the same result, as an instruction
abbrev made_of : {X : Type 0} → (X → Insn) → Result X LineCause → Result Insn LineCause
made_of make (Ok x) = Ok (make x)
made_of make (Err cause) = Err cause

module _ (m : Mnemonic) where
  kinds_are : (i : Insn) (x : Fields m) → map plain (operands_of i) ≡ (fields_of m).written x → map operand_kind (operands_of i) ≡ map operand_kind ((fields_of m).written x)
  kinds_are i x e = plain_kinds (operands_of i) ∙ ap (map operand_kind) e

  insn_reads : (spelled : List LineOperand) (r : Result (Fields m) LineCause) → ReadsFields (fields_of m) spelled r → ReadsInsn m spelled (made_of (insn_of m) r)
  insn_reads spelled (Ok x) h = (sound m x h.0, named m x, h.1 ∙ sym (spelled_is m x))
  insn_reads spelled (Err Shape) h = λ i e f. let w = only_made m i e in h w.0 (f ∙ kinds_are i w.0 w.1)
  insn_reads spelled (Err Range) h = (
    (insn_of m h.0.0, named m h.0.0, h.0.1 ∙ sym (kinds_are (insn_of m h.0.0) h.0.0 (spelled_is m h.0.0))),
    (λ i v e s. let w = only_made m i e in h.1 w.0 (w.2 v) (s ∙ w.1)),
  )
  insn_reads spelled (Err _) h = absurd h

  -- the result of a closure that makes the instruction from its fields
  pub made_by : {Post : Fields m → Insn → Type 0} (xs : List ReadOperand) (r : Result (Fields m) LineCause) (s : Result Insn LineCause)
      → MatchResult r (λ x. IsOkAnd s (Post x)) (λ e. s ≡ Err e) → ((x : Fields m) (i : Insn) → (fields_of m).valid x → Post x i → i ≡ insn_of m x)
      → FieldsAreRead (fields_of m) xs r → (spelled : List LineOperand) → AllZip IsReadAs xs spelled → ReadsInsn m spelled s
  made_by xs (Ok x) (Ok i) made same reads spelled h =
      let read = reads spelled h in
      subst (λ (j : Insn). ReadsInsn m spelled (Ok j)) (sym (same x i read.0 made)) (insn_reads spelled (Ok x) read)
  made_by xs (Ok x) (Err cause) made same reads spelled h = absurd made
  made_by xs (Err cause) s made same reads spelled h = subst (ReadsInsn m spelled) (sym made) (insn_reads spelled (Err cause) (reads spelled h))
