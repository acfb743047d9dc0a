-- A record that says an instruction has its fields.
use Rattle.std.proofs.Common.{◌≡◌, ◌/◌, ◌%◌, ◌++◌, ◌∙◌, ◌-◌, ℕ, ℤ, List, [], length, take, replicate, refl, sym, ap, arith, rules}
use Rattle.bpf_words.specs.declared.Order.{Order, TheVariants.Little}
use Rattle.bpf_words.specs.Slots.{Fields, encoded}
use Rattle.bpf_insn.specs.declared.insn.{Reg.Reg, Width.TheVariants.W32, Width.TheVariants.W64}
use Rattle.bpf_insn.specs.declared.insn.Size.TheVariants as size
use Rattle.bpf_insn.specs.declared.insn.SmallSize.TheVariants as small
use Rattle.bpf_insn.specs.declared.insn.AluOp.{AluOp}
use Rattle.bpf_insn.specs.declared.insn.AluOp.TheVariants as alu
use Rattle.bpf_insn.specs.declared.insn.BranchOp.{BranchOp}
use Rattle.bpf_insn.specs.declared.insn.BranchOp.TheVariants as branch
use Rattle.bpf_insn.specs.declared.insn.Operand.{Operand}
use Rattle.bpf_insn.specs.declared.insn.Operand.TheVariants as operand
use Rattle.bpf_insn.specs.declared.insn.MovsxForm.TheVariants as movsx
use Rattle.bpf_insn.specs.declared.insn.WideOf.{WideOf}
use Rattle.bpf_insn.specs.declared.insn.WideOf.TheVariants as wide
use Rattle.bpf_insn.specs.declared.insn.Insn.{Insn}
use Rattle.bpf_insn.specs.declared.insn.Insn.TheVariants.{Alu, Movsx, Neg, Swap, Jump, JumpLong, Branch, CallHelper, CallLocal, CallBtf, Exit, Load, LoadSigned, StoreImm, StoreReg, Atomic, Wide, PacketAbs, PacketInd}
use Rattle.bpf_insn.specs.Table.{fields_of, next_imm_of, register_number, source, alu_code, alu_offset, branch_code, wide_source}
use Rattle.std.proofs.lemmas.List.{take_at, append-nil}
use Rattle.bpf_insn.specs.{Table.IsInsn, Faults.BeginsWith}
use Rattle.bpf_insn.specs.Encoding.{encoding, second_slot}
use Rattle.bpfcanon_c.specs.declared.insn_rows.InsnRow.{InsnRow}
use Rattle.bpfcanon_c.specs.InsnRows.{form_row, alu_number}
use Rattle.bpfcanon_c.specs.InsnEncoding.{SaysInsn, SameParts, SameNumbers}
use Rattle.bpfcanon_c.specs.RawEncoding.{raw_fields, raw_next, raw_bytes}

small_register : (r : Reg) → register_number r % 16 ≡ register_number r
small_register r = let h = r.in_range in omega arith

small_source : (arg : Operand) → source arg % 16 ≡ source arg
small_source (operand.Imm k) = refl
small_source (operand.Reg r) = small_register r

alu_low : (op : AluOp) → alu_number op % 16 ≡ alu_code op
alu_low alu.Add = refl
alu_low alu.Sub = refl
alu_low alu.Mul = refl
alu_low alu.Div = refl
alu_low alu.Sdiv = refl
alu_low alu.Or = refl
alu_low alu.And = refl
alu_low alu.Lsh = refl
alu_low alu.Rsh = refl
alu_low alu.Mod = refl
alu_low alu.Smod = refl
alu_low alu.Xor = refl
alu_low alu.Mov = refl
alu_low alu.Arsh = refl

alu_high : (op : AluOp) → alu_number op / 16 ≡ alu_offset op
alu_high alu.Add = refl
alu_high alu.Sub = refl
alu_high alu.Mul = refl
alu_high alu.Div = refl
alu_high alu.Sdiv = refl
alu_high alu.Or = refl
alu_high alu.And = refl
alu_high alu.Lsh = refl
alu_high alu.Rsh = refl
alu_high alu.Mod = refl
alu_high alu.Smod = refl
alu_high alu.Xor = refl
alu_high alu.Mov = refl
alu_high alu.Arsh = refl

branch_low : (op : BranchOp) → branch_code op % 16 ≡ branch_code op
branch_low branch.Eq = refl
branch_low branch.Gt = refl
branch_low branch.Ge = refl
branch_low branch.Set = refl
branch_low branch.Ne = refl
branch_low branch.Sgt = refl
branch_low branch.Sge = refl
branch_low branch.Lt = refl
branch_low branch.Le = refl
branch_low branch.Slt = refl
branch_low branch.Sle = refl

wide_low : (what : WideOf) → wide_source what % 16 ≡ wide_source what
wide_low (wide.Number n) = refl
wide_low (wide.MapFd k) = refl
wide_low (wide.MapValueFd k m) = refl
wide_low (wide.VarAddr k m) = refl
wide_low (wide.CodeAddr k) = refl
wide_low (wide.MapIdx k) = refl
wide_low (wide.MapValueIdx k m) = refl

pub raw_of_form : (i : Insn) → raw_fields (form_row i) ≡ fields_of i
raw_of_form (Alu W32 op d (operand.Imm k)) = rw (alu_low, alu_high, small_register) refl
raw_of_form (Alu W64 op d (operand.Imm k)) = rw (alu_low, alu_high, small_register) refl
raw_of_form (Alu W32 op d (operand.Reg r)) = rw (alu_low, alu_high, small_register d, small_register r) refl
raw_of_form (Alu W64 op d (operand.Reg r)) = rw (alu_low, alu_high, small_register d, small_register r) refl
raw_of_form (Movsx movsx.W32From8 d s) = rw (small_register d, small_register s) refl
raw_of_form (Movsx movsx.W32From16 d s) = rw (small_register d, small_register s) refl
raw_of_form (Movsx movsx.W64From8 d s) = rw (small_register d, small_register s) refl
raw_of_form (Movsx movsx.W64From16 d s) = rw (small_register d, small_register s) refl
raw_of_form (Movsx movsx.W64From32 d s) = rw (small_register d, small_register s) refl
raw_of_form (Neg W32 d) = rw (small_register d) refl
raw_of_form (Neg W64 d) = rw (small_register d) refl
raw_of_form (Swap kind bits d) = rw (small_register d) refl
raw_of_form (Jump o) = refl
raw_of_form (JumpLong k) = refl
raw_of_form (Branch W32 op d (operand.Imm k) o) = rw (branch_low, small_register) refl
raw_of_form (Branch W64 op d (operand.Imm k) o) = rw (branch_low, small_register) refl
raw_of_form (Branch W32 op d (operand.Reg r) o) = rw (branch_low, small_register d, small_register r) refl
raw_of_form (Branch W64 op d (operand.Reg r) o) = rw (branch_low, small_register d, small_register r) refl
raw_of_form (CallHelper k) = refl
raw_of_form (CallLocal k) = refl
raw_of_form (CallBtf k o) = refl
raw_of_form Exit = refl
raw_of_form (Load size.B d s o) = rw (small_register d, small_register s) refl
raw_of_form (Load size.H d s o) = rw (small_register d, small_register s) refl
raw_of_form (Load size.W d s o) = rw (small_register d, small_register s) refl
raw_of_form (Load size.D d s o) = rw (small_register d, small_register s) refl
raw_of_form (LoadSigned small.B d s o) = rw (small_register d, small_register s) refl
raw_of_form (LoadSigned small.H d s o) = rw (small_register d, small_register s) refl
raw_of_form (LoadSigned small.W d s o) = rw (small_register d, small_register s) refl
raw_of_form (StoreImm size.B d o k) = rw (small_register d) refl
raw_of_form (StoreImm size.H d o k) = rw (small_register d) refl
raw_of_form (StoreImm size.W d o k) = rw (small_register d) refl
raw_of_form (StoreImm size.D d o k) = rw (small_register d) refl
raw_of_form (StoreReg size.B d s o) = rw (small_register d, small_register s) refl
raw_of_form (StoreReg size.H d s o) = rw (small_register d, small_register s) refl
raw_of_form (StoreReg size.W d s o) = rw (small_register d, small_register s) refl
raw_of_form (StoreReg size.D d s o) = rw (small_register d, small_register s) refl
raw_of_form (Atomic W32 op d s o) = rw (small_register d, small_register s) refl
raw_of_form (Atomic W64 op d s o) = rw (small_register d, small_register s) refl
raw_of_form (Wide d what) = rw (small_register d, wide_low) refl
raw_of_form (PacketAbs small.B k) = refl
raw_of_form (PacketAbs small.H k) = refl
raw_of_form (PacketAbs small.W k) = refl
raw_of_form (PacketInd small.B s k) = rw (small_register s) refl
raw_of_form (PacketInd small.H s k) = rw (small_register s) refl
raw_of_form (PacketInd small.W s k) = rw (small_register s) refl

next_of_form : (i : Insn) → raw_next (form_row i) ≡ next_imm_of i
next_of_form i = search rules

-- the encoding depends only on the parts
same_raw : (o : Order) (a b : InsnRow) → SameParts a b → SameNumbers a b → raw_bytes o a ≡ raw_bytes o b
same_raw o a b p n =
    let R : ℕ → ℕ → ℕ → ℕ → ℕ → ℕ → ℕ → ℤ → ℤ → ℤ → List ℕ = λ form op bits from dst src by_reg off imm next_imm.
    raw_bytes o (record a { form = form; op = op; bits = bits; from = from; dst = dst; src = src; by_reg = by_reg; off = off; imm = imm; next_imm = next_imm })
    in
    ap (λ x. R x a.op a.bits a.from a.dst a.src a.by_reg a.off a.imm a.next_imm) p.form
    ∙ ap (λ x. R b.form x a.bits a.from a.dst a.src a.by_reg a.off a.imm a.next_imm) p.op
    ∙ ap (λ x. R b.form b.op x a.from a.dst a.src a.by_reg a.off a.imm a.next_imm) p.bits
    ∙ ap (λ x. R b.form b.op b.bits x a.dst a.src a.by_reg a.off a.imm a.next_imm) p.from
    ∙ ap (λ x. R b.form b.op b.bits b.from x a.src a.by_reg a.off a.imm a.next_imm) p.dst
    ∙ ap (λ x. R b.form b.op b.bits b.from b.dst x a.by_reg a.off a.imm a.next_imm) p.src
    ∙ ap (λ x. R b.form b.op b.bits b.from b.dst b.src x a.off a.imm a.next_imm) p.by_reg
    ∙ ap (λ x. R b.form b.op b.bits b.from b.dst b.src b.by_reg x a.imm a.next_imm) n.off
    ∙ ap (λ x. R b.form b.op b.bits b.from b.dst b.src b.by_reg b.off x a.next_imm) n.imm
    ∙ ap (λ x. R b.form b.op b.bits b.from b.dst b.src b.by_reg b.off b.imm x) n.next_imm

-- the encoding of a record that says an instruction is its encoding
pub raw_is : (o : Order) (row : InsnRow) (i : Insn) → SaysInsn row i → raw_bytes o row ≡ encoding o i
unfolding encoding
raw_is o row i says =
    same_raw o row (form_row i) says.parts says.numbers
    ∙ ap (λ (f : Fields). encoded o f ++ second_slot o (raw_next (form_row i))) (raw_of_form i)
    ∙ ap (λ n. encoded o (fields_of i) ++ second_slot o n) (next_of_form i)

-- and so the bytes begin with it
pub begins : (row : InsnRow) (bytes : List ℕ) (n : ℕ) (i : Insn) → bytes ≡ raw_bytes Little row ++ replicate (16 - n) 0 → n ≡ length (raw_bytes Little row) → IsInsn i → SaysInsn row i
    → BeginsWith Little i (take n bytes)
begins row bytes n i e len is says = (
  is,
  (
    [],
    ap (λ (x : List ℕ). take n x) e ∙ take_at (raw_bytes Little row) (replicate (16 - n) 0) n (sym len) ∙ raw_is Little row i says ∙ sym (append-nil (encoding Little i)),
  ),
)
