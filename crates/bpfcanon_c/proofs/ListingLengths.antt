-- A listing is at most four times as long as the instructions that it lists.
use Rattle.std.proofs.Common.{◌≡◌, ◌≤◌, ◌+◌, ◌*◌, ℕ, suc, ℤ, pos, negsuc, List, [], ◌∷◌, ◌++◌, All, length, length-append, ap, arith, codes, decimal, FitsSigned}
use Rattle.std.specs.{Fmt.signed_decimal, Int.w16, Int.w32}
use Rattle.std.proofs.lemmas.{Int.ints, Fmt.length-decimal-le, List.Elements.All-head, List.Elements.All-tail}
use Rattle.bpf_words.specs.{declared.Order.Order, Slots.encoded}
use Rattle.bpf_insn.specs.declared.insn.{Width.Width, Width.TheVariants.W32, Width.TheVariants.W64, Size.Size}
use Rattle.bpf_insn.specs.declared.insn.Size.TheVariants as size
use Rattle.bpf_insn.specs.declared.insn.SmallSize.{SmallSize}
use Rattle.bpf_insn.specs.declared.insn.SmallSize.TheVariants as small
use Rattle.bpf_insn.specs.declared.insn.Operand.{Operand, TheVariants.Imm, TheVariants.Reg}
use Rattle.bpf_insn.specs.declared.insn.Reg as reg
use Rattle.bpf_insn.specs.declared.insn.AluOp.{AluOp}
use Rattle.bpf_insn.specs.declared.insn.AluOp.TheVariants as alu
use Rattle.bpf_insn.specs.declared.insn.BranchOp.{BranchOp}
use Rattle.bpf_insn.specs.declared.insn.BranchOp.TheVariants as branch
use Rattle.bpf_insn.specs.declared.insn.MovsxForm.{MovsxForm}
use Rattle.bpf_insn.specs.declared.insn.MovsxForm.TheVariants as movsx
use Rattle.bpf_insn.specs.declared.insn.SwapKind.{SwapKind}
use Rattle.bpf_insn.specs.declared.insn.SwapKind.TheVariants as swap
use Rattle.bpf_insn.specs.declared.insn.SwapBits.{SwapBits, TheVariants.B16, TheVariants.B32, TheVariants.B64}
use Rattle.bpf_insn.specs.declared.insn.AtomicOp.{AtomicOp}
use Rattle.bpf_insn.specs.declared.insn.AtomicOp.TheVariants as atomic
use Rattle.bpf_insn.specs.declared.insn.{WideOf.WideOf, Insn.Insn}
use Rattle.bpf_insn.specs.declared.insn.WideOf.TheVariants.{Number, MapFd, MapValueFd, VarAddr, CodeAddr, MapIdx, MapValueIdx}
use Rattle.bpf_insn.specs.declared.insn.Insn.TheVariants.{Alu, Movsx, Neg, Swap, Jump, JumpLong, Branch, CallHelper, CallLocal, CallBtf, Exit, Load, LoadSigned, StoreImm, StoreReg, Atomic, Wide, PacketAbs, PacketInd}
use Rattle.bpf_insn.specs.Table.{IsInsn, IsOperand, IsWideOf, fields_of, next_imm_of, wide_next_imm}
use Rattle.bpf_insn.specs.Encoding.{InsnFile, file_of, second_slot, encoding}
use Rattle.bpf_words.proofs.SlotLemmas.{slot_length}
use Rattle.bpf_insn.proofs.{FileLaws.at_least_a_slot, WideLemmas.second_length}
use Rattle.bpf_text.specs.insn.Operands.{LineOperand, register, number, signed, memory, register_text, signed_text, operand_text}
use Rattle.bpf_text.specs.insn.Table.{width_suffix, alu_mnemonic, branch_mnemonic, movsx_mnemonic, swap_mnemonic, bits_suffix, size_suffix, small_size_suffix, atomic_mnemonic, mnemonic_text, source_operand}
use Rattle.bpf_text.specs.insn.Lines.{spaced, line_of, listing_of}

-- ---- numbers and registers

register_length : (r : reg.Reg) → length (register_text r) ≤ 3
register_length r = let small = r.in_range in omega (arith, length-decimal-le 2 r.number (omega arith) (omega (arith, small)) (omega (arith, small)))

offset_length : (z : ℤ) → FitsSigned w16 z → length (signed_text z) ≤ 6
offset_length (pos n) h = omega (arith, length-decimal-le 5 n (omega arith) (omega (arith, ints)) (omega (arith, ints)))
offset_length (negsuc n) h = omega (arith, length-decimal-le 5 (suc n) (omega arith) (omega (arith, ints)) (omega (arith, ints)))

small_length : (z : ℤ) → FitsSigned w16 z → length (signed_decimal z) ≤ 6
small_length (pos n) h = omega (arith, length-decimal-le 5 n (omega arith) (omega (arith, ints)) (omega (arith, ints)))
small_length (negsuc n) h = omega (arith, length-decimal-le 5 (suc n) (omega arith) (omega (arith, ints)) (omega (arith, ints)))

distance_length : (z : ℤ) → FitsSigned w32 z → length (signed_text z) ≤ 11
distance_length (pos n) h = omega (arith, length-decimal-le 10 n (omega arith) (omega (arith, ints)) (omega (arith, ints)))
distance_length (negsuc n) h = omega (arith, length-decimal-le 10 (suc n) (omega arith) (omega (arith, ints)) (omega (arith, ints)))

imm_length : (z : ℤ) → FitsSigned w32 z → length (signed_decimal z) ≤ 11
imm_length (pos n) h = omega (arith, length-decimal-le 10 n (omega arith) (omega (arith, ints)) (omega (arith, ints)))
imm_length (negsuc n) h = omega (arith, length-decimal-le 10 (suc n) (omega arith) (omega (arith, ints)) (omega (arith, ints)))

memory_length : (r : reg.Reg) (z : ℤ) → FitsSigned w16 z → length (operand_text (memory r z)) ≤ 11
memory_length r z h =
    omega (arith, register_length r, offset_length z h, length-append (decimal r.number ++ signed_text z) (codes "]"), length-append (decimal r.number) (signed_text z))

source_length : (arg : Operand) → IsOperand arg → length (operand_text (source_operand arg)) ≤ 11
source_length (Imm k) h = imm_length k h
source_length (Reg r) h = omega (arith, register_length r)

-- ---- mnemonics

width_length : (w : Width) → length (width_suffix w) ≤ 2
width_length W32 = omega arith
width_length W64 = omega arith

alu_length : (op : AluOp) → length (alu_mnemonic op) ≤ 4
alu_length op = elim op as (λ x. length (alu_mnemonic x) ≤ 4) [ alu.Add ↦ omega arith | alu.Sub ↦ omega arith | alu.Mul ↦ omega arith | alu.Div ↦ omega arith | alu.Sdiv ↦ omega arith | alu.Or ↦ omega arith | alu.And ↦ omega arith | alu.Lsh ↦ omega arith | alu.Rsh ↦ omega arith | alu.Mod ↦ omega arith | alu.Smod ↦ omega arith | alu.Xor ↦ omega arith | alu.Mov ↦ omega arith | alu.Arsh ↦ omega arith ]

branch_length : (op : BranchOp) → length (branch_mnemonic op) ≤ 4
branch_length op = elim op as (λ x. length (branch_mnemonic x) ≤ 4) [ branch.Eq ↦ omega arith | branch.Gt ↦ omega arith | branch.Ge ↦ omega arith | branch.Set ↦ omega arith | branch.Ne ↦ omega arith | branch.Sgt ↦ omega arith | branch.Sge ↦ omega arith | branch.Lt ↦ omega arith | branch.Le ↦ omega arith | branch.Slt ↦ omega arith | branch.Sle ↦ omega arith ]

movsx_length : (form : MovsxForm) → length (movsx_mnemonic form) ≤ 10
movsx_length form = elim form as (λ x. length (movsx_mnemonic x) ≤ 10) [ movsx.W32From8 ↦ omega arith | movsx.W32From16 ↦ omega arith | movsx.W64From8 ↦ omega arith | movsx.W64From16 ↦ omega arith | movsx.W64From32 ↦ omega arith ]

swap_length : (kind : SwapKind) → length (swap_mnemonic kind) ≤ 4
swap_length kind = elim kind as (λ x. length (swap_mnemonic x) ≤ 4) [ swap.Le ↦ omega arith | swap.Be ↦ omega arith | swap.Swap ↦ omega arith ]

bits_length : (bits : SwapBits) → length (bits_suffix bits) ≤ 2
bits_length bits = elim bits as (λ x. length (bits_suffix x) ≤ 2) [ B16 ↦ omega arith | B32 ↦ omega arith | B64 ↦ omega arith ]

size_length : (z : Size) → length (size_suffix z) ≤ 2
size_length z = elim z as (λ x. length (size_suffix x) ≤ 2) [ size.B ↦ omega arith | size.H ↦ omega arith | size.W ↦ omega arith | size.D ↦ omega arith ]

small_size_length : (z : SmallSize) → length (small_size_suffix z) ≤ 1
small_size_length z = elim z as (λ x. length (small_size_suffix x) ≤ 1) [ small.B ↦ omega arith | small.H ↦ omega arith | small.W ↦ omega arith ]

atomic_length : (op : AtomicOp) → length (atomic_mnemonic op) ≤ 10
atomic_length op = elim op as (λ x. length (atomic_mnemonic x) ≤ 10) [ atomic.Add ↦ omega arith | atomic.Or ↦ omega arith | atomic.And ↦ omega arith | atomic.Xor ↦ omega arith | atomic.FetchAdd ↦ omega arith | atomic.FetchOr ↦ omega arith | atomic.FetchAnd ↦ omega arith | atomic.FetchXor ↦ omega arith | atomic.Xchg ↦ omega arith | atomic.Cmpxchg ↦ omega arith ]

-- ---- lines

one : (m : List ℕ) (a : LineOperand) → length (m ++ spaced (a ∷ [])) ≡ length m + length (operand_text a) + 1
one m a = omega (arith, length-append m (codes " " ++ operand_text a))

-- an operand, with the comma and the space after it, and more
then : (a : LineOperand) (more : List ℕ) → length (operand_text a ++ codes ", " ++ more) ≡ length (operand_text a) + length more + 2
then a more = omega (arith, length-append (operand_text a ++ codes ", ") more, length-append (operand_text a) (codes ", "))

two : (m : List ℕ) (a b : LineOperand) → length (m ++ spaced (a ∷ b ∷ [])) ≡ length m + length (operand_text a) + length (operand_text b) + 3
two m a b = omega (arith, length-append m (spaced (a ∷ b ∷ [])), then a (operand_text b))

three : (m : List ℕ) (a b c : LineOperand) → length (m ++ spaced (a ∷ b ∷ c ∷ [])) ≡ length m + length (operand_text a) + length (operand_text b) + length (operand_text c) + 5
three m a b c = omega (arith, length-append m (spaced (a ∷ b ∷ c ∷ [])), then a (operand_text b ++ codes ", " ++ operand_text c), then b (operand_text c))

-- the line of a wide load
wide_line : (d : reg.Reg) (what : WideOf) → IsWideOf what → length (line_of (Wide d what)) ≤ 63
wide_line d (Number n) h = omega (arith, two (codes "lddw") (register d) (number (pos n)), register_length d, length-decimal-le 20 n (omega arith) (omega (arith, h)) h)
wide_line d (MapFd k) h = omega (arith, two (codes "lddw_map") (register d) (number k), register_length d, imm_length k h)
wide_line d (MapValueFd k m) h = omega (arith, three (codes "lddw_map_value") (register d) (number k) (number m), register_length d, imm_length k h.0, imm_length m h.1)
wide_line d (VarAddr k m) h = omega (arith, three (codes "lddw_var") (register d) (number k) (number m), register_length d, imm_length k h.0, imm_length m h.1)
wide_line d (CodeAddr k) h = omega (arith, two (codes "lddw_code") (register d) (number k), register_length d, imm_length k h)
wide_line d (MapIdx k) h = omega (arith, two (codes "lddw_idx") (register d) (number k), register_length d, imm_length k h)
wide_line d (MapValueIdx k m) h = omega (arith, three (codes "lddw_idx_value") (register d) (number k) (number m), register_length d, imm_length k h.0, imm_length m h.1)

wide_length : (o : Order) (d : reg.Reg) (what : WideOf) → length (encoding o (Wide d what)) ≡ 16
unfolding encoding
wide_length o d what =
    let i = Wide d what in
    omega (arith, second_length o (wide_next_imm what), length-append (encoded o (fields_of i)) (second_slot o (next_imm_of i)), slot_length o (fields_of i))

-- the line of an instruction with its newline: jsgt32 r10, -2147483648, -32768 has 32 bytes
line_length : (o : Order) (i : Insn) → IsInsn i → length (line_of i) + 1 ≤ 4 * length (encoding o i)
line_length o (Alu width op d arg) h =
    omega (arith, at_least_a_slot o (Alu width op d arg), two (mnemonic_text (Alu width op d arg)) (register d) (source_operand arg), length-append (alu_mnemonic op) (width_suffix width), alu_length op, width_length width, register_length d, source_length arg h.1)
line_length o (Movsx form d s) h =
    omega (arith, at_least_a_slot o (Movsx form d s), two (movsx_mnemonic form) (register d) (register s), movsx_length form, register_length d, register_length s)
line_length o (Neg width d) h =
    omega (arith, at_least_a_slot o (Neg width d), one (mnemonic_text (Neg width d)) (register d), length-append (codes "neg") (width_suffix width), width_length width, register_length d)
line_length o (Swap kind bits d) h =
    omega (arith, at_least_a_slot o (Swap kind bits d), one (mnemonic_text (Swap kind bits d)) (register d), length-append (swap_mnemonic kind) (bits_suffix bits), swap_length kind, bits_length bits, register_length d)
line_length o (Jump z) h = omega (arith, at_least_a_slot o (Jump z), one (codes "ja") (signed z), offset_length z h)
line_length o (JumpLong k) h = omega (arith, at_least_a_slot o (JumpLong k), one (codes "ja32") (signed k), distance_length k h)
line_length o (Branch width op d arg z) h =
    omega (arith, at_least_a_slot o (Branch width op d arg z), three (mnemonic_text (Branch width op d arg z)) (register d) (source_operand arg) (signed z), length-append (branch_mnemonic op) (width_suffix width), branch_length op, width_length width, register_length d, source_length arg h.1, offset_length z h.2)
line_length o (CallHelper k) h = omega (arith, at_least_a_slot o (CallHelper k), one (codes "call") (number k), imm_length k h)
line_length o (CallLocal k) h = omega (arith, at_least_a_slot o (CallLocal k), one (codes "call_local") (signed k), distance_length k h)
line_length o (CallBtf k z) h = omega (arith, at_least_a_slot o (CallBtf k z), two (codes "call_btf") (number k) (number z), imm_length k h.0, small_length z h.1)
line_length o Exit h = omega (arith, at_least_a_slot o Exit)
line_length o (Load z d s k) h =
    omega (arith, at_least_a_slot o (Load z d s k), two (mnemonic_text (Load z d s k)) (register d) (memory s k), length-append (codes "ldx") (size_suffix z), size_length z, register_length d, memory_length s k h.2)
line_length o (LoadSigned z d s k) h =
    omega (arith, at_least_a_slot o (LoadSigned z d s k), two (mnemonic_text (LoadSigned z d s k)) (register d) (memory s k), length-append (codes "ldxs") (small_size_suffix z), small_size_length z, register_length d, memory_length s k h.2)
line_length o (StoreImm z d k n) h =
    omega (arith, at_least_a_slot o (StoreImm z d k n), two (mnemonic_text (StoreImm z d k n)) (memory d k) (number n), length-append (codes "st") (size_suffix z), size_length z, memory_length d k h.1, imm_length n h.2)
line_length o (StoreReg z d s k) h =
    omega (arith, at_least_a_slot o (StoreReg z d s k), two (mnemonic_text (StoreReg z d s k)) (memory d k) (register s), length-append (codes "stx") (size_suffix z), size_length z, memory_length d k h.2, register_length s)
line_length o (Atomic width op d s k) h =
    omega (arith, at_least_a_slot o (Atomic width op d s k), two (mnemonic_text (Atomic width op d s k)) (memory d k) (register s), length-append (atomic_mnemonic op) (width_suffix width), atomic_length op, width_length width, memory_length d k h.2, register_length s)
line_length o (Wide d what) h = omega (arith, wide_length o d what, wide_line d what h.1)
line_length o (PacketAbs z k) h =
    omega (arith, at_least_a_slot o (PacketAbs z k), one (mnemonic_text (PacketAbs z k)) (number k), length-append (codes "ldabs") (small_size_suffix z), small_size_length z, imm_length k h)
line_length o (PacketInd z s k) h =
    omega (arith, at_least_a_slot o (PacketInd z s k), two (mnemonic_text (PacketInd z s k)) (register s) (number k), length-append (codes "ldind") (small_size_suffix z), small_size_length z, register_length s, imm_length k h.1)

-- ---- listings

listing_length : (o : Order) (l : List Insn) → All IsInsn l → length (listing_of l) ≤ 4 * length (file_of o l)
listing_length o [] h = omega arith
listing_length o (i ∷ l) h =
    omega (
      arith,
      length-append (line_of i ++ codes "\n") (listing_of l),
      length-append (line_of i) (codes "\n"),
      length-append (encoding o i) (file_of o l),
      line_length o i (All-head IsInsn i l h),
      listing_length o l (All-tail IsInsn i l h),
    )

pub listing_fits : (o : Order) (bytes : List ℕ) (l : List Insn) → InsnFile o bytes l → length (listing_of l) ≤ 4 * length bytes
listing_fits o bytes l f = omega (arith, ap length f.1, listing_length o l f.0)
