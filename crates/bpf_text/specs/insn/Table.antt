-- The notation of listings: the mnemonic of each instruction, and its operands.
use Rattle.std.specs.Prelude.{ℕ, pos, List, [], ◌∷◌, ◌++◌, codes}
use Rattle.bpf_insn.specs.declared.insn.{Width.Width, Width.TheVariants.W32, Width.TheVariants.W64, Size.Size}
use Rattle.bpf_insn.specs.declared.insn.Size.TheVariants as size
use Rattle.bpf_insn.specs.declared.insn.SmallSize.{SmallSize}
use Rattle.bpf_insn.specs.declared.insn.SmallSize.TheVariants as small
use Rattle.bpf_insn.specs.declared.insn.{Operand.Operand, Operand.TheVariants.Imm, Operand.TheVariants.Reg, AluOp.AluOp}
use Rattle.bpf_insn.specs.declared.insn.AluOp.TheVariants as alu
use Rattle.bpf_insn.specs.declared.insn.BranchOp.{BranchOp}
use Rattle.bpf_insn.specs.declared.insn.BranchOp.TheVariants as branch
use Rattle.bpf_insn.specs.declared.insn.MovsxForm.{MovsxForm}
use Rattle.bpf_insn.specs.declared.insn.MovsxForm.TheVariants as movsx
use Rattle.bpf_insn.specs.declared.insn.SwapKind.{SwapKind}
use Rattle.bpf_insn.specs.declared.insn.SwapKind.TheVariants as swap
use Rattle.bpf_insn.specs.declared.insn.SwapBits.{SwapBits, TheVariants.B16, TheVariants.B32, TheVariants.B64}
use Rattle.bpf_insn.specs.declared.insn.AtomicOp.{AtomicOp}
use Rattle.bpf_insn.specs.declared.insn.AtomicOp.TheVariants as atomic
use Rattle.bpf_insn.specs.declared.insn.{WideOf.WideOf, Insn.Insn}
use Rattle.bpf_insn.specs.declared.insn.WideOf.TheVariants.{Number, MapFd, MapValueFd, VarAddr, CodeAddr, MapIdx, MapValueIdx}
use Rattle.bpf_insn.specs.declared.insn.Insn.TheVariants.{Alu, Movsx, Neg, Swap, Jump, JumpLong, Branch, CallHelper, CallLocal, CallBtf, Exit, Load, LoadSigned, StoreImm, StoreReg, Atomic, Wide, PacketAbs, PacketInd}
use Rattle.bpf_text.specs.insn.Operands.{LineOperand, register, number, signed, memory}

-- ---- mnemonics

-- the suffix of the 32-bit forms
abbrev pub width_suffix : Width → List ℕ
width_suffix W32 = codes "32"
width_suffix W64 = []

-- arithmetic
abbrev pub alu_mnemonic : AluOp → List ℕ
alu_mnemonic alu.Add = codes "add"
alu_mnemonic alu.Sub = codes "sub"
alu_mnemonic alu.Mul = codes "mul"
alu_mnemonic alu.Div = codes "div"
alu_mnemonic alu.Sdiv = codes "sdiv"
alu_mnemonic alu.Or = codes "or"
alu_mnemonic alu.And = codes "and"
alu_mnemonic alu.Lsh = codes "lsh"
alu_mnemonic alu.Rsh = codes "rsh"
alu_mnemonic alu.Mod = codes "mod"
alu_mnemonic alu.Smod = codes "smod"
alu_mnemonic alu.Xor = codes "xor"
alu_mnemonic alu.Mov = codes "mov"
alu_mnemonic alu.Arsh = codes "arsh"

-- conditional jumps
abbrev pub branch_mnemonic : BranchOp → List ℕ
branch_mnemonic branch.Eq = codes "jeq"
branch_mnemonic branch.Gt = codes "jgt"
branch_mnemonic branch.Ge = codes "jge"
branch_mnemonic branch.Set = codes "jset"
branch_mnemonic branch.Ne = codes "jne"
branch_mnemonic branch.Sgt = codes "jsgt"
branch_mnemonic branch.Sge = codes "jsge"
branch_mnemonic branch.Lt = codes "jlt"
branch_mnemonic branch.Le = codes "jle"
branch_mnemonic branch.Slt = codes "jslt"
branch_mnemonic branch.Sle = codes "jsle"

-- sign-extending moves: the bits of the source, then `_32` if the destination has 32 bits
abbrev pub movsx_mnemonic : MovsxForm → List ℕ
movsx_mnemonic movsx.W32From8 = codes "movsx8_32"
movsx_mnemonic movsx.W32From16 = codes "movsx16_32"
movsx_mnemonic movsx.W64From8 = codes "movsx8"
movsx_mnemonic movsx.W64From16 = codes "movsx16"
movsx_mnemonic movsx.W64From32 = codes "movsx32"

-- byte swaps
abbrev pub swap_mnemonic : SwapKind → List ℕ
swap_mnemonic swap.Le = codes "le"
swap_mnemonic swap.Be = codes "be"
swap_mnemonic swap.Swap = codes "swap"

-- the number of bits that are swapped
abbrev pub bits_suffix : SwapBits → List ℕ
bits_suffix B16 = codes "16"
bits_suffix B32 = codes "32"
bits_suffix B64 = codes "64"

-- 1, 2, 4 or 8 bytes
abbrev pub size_suffix : Size → List ℕ
size_suffix size.B = codes "b"
size_suffix size.H = codes "h"
size_suffix size.W = codes "w"
size_suffix size.D = codes "dw"

-- 1, 2 or 4 bytes
abbrev pub small_size_suffix : SmallSize → List ℕ
small_size_suffix small.B = codes "b"
small_size_suffix small.H = codes "h"
small_size_suffix small.W = codes "w"

-- atomic operations
abbrev pub atomic_mnemonic : AtomicOp → List ℕ
atomic_mnemonic atomic.Add = codes "atomic_add"
atomic_mnemonic atomic.Or = codes "atomic_or"
atomic_mnemonic atomic.And = codes "atomic_and"
atomic_mnemonic atomic.Xor = codes "atomic_xor"
atomic_mnemonic atomic.FetchAdd = codes "fetch_add"
atomic_mnemonic atomic.FetchOr = codes "fetch_or"
atomic_mnemonic atomic.FetchAnd = codes "fetch_and"
atomic_mnemonic atomic.FetchXor = codes "fetch_xor"
atomic_mnemonic atomic.Xchg = codes "xchg"
atomic_mnemonic atomic.Cmpxchg = codes "cmpxchg"

-- what a wide load loads
abbrev pub wide_mnemonic : WideOf → List ℕ
wide_mnemonic (Number n) = codes "lddw"
wide_mnemonic (MapFd k) = codes "lddw_map"
wide_mnemonic (MapValueFd k m) = codes "lddw_map_value"
wide_mnemonic (VarAddr k m) = codes "lddw_var"
wide_mnemonic (CodeAddr k) = codes "lddw_code"
wide_mnemonic (MapIdx k) = codes "lddw_idx"
wide_mnemonic (MapValueIdx k m) = codes "lddw_idx_value"

-- the mnemonic of an instruction
abbrev pub mnemonic_text : Insn → List ℕ
mnemonic_text (Alu width op d arg) = alu_mnemonic op ++ width_suffix width
mnemonic_text (Movsx form d s) = movsx_mnemonic form
mnemonic_text (Neg width d) = codes "neg" ++ width_suffix width
mnemonic_text (Swap kind bits d) = swap_mnemonic kind ++ bits_suffix bits
mnemonic_text (Jump o) = codes "ja"
mnemonic_text (JumpLong k) = codes "ja32"
mnemonic_text (Branch width op d arg o) = branch_mnemonic op ++ width_suffix width
mnemonic_text (CallHelper k) = codes "call"
mnemonic_text (CallLocal k) = codes "call_local"
mnemonic_text (CallBtf k o) = codes "call_btf"
mnemonic_text Exit = codes "exit"
mnemonic_text (Load z d s o) = codes "ldx" ++ size_suffix z
mnemonic_text (LoadSigned z d s o) = codes "ldxs" ++ small_size_suffix z
mnemonic_text (StoreImm z d o k) = codes "st" ++ size_suffix z
mnemonic_text (StoreReg z d s o) = codes "stx" ++ size_suffix z
mnemonic_text (Atomic width op d s o) = atomic_mnemonic op ++ width_suffix width
mnemonic_text (Wide d what) = wide_mnemonic what
mnemonic_text (PacketAbs z k) = codes "ldabs" ++ small_size_suffix z
mnemonic_text (PacketInd z s k) = codes "ldind" ++ small_size_suffix z

-- ---- operands

-- a register or a number
abbrev pub source_operand : Operand → LineOperand
source_operand (Imm k) = number k
source_operand (Reg r) = register r

-- imm, then next_imm if the kind uses it; a number is both, as one 64-bit value
abbrev pub wide_operands : WideOf → List LineOperand
wide_operands (Number n) = number (pos n) ∷ []
wide_operands (MapFd k) = number k ∷ []
wide_operands (MapValueFd k m) = number k ∷ number m ∷ []
wide_operands (VarAddr k m) = number k ∷ number m ∷ []
wide_operands (CodeAddr k) = number k ∷ []
wide_operands (MapIdx k) = number k ∷ []
wide_operands (MapValueIdx k m) = number k ∷ number m ∷ []

-- the operands of an instruction
abbrev pub operands_of : Insn → List LineOperand
operands_of (Alu width op d arg) = register d ∷ source_operand arg ∷ []
operands_of (Movsx form d s) = register d ∷ register s ∷ []
operands_of (Neg width d) = register d ∷ []
operands_of (Swap kind bits d) = register d ∷ []
operands_of (Jump o) = signed o ∷ []
operands_of (JumpLong k) = signed k ∷ []
operands_of (Branch width op d arg o) = register d ∷ source_operand arg ∷ signed o ∷ []
operands_of (CallHelper k) = number k ∷ []
operands_of (CallLocal k) = signed k ∷ []
operands_of (CallBtf k o) = number k ∷ number o ∷ []
operands_of Exit = []
operands_of (Load z d s o) = register d ∷ memory s o ∷ []
operands_of (LoadSigned z d s o) = register d ∷ memory s o ∷ []
operands_of (StoreImm z d o k) = memory d o ∷ number k ∷ []
operands_of (StoreReg z d s o) = memory d o ∷ register s ∷ []
operands_of (Atomic width op d s o) = memory d o ∷ register s ∷ []
operands_of (Wide d what) = register d ∷ wide_operands what
operands_of (PacketAbs z k) = number k ∷ []
operands_of (PacketInd z s k) = register s ∷ number k ∷ []
