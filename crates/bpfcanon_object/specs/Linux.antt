-- Releases of Linux, and the instructions that they added. tools/from_linux writes the tables.
use Rattle.std.specs.Prelude.{◌==◌, ◌||◌, ◌&&◌, ◌++◌, if◌then◌else◌, ℕ, Bool, List, codes, decimal, nat_le, nat_lt}
use Rattle.bpf_insn.specs.declared.insn.{Width.Width, Width.TheVariants.W32, Width.TheVariants.W64, AluOp.AluOp, BranchOp.BranchOp}
use Rattle.bpf_insn.specs.declared.insn.AluOp.TheVariants as alu
use Rattle.bpf_insn.specs.declared.insn.BranchOp.TheVariants as branch
use Rattle.bpf_insn.specs.declared.insn.SwapKind.{SwapKind}
use Rattle.bpf_insn.specs.declared.insn.SwapKind.TheVariants as swap
use Rattle.bpf_insn.specs.declared.insn.AtomicOp.{AtomicOp}
use Rattle.bpf_insn.specs.declared.insn.AtomicOp.TheVariants as atomic
use Rattle.bpf_insn.specs.declared.insn.WideOf.{WideOf}
use Rattle.bpf_insn.specs.declared.insn.WideOf.TheVariants.{Number, MapFd, MapValueFd, VarAddr, CodeAddr, MapIdx, MapValueIdx}
use Rattle.bpf_insn.specs.declared.insn.Insn.{Insn}
use Rattle.bpf_insn.specs.declared.insn.Insn.TheVariants.{Alu, Movsx, Neg, Swap, Jump, JumpLong, Branch, CallHelper, CallLocal, CallBtf, Exit, Load, LoadSigned, StoreImm, StoreReg, Atomic, Wide, PacketAbs, PacketInd}
use Rattle.bpfcanon_object.specs.declared.linux.{Linux.Linux, Cpu.Cpu, Addition.Addition}
use Rattle.bpfcanon_object.specs.declared.linux.Cpu.TheVariants.{V1, V2, V3, V4}
use Rattle.bpfcanon_object.specs.declared.linux.Addition.TheVariants as addition

abbrev pub linux : ℕ → ℕ → Linux
linux major minor = record { major = major; minor = minor }

-- a release is the other one, or before it
abbrev pub is_until : Linux → Linux → Bool
is_until a b = nat_lt a.major b.major || (a.major == b.major && nat_le a.minor b.minor)

abbrev pub linux_text : Linux → List ℕ
linux_text x = decimal x.major ++ (codes "." ++ decimal x.minor)

-- the number of a version of LLVM's instruction set
abbrev pub cpu_number : Cpu → ℕ
cpu_number V1 = 1
cpu_number V2 = 2
cpu_number V3 = 3
cpu_number V4 = 4

-- its name for clang's -mcpu
abbrev pub cpu_name : Cpu → List ℕ
cpu_name V1 = codes "v1"
cpu_name V2 = codes "v2"
cpu_name V3 = codes "v3"
cpu_name V4 = codes "v4"

-- the name of each addition
abbrev pub addition_name : Addition → List ℕ
addition_name addition.Base = codes "base"
addition_name addition.Packet = codes "packet"
addition_name addition.Jlt = codes "jlt"
addition_name addition.CallLocal = codes "call_local"
addition_name addition.Arsh32 = codes "arsh32"
addition_name addition.Jump32 = codes "jump32"
addition_name addition.LddwMapValue = codes "lddw_map_value"
addition_name addition.LddwVar = codes "lddw_var"
addition_name addition.Atomic = codes "atomic"
addition_name addition.CallBtf = codes "call_btf"
addition_name addition.LddwCode = codes "lddw_code"
addition_name addition.LddwIdx = codes "lddw_idx"
addition_name addition.Ldxs = codes "ldxs"
addition_name addition.Movsx = codes "movsx"
addition_name addition.Swap = codes "swap"
addition_name addition.Sdiv = codes "sdiv"
addition_name addition.Ja32 = codes "ja32"
addition_name addition.MayGoto = codes "may_goto"
addition_name addition.AddrSpaceCast = codes "addr_space_cast"
addition_name addition.LoadAcquire = codes "load_acquire"
addition_name addition.StoreRelease = codes "store_release"

-- the release that added it
abbrev pub linux_of : Addition → Linux
linux_of addition.Base = linux 3 18
linux_of addition.Packet = linux 3 19
linux_of addition.Jlt = linux 4 14
linux_of addition.CallLocal = linux 4 16
linux_of addition.Arsh32 = linux 5 0
linux_of addition.Jump32 = linux 5 1
linux_of addition.LddwMapValue = linux 5 2
linux_of addition.LddwVar = linux 5 10
linux_of addition.Atomic = linux 5 12
linux_of addition.CallBtf = linux 5 13
linux_of addition.LddwCode = linux 5 13
linux_of addition.LddwIdx = linux 5 14
linux_of addition.Ldxs = linux 6 6
linux_of addition.Movsx = linux 6 6
linux_of addition.Swap = linux 6 6
linux_of addition.Sdiv = linux 6 6
linux_of addition.Ja32 = linux 6 6
linux_of addition.MayGoto = linux 6 9
linux_of addition.AddrSpaceCast = linux 6 9
linux_of addition.LoadAcquire = linux 6 15
linux_of addition.StoreRelease = linux 6 15

-- the first version of LLVM's instruction set that has it
abbrev pub cpu_of : Addition → Cpu
cpu_of addition.Base = V1
cpu_of addition.Packet = V1
cpu_of addition.Jlt = V2
cpu_of addition.CallLocal = V1
cpu_of addition.Arsh32 = V3
cpu_of addition.Jump32 = V3
cpu_of addition.LddwMapValue = V1
cpu_of addition.LddwVar = V1
cpu_of addition.Atomic = V3
cpu_of addition.CallBtf = V1
cpu_of addition.LddwCode = V1
cpu_of addition.LddwIdx = V1
cpu_of addition.Ldxs = V4
cpu_of addition.Movsx = V4
cpu_of addition.Swap = V4
cpu_of addition.Sdiv = V4
cpu_of addition.Ja32 = V4
cpu_of addition.MayGoto = V1
cpu_of addition.AddrSpaceCast = V1
cpu_of addition.LoadAcquire = V4
cpu_of addition.StoreRelease = V4

-- of two additions that of the later release, the first one if both have the same
abbrev pub later : Addition → Addition → Addition
later a b = if is_until (linux_of b) (linux_of a) then a else b

abbrev pub alu_addition : Width → AluOp → Addition
alu_addition width alu.Sdiv = addition.Sdiv
alu_addition width alu.Smod = addition.Sdiv
alu_addition W32 alu.Arsh = addition.Arsh32
alu_addition width _ = addition.Base

abbrev pub less_addition : BranchOp → Addition
less_addition branch.Lt = addition.Jlt
less_addition branch.Le = addition.Jlt
less_addition branch.Slt = addition.Jlt
less_addition branch.Sle = addition.Jlt
less_addition _ = addition.Base

abbrev pub branch_addition : Width → BranchOp → Addition
branch_addition W32 op = addition.Jump32
branch_addition W64 op = less_addition op

abbrev pub swap_addition : SwapKind → Addition
swap_addition swap.Swap = addition.Swap
swap_addition _ = addition.Base

abbrev pub atomic_addition : AtomicOp → Addition
atomic_addition atomic.Add = addition.Base
atomic_addition _ = addition.Atomic

abbrev pub wide_addition : WideOf → Addition
wide_addition (Number n) = addition.Base
wide_addition (MapFd k) = addition.Base
wide_addition (MapValueFd k m) = addition.LddwMapValue
wide_addition (VarAddr k m) = addition.LddwVar
wide_addition (CodeAddr k) = addition.LddwCode
wide_addition (MapIdx k) = addition.LddwIdx
wide_addition (MapValueIdx k m) = addition.LddwIdx

-- the addition that an instruction of RFC 9669 is in
abbrev pub addition_of : Insn → Addition
addition_of (Alu width op dst arg) = alu_addition width op
addition_of (Movsx form dst src) = addition.Movsx
addition_of (Neg width dst) = addition.Base
addition_of (Swap kind bits dst) = swap_addition kind
addition_of (Jump off) = addition.Base
addition_of (JumpLong imm) = addition.Ja32
addition_of (Branch width op dst arg off) = branch_addition width op
addition_of (CallHelper id) = addition.Base
addition_of (CallLocal imm) = addition.CallLocal
addition_of (CallBtf id off) = addition.CallBtf
addition_of Exit = addition.Base
addition_of (Load z dst src off) = addition.Base
addition_of (LoadSigned z dst src off) = addition.Ldxs
addition_of (StoreImm z dst off imm) = addition.Base
addition_of (StoreReg z dst src off) = addition.Base
addition_of (Atomic width op dst src off) = atomic_addition op
addition_of (Wide dst what) = wide_addition what
addition_of (PacketAbs z imm) = addition.Packet
addition_of (PacketInd z src imm) = addition.Packet
