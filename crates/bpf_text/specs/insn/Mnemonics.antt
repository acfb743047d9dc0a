-- The bytes of each mnemonic, and the mnemonic of each instruction.
use Rattle.std.specs.Prelude.{ℕ, List, ◌++◌, codes}
use Rattle.bpf_insn.specs.declared.insn.Insn.{Insn}
use Rattle.bpf_insn.specs.declared.insn.Insn.TheVariants as insn
use Rattle.bpf_insn.specs.declared.insn.WideOf.{WideOf}
use Rattle.bpf_insn.specs.declared.insn.WideOf.TheVariants as of
use Rattle.bpf_text.specs.declared.insn.mnemonic.WideKind.{WideKind}
use Rattle.bpf_text.specs.declared.insn.mnemonic.WideKind.TheVariants as kind
use Rattle.bpf_text.specs.declared.insn.mnemonic.Mnemonic.{Mnemonic}
use Rattle.bpf_text.specs.declared.insn.mnemonic.Mnemonic.TheVariants.{Alu, Movsx, Neg, Swap, Jump, JumpLong, Branch, CallHelper, CallLocal, CallBtf, Exit, Load, LoadSigned, StoreImm, StoreReg, Atomic, Wide, PacketAbs, PacketInd}
use Rattle.bpf_text.specs.insn.Table.{width_suffix, alu_mnemonic, branch_mnemonic, movsx_mnemonic, swap_mnemonic, bits_suffix, size_suffix, small_size_suffix, atomic_mnemonic}

-- the bytes of the mnemonic of a wide load
abbrev pub wide_kind_mnemonic : WideKind → List ℕ
wide_kind_mnemonic kind.Number = codes "lddw"
wide_kind_mnemonic kind.MapFd = codes "lddw_map"
wide_kind_mnemonic kind.MapValueFd = codes "lddw_map_value"
wide_kind_mnemonic kind.VarAddr = codes "lddw_var"
wide_kind_mnemonic kind.CodeAddr = codes "lddw_code"
wide_kind_mnemonic kind.MapIdx = codes "lddw_idx"
wide_kind_mnemonic kind.MapValueIdx = codes "lddw_idx_value"

-- the bytes of a mnemonic
abbrev pub text_of_mnemonic : Mnemonic → List ℕ
text_of_mnemonic (Alu width op) = alu_mnemonic op ++ width_suffix width
text_of_mnemonic (Movsx form) = movsx_mnemonic form
text_of_mnemonic (Neg width) = codes "neg" ++ width_suffix width
text_of_mnemonic (Swap k bits) = swap_mnemonic k ++ bits_suffix bits
text_of_mnemonic Jump = codes "ja"
text_of_mnemonic JumpLong = codes "ja32"
text_of_mnemonic (Branch width op) = branch_mnemonic op ++ width_suffix width
text_of_mnemonic CallHelper = codes "call"
text_of_mnemonic CallLocal = codes "call_local"
text_of_mnemonic CallBtf = codes "call_btf"
text_of_mnemonic Exit = codes "exit"
text_of_mnemonic (Load z) = codes "ldx" ++ size_suffix z
text_of_mnemonic (LoadSigned z) = codes "ldxs" ++ small_size_suffix z
text_of_mnemonic (StoreImm z) = codes "st" ++ size_suffix z
text_of_mnemonic (StoreReg z) = codes "stx" ++ size_suffix z
text_of_mnemonic (Atomic width op) = atomic_mnemonic op ++ width_suffix width
text_of_mnemonic (Wide k) = wide_kind_mnemonic k
text_of_mnemonic (PacketAbs z) = codes "ldabs" ++ small_size_suffix z
text_of_mnemonic (PacketInd z) = codes "ldind" ++ small_size_suffix z

-- what the wide load loads
abbrev pub kind_of_wide : WideOf → WideKind
kind_of_wide (of.Number n) = kind.Number
kind_of_wide (of.MapFd k) = kind.MapFd
kind_of_wide (of.MapValueFd k m) = kind.MapValueFd
kind_of_wide (of.VarAddr k m) = kind.VarAddr
kind_of_wide (of.CodeAddr k) = kind.CodeAddr
kind_of_wide (of.MapIdx k) = kind.MapIdx
kind_of_wide (of.MapValueIdx k m) = kind.MapValueIdx

-- the mnemonic of an instruction
abbrev pub mnemonic_of : Insn → Mnemonic
mnemonic_of (insn.Alu width op d arg) = Alu width op
mnemonic_of (insn.Movsx form d s) = Movsx form
mnemonic_of (insn.Neg width d) = Neg width
mnemonic_of (insn.Swap k bits d) = Swap k bits
mnemonic_of (insn.Jump o) = Jump
mnemonic_of (insn.JumpLong k) = JumpLong
mnemonic_of (insn.Branch width op d arg o) = Branch width op
mnemonic_of (insn.CallHelper k) = CallHelper
mnemonic_of (insn.CallLocal k) = CallLocal
mnemonic_of (insn.CallBtf k o) = CallBtf
mnemonic_of insn.Exit = Exit
mnemonic_of (insn.Load z d s o) = Load z
mnemonic_of (insn.LoadSigned z d s o) = LoadSigned z
mnemonic_of (insn.StoreImm z d o k) = StoreImm z
mnemonic_of (insn.StoreReg z d s o) = StoreReg z
mnemonic_of (insn.Atomic width op d s o) = Atomic width op
mnemonic_of (insn.Wide d what) = Wide (kind_of_wide what)
mnemonic_of (insn.PacketAbs z k) = PacketAbs z
mnemonic_of (insn.PacketInd z s k) = PacketInd z
