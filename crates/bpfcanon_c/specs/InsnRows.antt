-- Instructions as records of a fixed size: docs/FORMATS.md lists the instructions and their fields.
use Rattle.std.specs.Prelude.{◌+◌, ◌*◌, ℕ, ℤ, pos, List, [], ◌∷◌, length}
use Rattle.bpf_words.specs.declared.Order.{Order}
use Rattle.bpf_insn.specs.declared.insn.{Width.Width, Width.TheVariants.W32, Width.TheVariants.W64, Size.Size}
use Rattle.bpf_insn.specs.declared.insn.Size.TheVariants as size
use Rattle.bpf_insn.specs.declared.insn.SmallSize.{SmallSize}
use Rattle.bpf_insn.specs.declared.insn.SmallSize.TheVariants as small
use Rattle.bpf_insn.specs.declared.insn.{AluOp.AluOp, MovsxForm.MovsxForm}
use Rattle.bpf_insn.specs.declared.group.Group.{Group, TheVariants.Base32, TheVariants.Base64, TheVariants.Atomic32, TheVariants.Atomic64, TheVariants.Divmul32, TheVariants.Divmul64, TheVariants.Packet}
use Rattle.bpf_insn.specs.declared.insn.Insn.{Insn}
use Rattle.bpf_insn.specs.declared.insn.Insn.TheVariants.{Alu, Movsx, Neg, Swap, Jump, JumpLong, Branch, CallHelper, CallLocal, CallBtf, Exit, Load, LoadSigned, StoreImm, StoreReg, Atomic, Wide, PacketAbs, PacketInd}
use Rattle.bpf_insn.specs.Table.{alu_code, alu_offset, branch_code, swap_opcode, swap_bits, atomic_number, movsx_bits, movsx_width, register_number, source_bit, source, immediate, wide_source, wide_imm, wide_next_imm}
use Rattle.bpf_insn.specs.{Encoding.encoding, Groups.group_of}
use Rattle.bpfcanon_c.specs.declared.insn_rows.InsnRow.{InsnRow}

-- ---- numbers of bits

abbrev pub width_bits : Width → ℕ
width_bits W32 = 32
width_bits W64 = 64

abbrev pub size_bits : Size → ℕ
size_bits size.B = 8
size_bits size.H = 16
size_bits size.W = 32
size_bits size.D = 64

abbrev pub small_size_bits : SmallSize → ℕ
small_size_bits small.B = 8
small_size_bits small.H = 16
small_size_bits small.W = 32

abbrev pub movsx_to : MovsxForm → ℕ
movsx_to form = width_bits (movsx_width form)

-- ---- the other numbers in a record

-- the code of the standard, plus 16 for signed division and remainder, which share it
abbrev pub alu_number : AluOp → ℕ
alu_number op = alu_code op + 16 * alu_offset op

-- the bits of enum bpfcanon_group
abbrev pub group_bit : Group → ℕ
group_bit Base32 = 1
group_bit Base64 = 2
group_bit Atomic32 = 4
group_bit Atomic64 = 8
group_bit Divmul32 = 16
group_bit Divmul64 = 32
group_bit Packet = 64

-- ---- records

-- a form, a length of 8 bytes, and 0 in each other field
abbrev pub bare_row : ℕ → InsnRow
bare_row form = record { form = form; op = 0; bits = 0; from = 0; dst = 0; src = 0; by_reg = 0; len = 8; off = pos 0; group = 0; imm = pos 0; next_imm = pos 0; zero = 0; pos = 0 }

-- form, bits, dst, src, off
abbrev pub two_registers : ℕ → ℕ → ℕ → ℕ → ℤ → InsnRow
two_registers form bits dst src off = record (bare_row form) { bits = bits; dst = dst; src = src; off = off }

-- the record of an instruction, without its group and its offset in the file: what is not listed is 0
abbrev pub form_row : Insn → InsnRow
form_row (Alu width op d arg) =
    record (bare_row 1) { op = alu_number op; bits = width_bits width; dst = register_number d; src = source arg; by_reg = source_bit arg; imm = immediate arg }
form_row (Movsx form d s) = record (two_registers 2 (movsx_to form) (register_number d) (register_number s) (pos 0)) { from = movsx_bits form }
form_row (Neg width d) = record (bare_row 3) { bits = width_bits width; dst = register_number d }
form_row (Swap kind bits d) = record (bare_row 4) { op = swap_opcode kind; bits = swap_bits bits; dst = register_number d }
form_row (Jump o) = record (bare_row 5) { off = o }
form_row (JumpLong k) = record (bare_row 6) { imm = k }
form_row (Branch width op d arg o) =
    record (bare_row 7) { op = branch_code op; bits = width_bits width; dst = register_number d; src = source arg; by_reg = source_bit arg; off = o; imm = immediate arg }
form_row (CallHelper k) = record (bare_row 8) { imm = k }
form_row (CallLocal k) = record (bare_row 9) { imm = k }
form_row (CallBtf k o) = record (bare_row 10) { off = o; imm = k }
form_row Exit = bare_row 11
form_row (Load z d s o) = two_registers 12 (size_bits z) (register_number d) (register_number s) o
form_row (LoadSigned z d s o) = two_registers 13 (small_size_bits z) (register_number d) (register_number s) o
form_row (StoreImm z d o k) = record (bare_row 14) { bits = size_bits z; dst = register_number d; off = o; imm = k }
form_row (StoreReg z d s o) = two_registers 15 (size_bits z) (register_number d) (register_number s) o
form_row (Atomic width op d s o) = record (two_registers 16 (width_bits width) (register_number d) (register_number s) o) { op = atomic_number op }
form_row (Wide d what) =
    record (bare_row 17) { op = wide_source what; bits = 64; dst = register_number d; len = 16; imm = wide_imm what; next_imm = wide_next_imm what }
form_row (PacketAbs z k) = record (bare_row 18) { bits = small_size_bits z; imm = k }
form_row (PacketInd z s k) = record (bare_row 19) { bits = small_size_bits z; src = register_number s; imm = k }

-- the record of an instruction at an offset of its file
abbrev pub row_at : ℕ → Insn → InsnRow
row_at at i = record (form_row i) { group = group_bit (group_of i); pos = at }

-- the records of the instructions of a file from an offset on, each with the offset of its encoding
abbrev pub rows_from : Order → ℕ → List Insn → List InsnRow
rows_from o at [] = []
rows_from o at (i ∷ l) = row_at at i ∷ rows_from o (at + length (encoding o i)) l
