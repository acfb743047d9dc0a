-- The records that are made from slots and from what their opcodes determine.
use Rattle.std.specs.Prelude.{◌≡◌, ℕ, ℤ, pos, None}
use Rattle.std.specs.Bool.{OnFalse}
use Rattle.bpf_words.specs.Slots.{Fields}
use Rattle.bpf_insn.specs.{declared.insn.Insn.Insn, Table.fields_of, Table.next_imm_of}
use Rattle.bpfcanon_c.specs.declared.{insn_rows.InsnRow.InsnRow, opcode_rows.OpcodeRow.OpcodeRow}
use Rattle.bpfcanon_c.specs.InsnRows.{bare_row, row_at}

-- the fields that have to be 0 are 0
pub record Allows (r : OpcodeRow) (f : Fields) : Type 0 where
  pub src : OnFalse r.any_src (f.src ≡ 0)
  pub off : OnFalse r.any_off (f.off ≡ pos 0)

-- the registers, the offset and the immediate of the slot, and the fields that its opcode determines
abbrev pub slot_row : ℕ → Fields → OpcodeRow → InsnRow
slot_row at f r =
    record (bare_row r.form) { op = r.op; bits = r.bits; dst = f.dst; src = f.src; by_reg = r.by_reg; off = f.off; group = r.group; imm = f.imm; pos = at }

-- an instruction of one slot whose record this is
pub record HasRow (r : OpcodeRow) (i : Insn) : Type 0 where
  pub row : (at : ℕ) → slot_row at (fields_of i) r ≡ row_at at i
  pub alone : next_imm_of i ≡ None

-- each instruction with this opcode whose fields are allowed is such an instruction
abbrev pub MakesRows : ℕ → OpcodeRow → Type 0
MakesRows opcode r = (i : Insn) → (fields_of i).opcode ≡ opcode → Allows r (fields_of i) → HasRow r i

-- the record of a wide load, from its first slot and the immediate of the second one
abbrev pub wide_row : ℕ → Fields → ℤ → InsnRow
wide_row at f next_imm =
    record (bare_row 17) { op = f.src; bits = 64; dst = f.dst; len = 16; group = 2; imm = f.imm; next_imm = next_imm; pos = at }
