-- The encoding of a record: that of the instruction which it says, and some bytes if it says none.
use Rattle.std.specs.Prelude.{◌==◌, ◌/◌, ◌%◌, ◌++◌, ℕ, ℤ, pos, Option, Some, None, List, if◌then◌else◌}
use Rattle.bpf_words.specs.declared.Order.{Order}
use Rattle.bpf_words.specs.Slots.{Fields, fields, encoded}
use Rattle.bpf_insn.specs.{Table.code_opcode, Table.mode_opcode, Encoding.second_slot}
use Rattle.bpfcanon_c.specs.declared.insn_rows.InsnRow.{InsnRow}

abbrev pub size_code : ℕ → ℕ
size_code bits = if bits == 8 then 2 else if bits == 16 then 1 else if bits == 32 then 0 else 3

abbrev pub raw_opcode : ℕ → ℕ → ℕ → ℕ → ℕ
raw_opcode form op bits by_reg =
    if form == 1 then code_opcode (op % 16) (by_reg % 2) (if bits == 64 then 7 else 4)
    else if form == 2 then code_opcode 0xb 1 (if bits == 64 then 7 else 4)
    else if form == 3 then code_opcode 0x8 0 (if bits == 64 then 7 else 4)
    else if form == 4 then op
    else if form == 5 then 0x05
    else if form == 6 then 0x06
    else if form == 7 then code_opcode (op % 16) (by_reg % 2) (if bits == 64 then 5 else 6)
    else if form == 8 then 0x85
    else if form == 9 then 0x85
    else if form == 10 then 0x85
    else if form == 11 then 0x95
    else if form == 12 then mode_opcode 3 (size_code bits) 1
    else if form == 13 then mode_opcode 4 (size_code bits) 1
    else if form == 14 then mode_opcode 3 (size_code bits) 2
    else if form == 15 then mode_opcode 3 (size_code bits) 3
    else if form == 16 then mode_opcode 6 (size_code bits) 3
    else if form == 17 then 0x18
    else if form == 18 then mode_opcode 1 (size_code bits) 0
    else mode_opcode 2 (size_code bits) 0

abbrev pub raw_src : ℕ → ℕ → ℕ → ℕ
raw_src form op src = if form == 9 then 1 else if form == 10 then 2 else if form == 17 then op else src

abbrev pub raw_off : ℕ → ℕ → ℕ → ℤ → ℤ
raw_off form op from off = if form == 1 then pos (op / 16) else if form == 2 then pos from else off

abbrev pub raw_imm : ℕ → ℕ → ℕ → ℤ → ℤ
raw_imm form op bits imm = if form == 4 then pos bits else if form == 16 then pos op else imm

abbrev pub raw_fields : InsnRow → Fields
raw_fields r =
    fields (raw_opcode r.form r.op r.bits r.by_reg) (r.dst % 16) (raw_src r.form r.op r.src % 16) (raw_off r.form r.op r.from r.off) (raw_imm r.form r.op r.bits r.imm)

abbrev pub raw_next : InsnRow → Option ℤ
raw_next r = if r.form == 17 then Some r.next_imm else None

abbrev pub raw_bytes : Order → InsnRow → List ℕ
raw_bytes o r = encoded o (raw_fields r) ++ second_slot o (raw_next r)
