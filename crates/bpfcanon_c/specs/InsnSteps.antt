-- What is known of instructions and their records while they are decoded or encoded.
use Rattle.std.specs.Prelude.{◌≡◌, ℕ, List, All, length, take}
use Rattle.std.specs.List.{AllZip}
use Rattle.bpf_words.specs.declared.Order.{Order, TheVariants.Little}
use Rattle.bpf_insn.specs.{declared.insn.Insn.Insn, Table.IsInsn, Encoding.InsnFile, Encoding.file_of, Encoding.encoding, Faults.BeginsWith}
use Rattle.bpfcanon_c.specs.declared.insn_rows.InsnRow.{InsnRow}
use Rattle.bpfcanon_c.specs.{InsnRows.row_at, InsnRows.rows_from, InsnEncoding.SaysInsn}

-- ---- decoding

-- the file has this number of instructions
pub record HasInsns (o : Order) (bytes : List ℕ) (count : ℕ) : Type 0 where
  pub insns : List Insn
  pub file : InsnFile o bytes insns
  pub counted : count ≡ length insns

-- the array is as long as the list of the instructions, and its first records are those of the instructions before an offset
pub record DecodesTo (o : Order) (bytes : List ℕ) (k at : ℕ) (out : List InsnRow) : Type 0 where
  pub insns : List Insn
  pub file : InsnFile o bytes insns
  pub counted : length out ≡ length insns
  pub at_offset : at ≡ length (file_of o (take k insns))
  pub rows : take k out ≡ rows_from o 0 (take k insns)

-- this is the record, at an offset of its file, of the instruction that the bytes begin with, and the length of its encoding
abbrev pub HasPut : Order → List ℕ → ℕ → InsnRow → ℕ → Type 0
HasPut o bytes at row len = (i : Insn) → BeginsWith o i bytes → (row ≡ row_at at i) × (len ≡ length (encoding o i))

-- ---- encoding

-- each record says an instruction, and together these have this length in bytes, which is the same in both byte orders
pub record SayInsns (rows : List InsnRow) (total : ℕ) : Type 0 where
  pub insns : List Insn
  pub says : AllZip SaysInsn rows insns
  pub each : All IsInsn insns
  pub long : total ≡ length (file_of Little insns)

-- the buffer is as long as the instructions that the records say, and the first of them are written: the bytes before an offset
pub record EncodesTo (to : Order) (rows : List InsnRow) (k at : ℕ) (out : List ℕ) : Type 0 where
  pub insns : List Insn
  pub says : AllZip SaysInsn rows insns
  pub each : All IsInsn insns
  pub long : length out ≡ length (file_of to insns)
  pub at_offset : at ≡ length (file_of to (take k insns))
  pub bytes : take at out ≡ file_of to (take k insns)
