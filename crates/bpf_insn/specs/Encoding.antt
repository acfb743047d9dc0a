-- The bytes of instructions and of files (RFC 9669 section 3).
use Rattle.std.specs.Prelude.{◌≡◌, ℕ, ℤ, List, [], ◌++◌, Option, Some, None, All}
use Rattle.std.specs.{List.flat_map, Int.w32, Int.cast_unsigned}
use Rattle.bpf_words.specs.{declared.Order.Order, Words.word32, Slots.encoded}
use Rattle.bpf_insn.specs.{declared.insn.Insn.Insn, Table.fields_of, Table.next_imm_of, Table.IsInsn}

-- the second slot of a wide load: 4 zero bytes and next_imm (RFC 9669 section 3)
abbrev pub second_slot : Order → Option ℤ → List ℕ
second_slot order None = []
second_slot order (Some k) = word32 order 0 ++ word32 order (cast_unsigned w32 k)

-- the 8 or 16 bytes of an instruction in a byte order (RFC 9669 section 3)
unfoldable pub encoding : Order → Insn → List ℕ
encoding order i = encoded order (fields_of i) ++ second_slot order (next_imm_of i)

-- the concatenated encodings of a list of instructions in a byte order
abbrev pub file_of : Order → List Insn → List ℕ
file_of order insns = flat_map (encoding order) insns

-- the bytes are an instruction file, and these are its instructions
abbrev pub InsnFile : Order → List ℕ → List Insn → Type 0
InsnFile order bytes insns = All IsInsn insns × (bytes ≡ file_of order insns)
