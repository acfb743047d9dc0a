-- The 8 bytes of a basic instruction (RFC 9669 section 3).
use Rattle.std.specs.Prelude.{◌≡◌, ℕ, ◌+◌, ◌*◌, ◌/◌, ◌%◌, ◌<◌, ℤ, List, ◌∷◌, ◌++◌, length, All, FitsSigned}
use Rattle.std.specs.{List.flat_map, Int.w16, Int.w32, Int.cast_unsigned}
use Rattle.bpf_words.specs.{declared.Order.Order, declared.Order.TheVariants.Little, declared.Order.TheVariants.Big, Words.word16, Words.word32}

-- the five fields of a slot: opcode, dst, src, offset, imm
pub record Fields : Type 0 where
  pub opcode : ℕ
  pub dst : ℕ
  pub src : ℕ
  pub off : ℤ
  pub imm : ℤ

abbrev pub fields : ℕ → ℕ → ℕ → ℤ → ℤ → Fields
fields opcode dst src off imm = record { opcode = opcode; dst = dst; src = src; off = off; imm = imm }

-- each of the five fields of a slot is in its range (RFC 9669 section 3)
pub record AreFields (f : Fields) : Type 0 where
  pub opcode : f.opcode < 256
  pub dst : f.dst < 16
  pub src : f.src < 16
  pub off : FitsSigned w16 f.off
  pub imm : FitsSigned w32 f.imm

-- the byte of the two registers: which half is the destination depends on the order
abbrev pub register_byte : Order → ℕ → ℕ → ℕ
register_byte Little dst src = 16 * src + dst
register_byte Big dst src = 16 * dst + src

-- the two halves of the register byte: dst and src (RFC 9669 section 3)
abbrev pub dst_half : Order → ℕ → ℕ
dst_half Little b = b % 16
dst_half Big b = b / 16

abbrev pub src_half : Order → ℕ → ℕ
src_half Little b = b / 16
src_half Big b = b % 16

-- the 8 bytes of five fields in a byte order; a signed field is its two's complement pattern
abbrev pub encoded : Order → Fields → List ℕ
encoded order f =
    (f.opcode ∷ register_byte order f.dst f.src ∷ word16 order (cast_unsigned w16 f.off)) ++ word32 order (cast_unsigned w32 f.imm)

-- the bytes are these slots in a byte order, and a rest that is shorter than a slot
abbrev pub AreSlots : Order → List ℕ → List Fields → List ℕ → Type 0
AreSlots order bytes slots rest = All AreFields slots × (length rest < 8) × (bytes ≡ flat_map (encoded order) slots ++ rest)
