-- Words of 16 and 32 bits in either byte order (RFC 9669 section 3; btf.rst section 2).
use Rattle.std.specs.Prelude.{ℕ, ◌+◌, ◌*◌, ◌<◌, List, slice_index}
use Rattle.std.specs.Int.{w16, w32, to_le_bytes, to_be_bytes}
use Rattle.bpf_words.specs.declared.Order.{Order, TheVariants.Little, TheVariants.Big}

-- a list of bytes
abbrev pub IsBytes : List ℕ → Type 0
IsBytes bytes = (i : ℕ) → slice_index bytes i < 256

-- the 2 bytes of a number below 2^16 in a byte order
abbrev pub word16 : Order → ℕ → List ℕ
word16 Little n = to_le_bytes w16 n
word16 Big n = to_be_bytes w16 n

-- the 4 bytes of a number below 2^32 in a byte order
abbrev pub word32 : Order → ℕ → List ℕ
word32 Little n = to_le_bytes w32 n
word32 Big n = to_be_bytes w32 n

-- the number that the 2 bytes at an offset encode
abbrev pub word16_at : Order → List ℕ → ℕ → ℕ
word16_at Little b i = slice_index b i + 0x100 * slice_index b (i + 1)
word16_at Big b i = slice_index b (i + 1) + 0x100 * slice_index b i

-- the number that the 4 bytes at an offset encode
abbrev pub word32_at : Order → List ℕ → ℕ → ℕ
word32_at Little b i =
    slice_index b i + 0x100 * slice_index b (i + 1) + 0x10000 * slice_index b (i + 2) + 0x1000000 * slice_index b (i + 3)
word32_at Big b i =
    slice_index b (i + 3) + 0x100 * slice_index b (i + 2) + 0x10000 * slice_index b (i + 1) + 0x1000000 * slice_index b i
