-- The header of a BTF section and its two parts (btf.rst section 2).
use Rattle.std.specs.Prelude.{◌≡◌, ◌≢◌, ◌⊎◌, ℕ, ◌+◌, ◌-◌, ◌<◌, ◌≤◌, min, List, [], ◌∷◌, ◌++◌, length, take, drop, replicate, slice_index}
use Rattle.bpf_words.specs.{declared.Order.Order, Words.word16, Words.word32, Words.word16_at, Words.word32_at}
use Rattle.btf_raw.specs.declared.cause.BtfCause.{BtfCause}
use Rattle.btf_raw.specs.declared.cause.BtfCause.TheVariants.{ShortHeader, Magic, Version, Flags, HeaderLength, HeaderTail, TypeLength, StringLength, Sections, FileLength, FirstString, LastString}

-- the largest length of a header in bytes
abbrev pub HEADER_LIMIT : ℕ
HEADER_LIMIT = 4096

-- the largest length of a type section in bytes
abbrev pub TYPES_LIMIT : ℕ
TYPES_LIMIT = 33554432

-- the largest length of a string section in bytes
abbrev pub STRINGS_LIMIT : ℕ
STRINGS_LIMIT = 16777216

-- the header's bytes: magic, version 1, flags 0, hdr_len, type_off, type_len, str_off, str_len, and zeros up to hdr_len
abbrev pub header : Order → ℕ → ℕ → ℕ → ℕ → ℕ → List ℕ
header o header_len type_off type_len str_off str_len =
    word16 o 0xeb9f ++ (1 ∷ 0 ∷ []) ++ word32 o header_len ++ word32 o type_off ++ word32 o type_len ++ word32 o str_off ++ word32 o str_len
    ++ replicate (header_len - 24) 0

-- the file is a header in byte order o, followed by the types and the strings, in either order, as the header says
pub record Cut (b : List ℕ) (o : Order) (types strings : List ℕ) : Type 0 where
  pub header_len : ℕ
  pub at_least : 24 ≤ header_len
  pub at_most : header_len ≤ HEADER_LIMIT
  pub types_fit : length types ≤ TYPES_LIMIT
  pub some_strings : 0 < length strings
  pub strings_fit : length strings ≤ STRINGS_LIMIT
  pub parts :
      (b ≡ header o header_len 0 (length types) (length types) (length strings) ++ types ++ strings)
      ⊎ (b ≡ header o header_len (length strings) (length types) 0 (length strings) ++ strings ++ types)

-- the file begins with the magic number in this byte order
abbrev pub HasOrder : List ℕ → Order → Type 0
HasOrder b o = (2 ≤ length b) × (word16_at o b 0 ≡ 0xeb9f)

-- the header has a byte order, and its 32-bit word at this offset is w
abbrev pub HasWord : List ℕ → Order → ℕ → ℕ → Type 0
HasWord b o offset w = HasOrder b o × (offset + 4 ≤ length b) × (w ≡ word32_at o b offset)

-- what each cause from ShortHeader to FileLength says of a file, and at which offset (btf.rst section 2)
abbrev pub HeaderFault : List ℕ → ℕ → BtfCause → Type 0
HeaderFault b p ShortHeader = (length b < 24) × (p ≡ length b)
HeaderFault b p Magic = (2 ≤ length b) × ((o : Order) → ¬ HasOrder b o) × (p ≡ 0)
HeaderFault b p Version = (2 < length b) × (slice_index b 2 ≢ 1) × (p ≡ 2)
HeaderFault b p Flags = (3 < length b) × (slice_index b 3 ≢ 0) × (p ≡ 3)
HeaderFault b p HeaderLength = (o : Order) × (n : ℕ) × HasWord b o 4 n × ((n < 24) ⊎ (HEADER_LIMIT < n) ⊎ (length b < n)) × (p ≡ 4)
HeaderFault b p HeaderTail =
    (o : Order) × (n : ℕ) × HasWord b o 4 n × (24 ≤ p) × (p < n) × (p < length b) × (slice_index b p ≢ 0)
    × ((q : ℕ) → 24 ≤ q → q < p → slice_index b q ≡ 0)
HeaderFault b p TypeLength = (o : Order) × (n : ℕ) × HasWord b o 12 n × (TYPES_LIMIT < n) × (p ≡ 12)
HeaderFault b p StringLength = (o : Order) × (n : ℕ) × HasWord b o 20 n × ((n ≡ 0) ⊎ (STRINGS_LIMIT < n)) × (p ≡ 20)
HeaderFault b p Sections =
    (o : Order) × (type_off : ℕ) × (type_len : ℕ) × (str_off : ℕ) × (str_len : ℕ)
    × HasWord b o 8 type_off × HasWord b o 12 type_len × HasWord b o 16 str_off × HasWord b o 20 str_len
    × (¬ ((type_off ≡ 0) × (str_off ≡ type_len))) × (¬ ((str_off ≡ 0) × (type_off ≡ str_len))) × (p ≡ 8)
HeaderFault b p FileLength =
    (o : Order) × (header_len : ℕ) × (type_len : ℕ) × (str_len : ℕ)
    × HasWord b o 4 header_len × HasWord b o 12 type_len × HasWord b o 20 str_len
    × (header_len + type_len + str_len ≢ length b) × (p ≡ min (header_len + type_len + str_len) (length b))
HeaderFault b p _ = ⊥

-- what FirstString and LastString say of a string section, and at which offset
abbrev pub StringFault : List ℕ → ℕ → BtfCause → Type 0
StringFault strings p FirstString = (p ≡ 0) × (0 < length strings) × (slice_index strings p ≢ 0)
StringFault strings p LastString = (p + 1 ≡ length strings) × (slice_index strings p ≢ 0)
StringFault strings p _ = ⊥

-- the section begins and ends with NUL
pub record HasNulEnds (strings : List ℕ) : Type 0 where
  pub some : 0 < length strings
  pub first : slice_index strings 0 ≡ 0
  pub last : slice_index strings (length strings - 1) ≡ 0

-- where the sections begin in the file: offsets count from the end of the header
abbrev pub types_at : Order → List ℕ → ℕ
types_at o b = word32_at o b 4 + word32_at o b 8

abbrev pub strings_at : Order → List ℕ → ℕ
strings_at o b = word32_at o b 4 + word32_at o b 16

-- the two sections of a file, by the numbers of its header
abbrev pub part : List ℕ → ℕ → ℕ → List ℕ
part b pos len = take len (drop pos b)
