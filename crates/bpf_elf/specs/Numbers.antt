-- The numbers of an ELF file, at their offsets (System V ABI, "ELF Header" and "Sections"), read by the byte order that it states.
-- A number that is outside the file is 0.
use Rattle.std.specs.Prelude.{ℕ, ◌+◌, ◌*◌, ◌^◌, ◌==◌, List, if◌then◌else◌, slice_index}
use Rattle.bpf_words.specs.{declared.Order.Order, declared.Order.TheVariants.Little, declared.Order.TheVariants.Big, Words.word16_at, Words.word32_at}

-- the number that the 8 bytes at an offset encode
abbrev pub word64_at : Order → List ℕ → ℕ → ℕ
word64_at Little b i = word32_at Little b i + 2 ^ 32 * word32_at Little b (i + 4)
word64_at Big b i = word32_at Big b (i + 4) + 2 ^ 32 * word32_at Big b i

-- the byte order that a number states in EI_DATA: ELFDATA2LSB is 1, ELFDATA2MSB 2
abbrev pub order_number : Order → ℕ
order_number Little = 1
order_number Big = 2

-- the byte order of a file: EI_DATA
abbrev pub order_of : List ℕ → Order
order_of b = if slice_index b 5 == 2 then Big else Little

-- the 16-, 32- and 64-bit numbers at an offset of a file
abbrev pub half : List ℕ → ℕ → ℕ
half b i = word16_at (order_of b) b i

abbrev pub word : List ℕ → ℕ → ℕ
word b i = word32_at (order_of b) b i

abbrev pub long : List ℕ → ℕ → ℕ
long b i = word64_at (order_of b) b i

-- where the section header table is: e_shoff
abbrev pub table : List ℕ → ℕ
table b = long b 40

-- how many sections a file has, with section 0: e_shnum
abbrev pub count : List ℕ → ℕ
count b = half b 60

-- which section has the names of sections: e_shstrndx
abbrev pub names : List ℕ → ℕ
names b = half b 62

-- the flags of the processor: e_flags
abbrev pub flags_of : List ℕ → ℕ
flags_of b = word b 48

-- where the header of a section begins: it has 64 bytes
abbrev pub header_offset : List ℕ → ℕ → ℕ
header_offset b i = table b + 64 * i

-- sh_name, sh_type, sh_flags, sh_addr, sh_offset, sh_size, sh_link, sh_info, sh_addralign and sh_entsize of a section
abbrev pub name_off : List ℕ → ℕ → ℕ
name_off b i = word b (header_offset b i)

abbrev pub type : List ℕ → ℕ → ℕ
type b i = word b (header_offset b i + 4)

abbrev pub flags : List ℕ → ℕ → ℕ
flags b i = long b (header_offset b i + 8)

abbrev pub address : List ℕ → ℕ → ℕ
address b i = long b (header_offset b i + 16)

abbrev pub offset : List ℕ → ℕ → ℕ
offset b i = long b (header_offset b i + 24)

abbrev pub size : List ℕ → ℕ → ℕ
size b i = long b (header_offset b i + 32)

abbrev pub link : List ℕ → ℕ → ℕ
link b i = word b (header_offset b i + 40)

abbrev pub info : List ℕ → ℕ → ℕ
info b i = word b (header_offset b i + 44)

abbrev pub alignment : List ℕ → ℕ → ℕ
alignment b i = long b (header_offset b i + 48)

abbrev pub entry_size : List ℕ → ℕ → ℕ
entry_size b i = long b (header_offset b i + 56)
