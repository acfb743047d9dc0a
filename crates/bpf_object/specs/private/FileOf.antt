-- The bytes of an ELF file for BPF, of a list of sections (System V ABI, "ELF Header", "Sections").
use Rattle.std.specs.Prelude.{ℕ, ◌+◌, ◌*◌, ◌-◌, ◌&&◌, nat_lt, nat_le, Bool, List, [], ◌∷◌, ◌++◌, length, replicate}
use Rattle.std.specs.List.{flat_map}
use Rattle.bpf_words.specs.{declared.Order.Order}
use Rattle.bpf_object.specs.declared.fields.Field.{Field}
use Rattle.bpf_object.specs.declared.fields.Field.TheVariants.{Half, Word, Long}
use Rattle.bpf_object.specs.private.Fields.{encode}
use Rattle.bpf_object.specs.File.{WrittenSection, ident, padding}

-- e_type ET_REL, e_machine EM_BPF, e_version, e_entry, e_phoff, e_shoff, e_flags, then the sizes and numbers of headers; the last section has the names
abbrev pub header_fields : ℕ → ℕ → ℕ → List Field
header_fields flags table count =
    Half 1 ∷ Half 247 ∷ Word 1 ∷ Long 0 ∷ Long 0 ∷ Long table ∷ Word flags ∷ Half 64 ∷ Half 0 ∷ Half 0 ∷ Half 64 ∷ Half count ∷ Half (count - 1) ∷ []

-- the header of a section whose content is at an offset
abbrev pub section_fields : WrittenSection → ℕ → List Field
section_fields s at =
    Word s.name_offset ∷ Word s.type ∷ Long s.flags ∷ Long s.address ∷ Long at ∷ Long s.size ∷ Word s.link ∷ Word s.info ∷ Long s.alignment ∷ Long s.entry_size ∷ []

-- a content with zeros up to a multiple of 8
abbrev pub padded : List ℕ → List ℕ
padded content = content ++ padding (length content)

abbrev pub contents : List WrittenSection → List ℕ
contents ss = flat_map (λ s. padded s.content) ss

-- the headers of sections of which the first one's content is at an offset
abbrev pub headers : Order → ℕ → List WrittenSection → List ℕ
headers o at [] = []
headers o at (s ∷ ss) = encode o (section_fields s at) ++ headers o (at + length (padded s.content)) ss

-- the file: its header, the contents, and the section header table with a zero row
abbrev pub file_of : Order → ℕ → List WrittenSection → List ℕ
file_of o flags ss =
    (ident o ++ encode o (header_fields flags (64 + length (contents ss)) (length ss + 1))) ++ (contents ss ++ (replicate 64 0 ++ headers o 64 ss))

-- the number of section headers fits into 16 bits, and the file has at most so many bytes
abbrev pub is_small_file : ℕ → List WrittenSection → Bool
is_small_file limit ss = nat_lt (length ss + 1) 65536 && nat_le (64 + length (contents ss) + 64 * (length ss + 1)) limit
