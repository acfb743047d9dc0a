-- What the header of a written file and the headers of its sections read as.
use Rattle.std.proofs.Common.{◌≡◌, ℕ, ◌+◌, ◌-◌, ◌*◌, ◌^◌, ◌<◌, ◌≤◌, ◌==◌, List, [], ◌∷◌, ◌++◌, length, replicate, if◌then◌else◌, refl, sym, ap, ◌∙◌, add-zero, zero-add, append-nil, append_assoc, arith}
use Rattle.std.specs.Prelude.{slice_index}
use Rattle.bpf_words.specs.declared.Order.{Order, TheVariants.Little, TheVariants.Big}
use Rattle.bpf_words.specs.Words.{word16_at, word32_at}
use Rattle.bpf_elf.specs.Kinds.{SHT_NOBITS}
use Rattle.bpf_elf.specs.Numbers as number
use Rattle.bpf_elf.specs.Numbers.{order_of, word64_at}
use Rattle.bpf_object.specs.File.{WrittenSection, data_byte, ident, file_type, file_table, content_offset, section_header, file_of, no_section}
use Rattle.bpf_object.proofs.FileLemmas.{offset_grows}
use Rattle.bpf_object.proofs.ReadBackWords.{HasBytes, has_at, has_same, has_of, has_first, has_rest, read_byte}
use Rattle.bpf_object.proofs.ReadBackNumbers.{Number, half, word, long, encode, FitWidths, Read, read_all}
use Rattle.bpf_object.proofs.ReadBackLayout.{header, length-ident, header_there, section_header_there, zero_there}

-- ---- what can be written

-- the fields of a section are in their ranges, and sh_size is that of its content, but for a section of type SHT_NOBITS, which has none
pub record FieldsFit (s : WrittenSection) : Type 0 where
  pub name_offset : s.name_offset < 2 ^ 32
  pub type : s.type < 2 ^ 32
  pub flags : s.flags < 2 ^ 64
  pub address : s.address < 2 ^ 64
  pub size : s.size < 2 ^ 64
  pub link : s.link < 2 ^ 32
  pub info : s.info < 2 ^ 32
  pub alignment : s.alignment < 2 ^ 64
  pub entry_size : s.entry_size < 2 ^ 64
  pub content : length s.content ≡ (if s.type == SHT_NOBITS then 0 else s.size)

-- the sections can be counted, and the file isn't too large
pub record IsWritable (flags : ℕ) (section : ℕ → WrittenSection) (n : ℕ) : Type 0 where
  pub few : n + 1 < 65280
  pub some : 0 < n
  pub flags_fit : flags < 2 ^ 32
  pub short : content_offset section n + 64 * (n + 1) ≤ 67108864
  pub fields : (i : ℕ) → i < n → FieldsFit (section i)

-- ---- the header of a file

header_numbers : ℕ → ℕ → ℕ → List Number
header_numbers flags table count =
    half 1 ∷ half 247 ∷ word 1 ∷ long 0 ∷ long 0 ∷ long table ∷ word flags ∷ half 64 ∷ half 0 ∷ half 0 ∷ half 64 ∷ half count ∷ half (count - 1) ∷ []

header_encoded : (o : Order) (flags table count : ℕ) → file_type o ++ file_table o flags table count ≡ encode o (header_numbers flags table count)
unfolding header_numbers
header_encoded o flags table count = simp (append_assoc, append-nil)

module _ (b : List ℕ) (o : Order) (flags : ℕ) (s : ℕ → WrittenSection) (n : ℕ) (is : b ≡ file_of o flags s n) where
  header_here : HasBytes b 0 (header o flags (content_offset s n) (n + 1))
  header_here = has_of b (file_of o flags s n) 0 (header o flags (content_offset s n) (n + 1)) is (header_there o flags s n)

  ident_here : HasBytes b 0 (ident o)
  ident_here = has_first b 0 (ident o) (file_type o ++ file_table o flags (content_offset s n) (n + 1)) header_here

  pub ident_byte : (i : ℕ) → i < 16 → slice_index b i ≡ slice_index (ident o) i
  ident_byte i lt = ap (λ (k : ℕ). slice_index b k) (sym (zero-add i)) ∙ read_byte b 0 i (ident o) ident_here (omega (arith, length-ident o, lt))

  order_byte : slice_index b 5 ≡ data_byte o
  order_byte = ident_byte 5 (omega arith) ∙ sixth o
    where
      sixth : (o : Order) → slice_index (ident o) 5 ≡ data_byte o
      sixth Little = refl
      sixth Big = refl

  -- EI_DATA
  pub order_is : order_of b ≡ o
  order_is = ap (λ (k : ℕ). if k == 2 then Big else Little) order_byte ∙ of_byte o
    where
      of_byte : (o : Order) → (if data_byte o == 2 then Big else Little) ≡ o
      of_byte Little = refl
      of_byte Big = refl

module _ (b : List ℕ) (o : Order) (flags : ℕ) (s : ℕ → WrittenSection) (n : ℕ) (is : b ≡ file_of o flags s n) (w : IsWritable flags s n) where
  place_fits : (i : ℕ) → i ≤ n → content_offset s i < 2 ^ 64
  place_fits i le = let short = w.short in omega (arith, offset_grows s i n le)

  numbers_here : HasBytes b 16 (encode o (header_numbers flags (content_offset s n) (n + 1)))
  numbers_here =
      has_same b 16 (file_type o ++ file_table o flags (content_offset s n) (n + 1)) (encode o (header_numbers flags (content_offset s n) (n + 1)))
      (has_at b (0 + 16) 16 (file_type o ++ file_table o flags (content_offset s n) (n + 1))
      (has_rest b 0 16 (ident o) (file_type o ++ file_table o flags (content_offset s n) (n + 1)) (header_here b o flags s n is) (length-ident o)) (omega arith))
      (header_encoded o flags (content_offset s n) (n + 1))

  numbers_fit : FitWidths (header_numbers flags (content_offset s n) (n + 1))
  unfolding header_numbers
  numbers_fit = let few = w.few in let flags_fit = w.flags_fit in let at = place_fits n (omega arith) in
      (omega arith, (omega arith, (omega arith, (omega arith, (omega arith, (at, (flags_fit, (omega arith, (omega arith, (omega arith, (omega arith, (omega arith, (omega arith, tt)))))))))))))

  header_reads : Read o b 16 0 (header_numbers flags (content_offset s n) (n + 1))
  header_reads = read_all o b 16 0 (header_numbers flags (content_offset s n) (n + 1)) numbers_fit numbers_here

-- ---- the same numbers, by the byte order that the file states

pub half_is : (b : List ℕ) (o : Order) (i v : ℕ) → order_of b ≡ o → word16_at o b i ≡ v → number.half b i ≡ v
half_is b o i v order r = ap (λ (q : Order). word16_at q b i) order ∙ r

pub word_is : (b : List ℕ) (o : Order) (i v : ℕ) → order_of b ≡ o → word32_at o b i ≡ v → number.word b i ≡ v
word_is b o i v order r = ap (λ (q : Order). word32_at q b i) order ∙ r

pub long_is : (b : List ℕ) (o : Order) (i v : ℕ) → order_of b ≡ o → word64_at o b i ≡ v → number.long b i ≡ v
long_is b o i v order r = ap (λ (q : Order). word64_at q b i) order ∙ r

-- the numbers of the header of a file, as header_rules has them
pub record HasFileHeader (b : List ℕ) (e_flags e_shoff e_shnum : ℕ) : Type 0 where
  pub file_type : number.half b 16 ≡ 1
  pub machine : number.half b 18 ≡ 247
  pub version : number.word b 20 ≡ 1
  pub table : number.table b ≡ e_shoff
  pub flags : number.flags_of b ≡ e_flags
  pub header_size : number.half b 52 ≡ 64
  pub segments : number.half b 56 ≡ 0
  pub section_header_size : number.half b 58 ≡ 64
  pub count : number.count b ≡ e_shnum
  pub names : number.names b ≡ e_shnum - 1

file_header : (b : List ℕ) (o : Order) (flags table count : ℕ) → order_of b ≡ o → Read o b 16 0 (header_numbers flags table count) → HasFileHeader b flags table count
unfolding header_numbers
file_header b o flags table count order r = record {
  file_type = half_is b o 16 1 order r.0;
  machine = half_is b o 18 247 order r.1.0;
  version = word_is b o 20 1 order r.1.1.0;
  table = long_is b o 40 table order r.1.1.1.1.1.0;
  flags = word_is b o 48 flags order r.1.1.1.1.1.1.0;
  header_size = half_is b o 52 64 order r.1.1.1.1.1.1.1.0;
  segments = half_is b o 56 0 order r.1.1.1.1.1.1.1.1.1.0;
  section_header_size = half_is b o 58 64 order r.1.1.1.1.1.1.1.1.1.1.0;
  count = half_is b o 60 count order r.1.1.1.1.1.1.1.1.1.1.1.0;
  names = half_is b o 62 (count - 1) order r.1.1.1.1.1.1.1.1.1.1.1.1.0;
}

pub has_file_header : (b : List ℕ) (o : Order) (flags : ℕ) (s : ℕ → WrittenSection) (n : ℕ) → b ≡ file_of o flags s n → IsWritable flags s n
    → HasFileHeader b flags (content_offset s n) (n + 1)
has_file_header b o flags s n is w = file_header b o flags (content_offset s n) (n + 1) (order_is b o flags s n is) (header_reads b o flags s n is w)

-- ---- the headers of sections

-- the fields of a section header
pub record HasHeader (b : List ℕ) (i : ℕ) (s : WrittenSection) (place : ℕ) : Type 0 where
  pub name_offset : number.name_off b i ≡ s.name_offset
  pub type : number.type b i ≡ s.type
  pub flags : number.flags b i ≡ s.flags
  pub address : number.address b i ≡ s.address
  pub offset : number.offset b i ≡ place
  pub size : number.size b i ≡ s.size
  pub link : number.link b i ≡ s.link
  pub info : number.info b i ≡ s.info
  pub alignment : number.alignment b i ≡ s.alignment
  pub entry_size : number.entry_size b i ≡ s.entry_size

section_numbers : WrittenSection → ℕ → List Number
section_numbers s place =
    word s.name_offset ∷ word s.type ∷ long s.flags ∷ long s.address ∷ long place ∷ long s.size ∷ word s.link ∷ word s.info ∷ long s.alignment ∷ long s.entry_size ∷ []

section_encoded : (o : Order) (s : WrittenSection) (place : ℕ) → section_header o s place ≡ encode o (section_numbers s place)
unfolding section_numbers
section_encoded o s place = simp (append_assoc, append-nil)

section_numbers_fit : (s : WrittenSection) (place : ℕ) → FieldsFit s → place < 2 ^ 64 → FitWidths (section_numbers s place)
unfolding section_numbers
section_numbers_fit s place f at = (f.name_offset, (f.type, (f.flags, (f.address, (at, (f.size, (f.link, (f.info, (f.alignment, (f.entry_size, tt))))))))))

section_header_reads : (b : List ℕ) (o : Order) (i : ℕ) (s : WrittenSection) (place : ℕ) → order_of b ≡ o
    → Read o b (number.header_offset b i) 0 (section_numbers s place) → HasHeader b i s place
unfolding section_numbers
section_header_reads b o i s place order r =
    let p = number.header_offset b i in
    record {
      name_offset = word_is b o p s.name_offset order (ap (λ (k : ℕ). word32_at o b k) (sym (add-zero p)) ∙ r.0);
      type = word_is b o (p + 4) s.type order r.1.0;
      flags = long_is b o (p + 8) s.flags order r.1.1.0;
      address = long_is b o (p + 16) s.address order r.1.1.1.0;
      offset = long_is b o (p + 24) place order r.1.1.1.1.0;
      size = long_is b o (p + 32) s.size order r.1.1.1.1.1.0;
      link = word_is b o (p + 40) s.link order r.1.1.1.1.1.1.0;
      info = word_is b o (p + 44) s.info order r.1.1.1.1.1.1.1.0;
      alignment = long_is b o (p + 48) s.alignment order r.1.1.1.1.1.1.1.1.0;
      entry_size = long_is b o (p + 56) s.entry_size order r.1.1.1.1.1.1.1.1.1.0;
    }

row_reads : (b : List ℕ) (o : Order) (i : ℕ) (s : WrittenSection) (place : ℕ) → order_of b ≡ o → FitWidths (section_numbers s place)
    → HasBytes b (number.header_offset b i) (section_header o s place) → HasHeader b i s place
row_reads b o i s place order fit h =
    section_header_reads b o i s place order
    (read_all o b (number.header_offset b i) 0 (section_numbers s place) fit
    (has_at b (number.header_offset b i) (number.header_offset b i + 0) (encode o (section_numbers s place))
    (has_same b (number.header_offset b i) (section_header o s place) (encode o (section_numbers s place)) h (section_encoded o s place)) (omega arith)))

module _ (b : List ℕ) (o : Order) (flags : ℕ) (s : ℕ → WrittenSection) (n : ℕ) (is : b ≡ file_of o flags s n) (w : IsWritable flags s n) where
  -- that of a section
  pub has_header : (i : ℕ) → i < n → HasHeader b (i + 1) (s i) (content_offset s i)
  has_header i lt =
      let table = (has_file_header b o flags s n is w).table in
      row_reads b o (i + 1) (s i) (content_offset s i) (order_is b o flags s n is) (section_numbers_fit (s i) (content_offset s i) (w.fields i lt) (place_fits b o flags s n is w i (omega arith)))
      (has_at b (content_offset s n + 64 * (i + 1)) (number.header_offset b (i + 1)) (section_header o (s i) (content_offset s i))
      (has_of b (file_of o flags s n) (content_offset s n + 64 * (i + 1)) (section_header o (s i) (content_offset s i)) is (section_header_there o flags s n i lt)) (omega arith))

  -- the zero row
  zero_row : (o : Order) → replicate 64 0 ≡ section_header o no_section 0
  zero_row Little = refl
  zero_row Big = refl

  zeros_fit : FitWidths (section_numbers no_section 0)
  unfolding section_numbers
  zeros_fit = (omega arith, (omega arith, (omega arith, (omega arith, (omega arith, (omega arith, (omega arith, (omega arith, (omega arith, (omega arith, tt))))))))))

  pub zeros_here : HasBytes b (number.table b) (replicate 64 0)
  zeros_here =
      has_at b (content_offset s n) (number.table b) (replicate 64 0) (has_of b (file_of o flags s n) (content_offset s n) (replicate 64 0) is (zero_there o flags s n))
      (sym (has_file_header b o flags s n is w).table)

  pub has_zero_header : HasHeader b 0 no_section 0
  has_zero_header =
      row_reads b o 0 no_section 0 (order_is b o flags s n is) zeros_fit
      (has_at b (number.table b) (number.header_offset b 0) (section_header o no_section 0)
      (has_same b (number.table b) (replicate 64 0) (section_header o no_section 0) zeros_here (zero_row o)) (omega arith))
