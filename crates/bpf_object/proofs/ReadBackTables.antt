-- Symbols and relocations that were written read back.
use Rattle.std.proofs.Common.{◌≡◌, ℕ, ◌+◌, ◌*◌, ◌/◌, ◌%◌, ◌^◌, ◌<◌, ◌==◌, Bool, false, List, [], ◌∷◌, ◌++◌, length, if◌then◌else◌, refl, sym, ap, ◌∙◌, add-zero, arith}
use Rattle.std.proofs.Math.Nat.{mul-div_cancel_left}
use Rattle.bpf_words.specs.declared.Order.{Order, TheVariants.Little, TheVariants.Big}
use Rattle.bpf_words.specs.Words.{word16, word32, word32_at}
use Rattle.bpf_elf.specs.Kinds.{SHT_NOBITS}
use Rattle.bpf_elf.specs.Numbers as number
use Rattle.bpf_elf.specs.Numbers.{order_of, word64_at}
use Rattle.bpf_elf.specs.Symbols.{symbols, symbol_count, symbol_offset, st_name, st_info, st_other, st_shndx, st_value, st_size}
use Rattle.bpf_elf.specs.Relocations.{relocation_count, relocation_offset, r_offset, r_symbol, r_type}
use Rattle.bpf_object.specs.File.{WrittenSection, word64, content_offset, file_of}
use Rattle.bpf_object.proofs.ReadBackWords.{HasBytes, has_at, has_same}
use Rattle.bpf_object.proofs.ReadBackNumbers.{Number, byte, half, word, long, encode, Read, read_all}
use Rattle.bpf_object.proofs.ReadBackFile.{IsWritable, has_header, half_is, word_is, long_is}
use Rattle.bpf_object.proofs.ReadBackSections.{content_here}
use Rattle.bpf_object.proofs.ReadBackRows.{rows, length-rows, row_here}

-- ---- a row of the symbol table

-- the 24 bytes of a symbol
abbrev pub symbol_row : Order → ℕ → ℕ → ℕ → ℕ → ℕ → ℕ → List ℕ
symbol_row o name info other shndx value size = word32 o name ++ (info ∷ other ∷ []) ++ word16 o shndx ++ word64 o value ++ word64 o size

pub length-symbol_row : (o : Order) (name info other shndx value size : ℕ) → length (symbol_row o name info other shndx value size) ≡ 24
length-symbol_row Little name info other shndx value size = refl
length-symbol_row Big name info other shndx value size = refl

abbrev symbol_numbers : ℕ → ℕ → ℕ → ℕ → ℕ → ℕ → List Number
symbol_numbers name info other shndx value size = word name ∷ byte info ∷ byte other ∷ half shndx ∷ long value ∷ long size ∷ []

symbol_encoded : (o : Order) (name info other shndx value size : ℕ)
    → symbol_row o name info other shndx value size ≡ encode o (symbol_numbers name info other shndx value size)
symbol_encoded Little name info other shndx value size = refl
symbol_encoded Big name info other shndx value size = refl

-- the fields of a symbol
pub record HasSymbol (b : List ℕ) (j name info other shndx value size : ℕ) : Type 0 where
  pub name_is : st_name b j ≡ name
  pub info_is : st_info b j ≡ info
  pub other_is : st_other b j ≡ other
  pub shndx_is : st_shndx b j ≡ shndx
  pub value_is : st_value b j ≡ value
  pub size_is : st_size b j ≡ size

symbol_read : (b : List ℕ) (o : Order) (j name info other shndx value size : ℕ) → order_of b ≡ o
    → Read o b (symbol_offset b j) 0 (symbol_numbers name info other shndx value size) → HasSymbol b j name info other shndx value size
symbol_read b o j name info other shndx value size order r =
    let p = symbol_offset b j in
    record {
      name_is = word_is b o p name order (ap (λ (k : ℕ). word32_at o b k) (sym (add-zero p)) ∙ r.0);
      info_is = r.1.0;
      other_is = r.1.1.0;
      shndx_is = half_is b o (p + 6) shndx order r.1.1.1.0;
      value_is = long_is b o (p + 8) value order r.1.1.1.1.0;
      size_is = long_is b o (p + 16) size order r.1.1.1.1.1.0;
    }

-- a symbol that was written at the offset of the symbol with this index
pub has_symbol : (b : List ℕ) (o : Order) (j name info other shndx value size : ℕ) → order_of b ≡ o → name < 2 ^ 32 → shndx < 2 ^ 16 → value < 2 ^ 64 → size < 2 ^ 64
    → HasBytes b (symbol_offset b j) (symbol_row o name info other shndx value size) → HasSymbol b j name info other shndx value size
has_symbol b o j name info other shndx value size order name_fits shndx_fits value_fits size_fits h =
    let numbers = symbol_numbers name info other shndx value size in
    symbol_read b o j name info other shndx value size order
    (read_all o b (symbol_offset b j) 0 numbers (name_fits, (tt, (tt, (shndx_fits, (value_fits, (size_fits, tt))))))
    (has_at b (symbol_offset b j) (symbol_offset b j + 0) (encode o numbers)
    (has_same b (symbol_offset b j) (symbol_row o name info other shndx value size) (encode o numbers) h (symbol_encoded o name info other shndx value size)) (sym (add-zero _))))

-- ---- a row of a table of relocations

-- the 16 bytes of a relocation: the halves of r_info are the index of its symbol and its type
abbrev pub relocation_row : Order → ℕ → ℕ → ℕ → List ℕ
relocation_row o offset symbol type = word64 o offset ++ word64 o (type + 2 ^ 32 * symbol)

pub length-relocation_row : (o : Order) (offset symbol type : ℕ) → length (relocation_row o offset symbol type) ≡ 16
length-relocation_row Little offset symbol type = refl
length-relocation_row Big offset symbol type = refl

relocation_encoded : (o : Order) (offset symbol type : ℕ) → relocation_row o offset symbol type ≡ encode o (long offset ∷ long (type + 2 ^ 32 * symbol) ∷ [])
relocation_encoded Little offset symbol type = refl
relocation_encoded Big offset symbol type = refl

-- the fields of a relocation
pub record HasRelocation (b : List ℕ) (i k offset symbol type : ℕ) : Type 0 where
  pub offset_is : r_offset b i k ≡ offset
  pub symbol_is : r_symbol b i k ≡ symbol
  pub type_is : r_type b i k ≡ type

upper : (v symbol type : ℕ) → v ≡ type + 2 ^ 32 * symbol → type < 2 ^ 32 → v / 2 ^ 32 ≡ symbol
upper v symbol type e lt = omega arith

lower : (v symbol type : ℕ) → v ≡ type + 2 ^ 32 * symbol → type < 2 ^ 32 → v % 2 ^ 32 ≡ type
lower v symbol type e lt = omega arith

relocation_read : (b : List ℕ) (o : Order) (i k offset symbol type : ℕ) → order_of b ≡ o → type < 2 ^ 32
    → Read o b (relocation_offset b i k) 0 (long offset ∷ long (type + 2 ^ 32 * symbol) ∷ []) → HasRelocation b i k offset symbol type
relocation_read b o i k offset symbol type order fits r =
    let p = relocation_offset b i k in
    let halves = long_is b o (p + 8) (type + 2 ^ 32 * symbol) order r.1.0 in
    record {
      offset_is = long_is b o p offset order (ap (λ (j : ℕ). word64_at o b j) (sym (add-zero p)) ∙ r.0);
      symbol_is = upper (number.long b (p + 8)) symbol type halves fits;
      type_is = lower (number.long b (p + 8)) symbol type halves fits;
    }

-- a relocation that was written at the offset of the k-th one of a table
pub has_relocation : (b : List ℕ) (o : Order) (i k offset symbol type : ℕ) → order_of b ≡ o → offset < 2 ^ 64 → symbol < 2 ^ 32 → type < 2 ^ 32
    → HasBytes b (relocation_offset b i k) (relocation_row o offset symbol type) → HasRelocation b i k offset symbol type
has_relocation b o i k offset symbol type order offset_fits symbol_fits type_fits h =
    let numbers = long offset ∷ long (type + 2 ^ 32 * symbol) ∷ [] in
    relocation_read b o i k offset symbol type order type_fits
    (read_all o b (relocation_offset b i k) 0 numbers (offset_fits, (omega arith, tt))
    (has_at b (relocation_offset b i k) (relocation_offset b i k + 0) (encode o numbers)
    (has_same b (relocation_offset b i k) (relocation_row o offset symbol type) (encode o numbers) h (relocation_encoded o offset symbol type)) (sym (add-zero _))))

-- ---- tables in a file

counted : (a m size : ℕ) → 0 < size → a ≡ size * m → a / size ≡ m
counted a m size some e = ap (λ (x : ℕ). x / size) e ∙ mul-div_cancel_left m some

module _ (b : List ℕ) (o : Order) (flags : ℕ) (s : ℕ → WrittenSection) (n : ℕ) (is : b ≡ file_of o flags s n) (w : IsWritable flags s n)
    (i : ℕ) (lt : i < n) (row : ℕ → List ℕ) (size m : ℕ) (each : (k : ℕ) → length (row k) ≡ size) (table : (s i).content ≡ rows row m) where
  -- a row of the table that a section contains
  pub row_there : (k : ℕ) → k < m → HasBytes b (number.offset b (i + 1) + size * k) (row k)
  row_there k below =
      let at = (has_header b o flags s n is w i lt).offset in
      has_at b (content_offset s i + size * k) (number.offset b (i + 1) + size * k) (row k)
      (row_here b (content_offset s i) row size m k each below (has_same b (content_offset s i) (s i).content (rows row m) (content_here b o flags s n is w i lt) table)) (omega arith)

  -- sh_size is that of the rows, if the section has any bytes
  pub size_of_rows : ((s i).type == SHT_NOBITS) ≡ false → number.size b (i + 1) ≡ size * m
  size_of_rows bits =
      let written : length (s i).content ≡ (s i).size = (w.fields i lt).content ∙ ap (λ (x : Bool). if x then 0 else (s i).size) bits in
      (has_header b o flags s n is w i lt).size ∙ sym written ∙ ap length table ∙ length-rows row size m each

module _ (b : List ℕ) (o : Order) (flags : ℕ) (s : ℕ → WrittenSection) (n : ℕ) (is : b ≡ file_of o flags s n) (w : IsWritable flags s n)
    (i : ℕ) (lt : i < n) (row : ℕ → List ℕ) (m : ℕ) where
  -- the symbols are in a section
  pub symbol_here : ((k : ℕ) → length (row k) ≡ 24) → (s i).content ≡ rows row m → symbols b ≡ i + 1 → (j : ℕ) → j < m → HasBytes b (symbol_offset b j) (row j)
  symbol_here each table section j below =
      has_at b (number.offset b (i + 1) + 24 * j) (symbol_offset b j) (row j) (row_there b o flags s n is w i lt row 24 m each table j below)
      (ap (λ (k : ℕ). number.offset b k + 24 * j) (sym section))

  pub symbol_count_is : ((k : ℕ) → length (row k) ≡ 24) → (s i).content ≡ rows row m → symbols b ≡ i + 1 → ((s i).type == SHT_NOBITS) ≡ false → symbol_count b ≡ m
  symbol_count_is each table section bits =
      ap (λ (k : ℕ). number.size b k / 24) section ∙ counted (number.size b (i + 1)) m 24 (omega arith) (size_of_rows b o flags s n is w i lt row 24 m each table bits)

  -- the relocations of a table
  pub relocation_here : ((k : ℕ) → length (row k) ≡ 16) → (s i).content ≡ rows row m → (k : ℕ) → k < m → HasBytes b (relocation_offset b (i + 1) k) (row k)
  relocation_here each table k below = row_there b o flags s n is w i lt row 16 m each table k below

  pub relocation_count_is : ((k : ℕ) → length (row k) ≡ 16) → (s i).content ≡ rows row m → ((s i).type == SHT_NOBITS) ≡ false → relocation_count b (i + 1) ≡ m
  relocation_count_is each table bits =
      counted (number.size b (i + 1)) m 16 (omega arith) (size_of_rows b o flags s n is w i lt row 16 m each table bits)
