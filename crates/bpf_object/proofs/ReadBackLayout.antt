-- How long the parts of a file are, and where they stand.
use Rattle.std.proofs.Common.{◌≡◌, ℕ, zero, suc, ◌+◌, ◌*◌, ◌<◌, List, ◌++◌, length, replicate, refl, inl, inr, subst, length-append, arith}
use Rattle.std.proofs.lemmas.{Bool.cases_lt}
use Rattle.bpf_words.specs.declared.Order.{Order, TheVariants.Little, TheVariants.Big}
use Rattle.bpf_object.specs.File.{WrittenSection, ident, file_type, file_table, padding, contents, content_offset, section_header, section_headers, file_of}
use Rattle.bpf_object.proofs.ReadBackWords.{HasBytes, has_at, has_all, has_first, has_rest, has_within}

-- ---- lengths

pub length-ident : (o : Order) → length (ident o) ≡ 16
length-ident Little = refl
length-ident Big = refl

pub length-file_type : (o : Order) → length (file_type o) ≡ 24
length-file_type Little = refl
length-file_type Big = refl

pub length-file_table : (o : Order) (flags table count : ℕ) → length (file_table o flags table count) ≡ 24
length-file_table Little flags table count = refl
length-file_table Big flags table count = refl

-- the header of a file
abbrev pub header : Order → ℕ → ℕ → ℕ → List ℕ
header o flags table count = ident o ++ (file_type o ++ file_table o flags table count)

pub length-header : (o : Order) (flags table count : ℕ) → length (header o flags table count) ≡ 64
length-header o flags table count =
    omega (
      arith,
      length-append (ident o) (file_type o ++ file_table o flags table count),
      length-append (file_type o) (file_table o flags table count),
      length-ident o,
      length-file_type o,
      length-file_table o flags table count,
    )

pub length-section_header : (o : Order) (s : WrittenSection) (offset : ℕ) → length (section_header o s offset) ≡ 64
length-section_header Little s offset = refl
length-section_header Big s offset = refl

pub length-section_headers : (o : Order) (s : ℕ → WrittenSection) (n : ℕ) → length (section_headers o s n) ≡ 64 * (n + 1)
length-section_headers o s zero = refl
length-section_headers o s (suc n) =
    let one = length-section_header o (s n) (content_offset s n) in
    let before = length-section_headers o s n in
    omega (arith, length-append (section_headers o s n) (section_header o (s n) (content_offset s n)))

pub length-file_of : (o : Order) (flags : ℕ) (s : ℕ → WrittenSection) (n : ℕ) → length (file_of o flags s n) ≡ content_offset s n + 64 * (n + 1)
length-file_of o flags s n =
    omega (
      arith,
      length-append (header o flags (content_offset s n) (n + 1)) (contents s n ++ section_headers o s n),
      length-append (contents s n) (section_headers o s n),
      length-header o flags (content_offset s n) (n + 1),
      length-section_headers o s n,
    )

-- ---- the parts of a file

pub header_there : (o : Order) (flags : ℕ) (s : ℕ → WrittenSection) (n : ℕ) → HasBytes (file_of o flags s n) 0 (header o flags (content_offset s n) (n + 1))
header_there o flags s n =
    has_first (file_of o flags s n) 0 (header o flags (content_offset s n) (n + 1)) (contents s n ++ section_headers o s n) (has_all (file_of o flags s n))

after_header : (o : Order) (flags : ℕ) (s : ℕ → WrittenSection) (n : ℕ) → HasBytes (file_of o flags s n) 64 (contents s n ++ section_headers o s n)
after_header o flags s n =
    has_at (file_of o flags s n) (0 + 64) 64 (contents s n ++ section_headers o s n)
    (has_rest (file_of o flags s n) 0 64 (header o flags (content_offset s n) (n + 1)) (contents s n ++ section_headers o s n) (has_all (file_of o flags s n)) (length-header o flags (content_offset s n) (n + 1)))
    (omega arith)

pub contents_there : (o : Order) (flags : ℕ) (s : ℕ → WrittenSection) (n : ℕ) → HasBytes (file_of o flags s n) 64 (contents s n)
contents_there o flags s n = has_first (file_of o flags s n) 64 (contents s n) (section_headers o s n) (after_header o flags s n)

pub headers_there : (o : Order) (flags : ℕ) (s : ℕ → WrittenSection) (n : ℕ) → HasBytes (file_of o flags s n) (content_offset s n) (section_headers o s n)
headers_there o flags s n = has_rest (file_of o flags s n) 64 (length (contents s n)) (contents s n) (section_headers o s n) (after_header o flags s n) refl

-- ---- a section of a file

-- the content of a section, in all contents
content_within : (s : ℕ → WrittenSection) (n i : ℕ) → i < n → HasBytes (contents s n) (length (contents s i)) (s i).content
content_within s zero i lt = absurd (omega (arith, lt))
content_within s (suc n) i lt =
    let last = (s n).content ++ padding (length (s n).content) in
    elim (cases_lt i n) [
      | inl below ↦
          has_at (contents s (suc n)) (0 + length (contents s i)) (length (contents s i)) (s i).content
          (has_within (contents s (suc n)) 0 (length (contents s i)) (contents s n) (s i).content
          (has_first (contents s (suc n)) 0 (contents s n) last (has_all (contents s (suc n)))) (content_within s n i below)) (omega arith)
      | inr from ↦
          let same : n ≡ i = omega (arith, lt, from) in
          let here : HasBytes (contents s (suc n)) (length (contents s n)) (s n).content =
          has_first (contents s (suc n)) (length (contents s n)) (s n).content (padding (length (s n).content))
          (has_at (contents s (suc n)) (0 + length (contents s n)) (length (contents s n)) last
          (has_rest (contents s (suc n)) 0 (length (contents s n)) (contents s n) last (has_all (contents s (suc n))) refl) (omega arith)) in
          subst (λ (m : ℕ). HasBytes (contents s (suc n)) (length (contents s m)) (s m).content) same here
    ]

pub content_there : (o : Order) (flags : ℕ) (s : ℕ → WrittenSection) (n i : ℕ) → i < n → HasBytes (file_of o flags s n) (content_offset s i) (s i).content
content_there o flags s n i lt =
    has_within (file_of o flags s n) 64 (length (contents s i)) (contents s n) (s i).content (contents_there o flags s n) (content_within s n i lt)

-- the header of a section, in the table of headers
header_within : (o : Order) (s : ℕ → WrittenSection) (n i : ℕ) → i < n → HasBytes (section_headers o s n) (64 * (i + 1)) (section_header o (s i) (content_offset s i))
header_within o s zero i lt = absurd (omega (arith, lt))
header_within o s (suc n) i lt =
    let last = section_header o (s n) (content_offset s n) in
    elim (cases_lt i n) [
      | inl below ↦
          has_at (section_headers o s (suc n)) (0 + 64 * (i + 1)) (64 * (i + 1)) (section_header o (s i) (content_offset s i))
          (has_within (section_headers o s (suc n)) 0 (64 * (i + 1)) (section_headers o s n) (section_header o (s i) (content_offset s i))
          (has_first (section_headers o s (suc n)) 0 (section_headers o s n) last (has_all (section_headers o s (suc n)))) (header_within o s n i below)) (omega arith)
      | inr from ↦
          let same : n ≡ i = omega (arith, lt, from) in
          let here : HasBytes (section_headers o s (suc n)) (64 * (n + 1)) last =
          has_at (section_headers o s (suc n)) (0 + 64 * (n + 1)) (64 * (n + 1)) last
          (has_rest (section_headers o s (suc n)) 0 (64 * (n + 1)) (section_headers o s n) last (has_all (section_headers o s (suc n))) (length-section_headers o s n))
          (omega arith) in
          subst (λ (m : ℕ). HasBytes (section_headers o s (suc n)) (64 * (m + 1)) (section_header o (s m) (content_offset s m))) same here
    ]

pub section_header_there : (o : Order) (flags : ℕ) (s : ℕ → WrittenSection) (n i : ℕ) → i < n
    → HasBytes (file_of o flags s n) (content_offset s n + 64 * (i + 1)) (section_header o (s i) (content_offset s i))
section_header_there o flags s n i lt =
    has_within (file_of o flags s n) (content_offset s n) (64 * (i + 1)) (section_headers o s n) (section_header o (s i) (content_offset s i))
    (headers_there o flags s n) (header_within o s n i lt)

-- the zero row
zero_within : (o : Order) (s : ℕ → WrittenSection) (n : ℕ) → HasBytes (section_headers o s n) 0 (replicate 64 0)
zero_within o s zero = has_all (replicate 64 0)
zero_within o s (suc n) =
    has_at (section_headers o s (suc n)) (0 + 0) 0 (replicate 64 0)
    (has_within (section_headers o s (suc n)) 0 0 (section_headers o s n) (replicate 64 0)
    (has_first (section_headers o s (suc n)) 0 (section_headers o s n) (section_header o (s n) (content_offset s n)) (has_all (section_headers o s (suc n)))) (zero_within o s n))
    (omega arith)

pub zero_there : (o : Order) (flags : ℕ) (s : ℕ → WrittenSection) (n : ℕ) → HasBytes (file_of o flags s n) (content_offset s n) (replicate 64 0)
zero_there o flags s n =
    has_at (file_of o flags s n) (content_offset s n + 0) (content_offset s n) (replicate 64 0)
    (has_within (file_of o flags s n) (content_offset s n) 0 (section_headers o s n) (replicate 64 0) (headers_there o flags s n) (zero_within o s n)) (omega arith)
