-- The contents of the sections of a written file, and its zero row.
use Rattle.std.proofs.Common.{◌≡◌, ℕ, ◌+◌, ◌<◌, ◌==◌, true, List, [], length, take, drop, replicate, if◌then◌else◌, sym, ap, ◌∙◌, arith}
use Rattle.std.specs.List.{list_all}
use Rattle.bpf_words.specs.declared.Order.{Order}
use Rattle.bpf_elf.specs.Kinds.{SHT_NOBITS}
use Rattle.bpf_elf.specs.Numbers as number
use Rattle.bpf_elf.specs.Sections.{file_size, is_inside, content, is_zero_at}
use Rattle.bpf_object.specs.File.{WrittenSection, content_offset, file_of}
use Rattle.bpf_object.proofs.ReadBackTests.{most_test}
use Rattle.bpf_object.proofs.ReadBackWords.{HasBytes, has_of, has_inside, has_part}
use Rattle.bpf_object.proofs.ReadBackLayout.{content_there}
use Rattle.bpf_object.proofs.ReadBackFile.{FieldsFit, IsWritable, HasHeader, has_header, has_zero_header, zeros_here}

-- the size of a section in the file is that of its content
size_read : (b : List ℕ) (i : ℕ) (s : WrittenSection) (place : ℕ) → HasHeader b i s place → FieldsFit s → file_size b i ≡ length s.content
size_read b i s place h f = ap (λ (t : ℕ). if t == SHT_NOBITS then 0 else number.size b i) h.type ∙ ap (λ (k : ℕ). if s.type == SHT_NOBITS then 0 else k) h.size ∙ sym f.content

content_read : (b : List ℕ) (i : ℕ) (s : WrittenSection) (place : ℕ) → HasHeader b i s place → file_size b i ≡ length s.content → HasBytes b place s.content
    → content b i ≡ s.content
content_read b i s place h size there =
    ap (λ (k : ℕ). take k (drop (number.offset b i) b)) size ∙ ap (λ (k : ℕ). take (length s.content) (drop k b)) h.offset ∙ has_part b place s.content there

inside_read : (b : List ℕ) (i : ℕ) (s : WrittenSection) (place : ℕ) → HasHeader b i s place → file_size b i ≡ length s.content → HasBytes b place s.content
    → is_inside b i ≡ true
inside_read b i s place h size there =
    let at = h.offset in
    let inside = has_inside b place s.content there in
    most_test (number.offset b i + file_size b i) (length b) (omega (arith, size, at, inside))

module _ (b : List ℕ) (o : Order) (flags : ℕ) (s : ℕ → WrittenSection) (n : ℕ) (is : b ≡ file_of o flags s n) (w : IsWritable flags s n) where
  pub content_here : (i : ℕ) → i < n → HasBytes b (content_offset s i) (s i).content
  content_here i lt = has_of b (file_of o flags s n) (content_offset s i) (s i).content is (content_there o flags s n i lt)

  pub file_size_is : (i : ℕ) → i < n → file_size b (i + 1) ≡ length (s i).content
  file_size_is i lt = size_read b (i + 1) (s i) (content_offset s i) (has_header b o flags s n is w i lt) (w.fields i lt)

  pub content_is : (i : ℕ) → i < n → content b (i + 1) ≡ (s i).content
  content_is i lt = content_read b (i + 1) (s i) (content_offset s i) (has_header b o flags s n is w i lt) (file_size_is i lt) (content_here i lt)

  pub inside_is : (i : ℕ) → i < n → is_inside b (i + 1) ≡ true
  inside_is i lt = inside_read b (i + 1) (s i) (content_offset s i) (has_header b o flags s n is w i lt) (file_size_is i lt) (content_here i lt)

  -- ---- the zero row

  pub zero_is : is_zero_at b (number.table b) 64 ≡ true
  zero_is = ap (λ (xs : List ℕ). list_all (λ c. c == 0) xs) (has_part b (number.table b) (replicate 64 0) (zeros_here b o flags s n is w))

  pub zero_size : file_size b 0 ≡ 0
  zero_size =
      let row = has_zero_header b o flags s n is w in
      ap (λ (t : ℕ). if t == SHT_NOBITS then 0 else number.size b 0) row.type ∙ row.size

  pub zero_content : content b 0 ≡ []
  zero_content = ap (λ (k : ℕ). take k (drop (number.offset b 0) b)) zero_size

  pub zero_inside : is_inside b 0 ≡ true
  zero_inside =
      let row = has_zero_header b o flags s n is w in
      let at = row.offset in
      most_test (number.offset b 0 + file_size b 0) (length b) (omega (arith, zero_size, at))
