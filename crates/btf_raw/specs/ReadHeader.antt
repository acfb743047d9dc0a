-- What the numbers of a header mean.
use Rattle.std.specs.Prelude.{◌≡◌, ◌⊎◌, ℕ, ◌+◌, ◌<◌, ◌≤◌, List, length, slice_index}
use Rattle.bpf_words.specs.{declared.Order.Order, Words.word16_at, Words.word32_at}
use Rattle.btf_raw.specs.declared.header.Header.{Header}
use Rattle.btf_raw.specs.Header.{Cut, part, types_at, strings_at, HEADER_LIMIT, TYPES_LIMIT, STRINGS_LIMIT}

-- what the numbers of a header mean (btf.rst section 2)
pub record ReadsHeader (b : List ℕ) (h : Header) : Type 0 where
  pub cut : Cut b h.order (part b h.types_pos h.types_len) (part b h.str_pos h.str_len)
  pub types_pos : h.types_pos ≡ types_at h.order b
  pub str_pos : h.str_pos ≡ strings_at h.order b
  pub types_there : h.types_pos + h.types_len ≤ length b
  pub strings_there : h.str_pos + h.str_len ≤ length b

-- after the first causes: the file has a header with a byte order, version 1 and no flags
pub record StartIsRight (b : List ℕ) (o : Order) : Type 0 where
  pub there : 24 ≤ length b
  pub order : word16_at o b 0 ≡ 0xeb9f
  pub version : slice_index b 2 ≡ 1
  pub flags : slice_index b 3 ≡ 0

-- after the next two: the length of the header is right, and zeros fill it
pub record LengthIsRight (b : List ℕ) (o : Order) (n : ℕ) : Type 0 where
  pub start : StartIsRight b o
  pub word : n ≡ word32_at o b 4
  pub at_least : 24 ≤ n
  pub at_most : n ≤ HEADER_LIMIT
  pub inside : n ≤ length b
  pub zeros : (q : ℕ) → 24 ≤ q → q < n → slice_index b q ≡ 0

-- after the others: the sections fill the rest of the file, in either order, within their limits
pub record SectionsAreRight (b : List ℕ) (h : Header) : Type 0 where
  pub header_len : ℕ
  pub len : LengthIsRight b h.order header_len
  pub types_len : h.types_len ≡ word32_at h.order b 12
  pub str_len : h.str_len ≡ word32_at h.order b 20
  pub types_pos : h.types_pos ≡ header_len + word32_at h.order b 8
  pub str_pos : h.str_pos ≡ header_len + word32_at h.order b 16
  pub types_fit : h.types_len ≤ TYPES_LIMIT
  pub some_strings : 0 < h.str_len
  pub strings_fit : h.str_len ≤ STRINGS_LIMIT
  pub fill : header_len + h.types_len + h.str_len ≡ length b
  pub order_of_sections :
      ((word32_at h.order b 8 ≡ 0) × (word32_at h.order b 16 ≡ h.types_len)) ⊎ ((word32_at h.order b 16 ≡ 0) × (word32_at h.order b 8 ≡ h.str_len))
