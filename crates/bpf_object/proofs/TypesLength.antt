-- The length of the records of .BTF doesn't depend on the offsets of their names.
use Rattle.std.proofs.Common.{◌≡◌, ℕ, ◌+◌, ◌<◌, ◌≤◌, true, false, List, [], ◌∷◌, ◌++◌, length, refl, sym, ◌∙◌, length-append, arith}
use Rattle.std.specs.{Prelude.nat_le, List.flat_map}
use Rattle.std.proofs.lemmas.Bool.Decides.{nat_tests}
use Rattle.bpf_words.specs.declared.Order.{Order}
use Rattle.btf_raw.specs.Frames.{bytes_of, section_of}
use Rattle.btf_raw.specs.Header.{header}
use Rattle.btf_raw.proofs.{Cuts.length-header, Frames.length-bytes_of}
use Rattle.btf_types.specs.Encoding.{head_tail}
use Rattle.btf_types.specs.Values.{TypeItem, Member, EnumValue, Value64, Param, Entry, TypeRecord}
use Rattle.btf_types.specs.{Sections.SectionWords, Sections.records_in, strings.StringTable.offset_of, tables.TableInvariant.IsTable}
use Rattle.bpf_canon.specs.btf.CanonicalBtf.{words_of_item, record_words}
use Rattle.bpf_canon.proofs.BtfLemmas.Write.SectionFiles.{types_same}
use Rattle.bpf_canon.specs.btf.strings.{NamesByOffset.NamesByOffset, NamesByOffset.texts_by_offset, DistinctNames.distinct_table}
use Rattle.bpf_object.specs.Canonical.{types_bytes}
use Rattle.bpf_object.specs.private.NotedStrings.{text_offset}
use Rattle.bpf_object.specs.private.WrittenTypes.{written_btf}

module _ (p q : List ℕ → ℕ) where
  item_length : (i : TypeItem) → length (words_of_item p i) ≡ length (words_of_item q i)
  item_length (Member name target bit_offset width) = refl
  item_length (EnumValue name value) = refl
  item_length (Value64 name value) = refl
  item_length (Param name target) = refl
  item_length (Entry target offset size) = refl

  items_length : (items : List TypeItem) → length (flat_map (words_of_item p) items) ≡ length (flat_map (words_of_item q) items)
  items_length [] = refl
  items_length (i ∷ items) =
      omega (
        arith,
        length-append (words_of_item p i) (flat_map (words_of_item p) items),
        length-append (words_of_item q i) (flat_map (words_of_item q) items),
        item_length i,
        items_length items,
      )

  record_length : (r : TypeRecord) → length (record_words p r) ≡ length (record_words q r)
  record_length r =
      omega (
        arith,
        length-append (head_tail r.head) (flat_map (words_of_item p) r.items),
        length-append (head_tail r.head) (flat_map (words_of_item q) r.items),
        items_length r.items,
      )

  records_length : (o : Order) (v : List TypeRecord) → length (types_bytes o p v) ≡ length (types_bytes o q v)
  records_length o [] = refl
  records_length o (r ∷ v) =
      omega (
        arith,
        length-append (bytes_of o (record_words p r)) (types_bytes o p v),
        length-append (bytes_of o (record_words q r)) (types_bytes o q v),
        length-bytes_of o (record_words p r),
        length-bytes_of o (record_words q r),
        record_length r,
        records_length o v,
      )

-- it is that of the records that are read
pub types_length : (s : SectionWords) → IsTable s → (from o : Order) (place : List ℕ → ℕ) (types : List ℕ) → types ≡ section_of from s.frames
    → length (types_bytes o place (records_in s)) ≡ length types
types_length s table from o place types is =
    records_length place (offset_of (records_in s)) o (records_in s) ∙ sym (types_same s table from o types is)

-- .BTF with these strings
module _ (o : Order) (s : SectionWords) (names : NamesByOffset) (types_len table_len : ℕ) (types_is : length (types_bytes o (text_offset names) (records_in s)) ≡ types_len)
    (table_is : table_len ≡ length (distinct_table (texts_by_offset names))) where
  abbrev types : List ℕ
  types = types_bytes o (text_offset names) (records_in s)

  abbrev strings : List ℕ
  strings = distinct_table (texts_by_offset names)

  btf_length : length (written_btf o s names) ≡ 24 + types_len + table_len
  btf_length =
      let front = header o 24 0 (length types) (length types) (length strings) in
      omega (
        arith,
        length-append (front ++ types) strings,
        length-append front types,
        length-header o 24 0 (length types) (length types) (length strings) (omega arith),
        types_is,
        table_is,
      )

  pub btf_pushed : (a b out : List ℕ) → a ≡ header o 24 0 types_len types_len table_len → b ≡ a ++ types → out ≡ b ++ strings → out ≡ written_btf o s names
  btf_pushed a b out front more whole = rw (whole, more, front, ← types_is, table_is) refl

  pub btf_short : (limit : ℕ) → nat_le (24 + types_len + table_len) limit ≡ true → length (written_btf o s names) ≤ limit
  btf_short limit is =
      let le : 24 + types_len + table_len ≤ limit = grind (arith, nat_tests) in
      omega (arith, le, btf_length)

  pub btf_long : (limit : ℕ) → nat_le (24 + types_len + table_len) limit ≡ false → limit < length (written_btf o s names)
  btf_long limit is =
      let lt : limit < 24 + types_len + table_len = grind (arith, nat_tests) in
      omega (arith, lt, btf_length)
