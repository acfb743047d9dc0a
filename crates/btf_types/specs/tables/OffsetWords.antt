-- A record at an offset of a section.
use Rattle.std.specs.Prelude.{◌≡◌, ◌⊎◌, ℕ, ◌+◌, ◌*◌, ◌^◌, ◌<◌, ◌≤◌, IsTrue, List, length, slice_index}
use Rattle.bpf_words.specs.declared.Order.{Order}
use Rattle.btf_raw.specs.{KindNumbers.DECL_TAG, Header.HasNulEnds, Names.NameAt}
use Rattle.btf_raw.specs.{Kinds.item_words, Kinds.has_item_names, Frames.IsFrame, Frames.kind, Frames.name_word}
use Rattle.btf_types.specs.{Encoding.Encodes, Reading.frame_at, Reading.record_of, Reading.text_from, Reading.item_total}

-- the words are a frame, and they encode the record that they decode to
pub record ReadsRecord (strings words : List ℕ) : Type 0 where
  pub ends : HasNulEnds strings
  pub frame : IsFrame words
  pub encoded : Encodes strings (record_of strings words) words
  pub name : NameAt strings (name_word words) (text_from strings (name_word words))
  pub component : kind words ≡ DECL_TAG → (slice_index words 3 ≡ 0xffffffff) ⊎ (slice_index words 3 < 2 ^ 16)
  pub item_names : (k : ℕ) → k < item_total words → IsTrue (has_item_names (kind words))
      → NameAt strings (slice_index words (3 + item_words (kind words) * k)) (text_from strings (slice_index words (3 + item_words (kind words) * k)))

-- such words are at this offset
pub record HasRecordAt (o : Order) (types strings : List ℕ) (pos : ℕ) : Type 0 where
  pub inside : pos + 4 * length (frame_at o types pos) ≤ length types
  pub reads : ReadsRecord strings (frame_at o types pos)
