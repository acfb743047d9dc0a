-- The offsets of a record's fields (btf.rst section 2.2). The invariant of `Record` cites this.
use Rattle.std.specs.Prelude.{◌≡◌, ℕ, ◌+◌, ◌*◌, ◌≤◌, List, length}
use Rattle.bpf_words.specs.declared.Order.{Order}
use Rattle.btf_raw.specs.Frames.{info_word}
use Rattle.btf_types.specs.Reading.{frame_at}

-- the fields at this offset are within the type section, and info is the second of them
pub record AreWordsAt (o : Order) (types : List ℕ) (pos info : ℕ) : Type 0 where
  pub inside : pos + 4 * length (frame_at o types pos) ≤ length types
  pub info_is : info ≡ info_word (frame_at o types pos)
