-- What the call that decodes the types of BTF returns to C.
use Rattle.std.specs.Prelude.{◌≡◌, ◌<◌, ◌≤◌, ◌+◌, ◌*◌, ◌++◌, ◌⊎◌, ℕ, List, length, drop}
use Rattle.std.specs.List.{AllZip}
use Rattle.btf_types.specs.{Values.TypeRecord, Denotes.Denotes}
use Rattle.bpfcanon_c.specs.declared.answer.{Answer.Answer}
use Rattle.bpfcanon_c.specs.declared.btf_rows.{TypeRow.TypeRow, ItemRow.ItemRow}
use Rattle.bpfcanon_c.specs.declared.btf_decode.RowsEnding.{RowsEnding, TheVariants.Decoded, TheVariants.Faulty, TheVariants.Memory, TheVariants.Room}
use Rattle.bpfcanon_c.specs.{Outputs.IsBtfCode, Answers.bare_answer, Answers.fault_answer}
use Rattle.bpfcanon_c.specs.BtfRows.{SaysItem, SaysType, items_in, items_of, types_in}

-- the records of the types that the file denotes, and of their items: arrays of a twelfth and an eighth of its length are long enough
pub record IsDecodedBtf (bytes : List ℕ) (types : List TypeRow) (items : List ItemRow) : Type 0 where
  pub v : List TypeRecord
  pub denotes : Denotes bytes v
  pub types_say : AllZip (SaysType denotes.order bytes) types (types_in denotes.order bytes v)
  pub items_say : AllZip (SaysItem denotes.order bytes) items (items_in denotes.order bytes v)
  pub fits : 12 * length types + 8 * length items ≤ length bytes

-- the numbers of types and of items, if an array of `types` or of `items` records is too short
pub record NeedsRows (bytes : List ℕ) (types items n m : ℕ) : Type 0 where
  pub v : List TypeRecord
  pub denotes : Denotes bytes v
  pub count : n ≡ length v
  pub total : m ≡ length (items_of v)
  pub short : (types < n) ⊎ (items < m)
  pub fits : 12 * n + 8 * m ≤ length bytes

-- the arrays begin with these records, as many as these numbers, and the rest of them is unchanged
pub record FillsBoth (bytes : List ℕ) (types types' : List TypeRow) (items items' : List ItemRow) (n m : ℕ) : Type 0 where
  pub rows : List TypeRow
  pub item_rows : List ItemRow
  pub decoded : IsDecodedBtf bytes rows item_rows
  pub count : n ≡ length rows
  pub total : m ≡ length item_rows
  pub types_are : types' ≡ rows ++ drop n types
  pub items_are : items' ≡ item_rows ++ drop m items

-- how the call ends: the arrays are unchanged unless records were written
abbrev pub EndsBtfRows : List ℕ → List TypeRow → List TypeRow → List ItemRow → List ItemRow → RowsEnding → Type 0
EndsBtfRows bytes types types' items items' (Decoded n m) = FillsBoth bytes types types' items items' n m
EndsBtfRows bytes types types' items items' (Room n m) = NeedsRows bytes (length types) (length items) n m × ((types' ≡ types) × (items' ≡ items))
EndsBtfRows bytes types types' items items' (Faulty code) = IsBtfCode bytes code × ((types' ≡ types) × (items' ≡ items))
EndsBtfRows bytes types types' items items' Memory = (types' ≡ types) × (items' ≡ items)

abbrev pub rows_answer_of : RowsEnding → Answer
rows_answer_of (Decoded n m) = record (bare_answer 0) { written = m; types = n }
rows_answer_of (Room n m) = record (bare_answer 5) { needed = m; types = n }
rows_answer_of (Faulty f) = fault_answer 2 f
rows_answer_of Memory = bare_answer 4

-- what the call that decodes BTF returns: the answer of one of its endings
pub record AnswersBtfDecode (bytes : List ℕ) (types types' : List TypeRow) (items items' : List ItemRow) (a : Answer) : Type 0 where
  pub ending : RowsEnding
  pub answers : a ≡ rows_answer_of ending
  pub holds : EndsBtfRows bytes types types' items items' ending
