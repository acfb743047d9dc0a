-- The offsets into its two sections that a table keeps. The invariants of the tables cite them.
use Rattle.std.specs.Prelude.{ℕ, List}
use Rattle.bpf_words.specs.declared.Order.{Order}
use Rattle.btf_types.specs.{Values.TypeRecord, Reading.records_at, tables.StringEnds.AreLongEnds, tables.TableInvariant.IsChecked}

-- the offsets of the records in the types, and those of the ends of the long strings
pub record TableOffsets : Type 0 where
  pub records : List ℕ
  pub ends : List ℕ

-- what a table means: a list of records, which are read at the offsets that it keeps
abbrev pub TypeRecords : Type 0
TypeRecords = List TypeRecord

-- the records that are read at the offsets that a table keeps
abbrev pub placed_records : Order → List ℕ → List ℕ → TableOffsets → TypeRecords
placed_records o types strings offsets = records_at o types strings offsets.records

-- the records at the offsets that a table keeps are framed, without fault, encoded there and valid
pub record IsPlacedTable (o : Order) (types strings : List ℕ) (offsets : TableOffsets) : Type 0 where
  pub table : IsChecked o types strings offsets.records
  pub ends : AreLongEnds strings offsets.ends
