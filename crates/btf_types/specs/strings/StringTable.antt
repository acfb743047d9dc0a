-- The string table of a canonical section, and the offset of a name in it: what canonical bytes are defined by.
use Rattle.std.specs.Prelude.{ℕ, List}
use Rattle.btf_types.specs.{Names.names, Values.TypeRecord, strings.SharedNames.shared_table, strings.SharedNames.shared_offset}

abbrev pub string_table : List TypeRecord → List ℕ
string_table v = shared_table (names v)

abbrev pub offset_of : List TypeRecord → List ℕ → ℕ
offset_of v x = shared_offset (names v) x
