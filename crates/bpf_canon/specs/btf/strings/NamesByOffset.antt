-- The names at offsets of a string section.
use Rattle.std.specs.Prelude.{ℕ, List, map}
use Rattle.btf_types.specs.Reading.{text_from}

-- a string section, and the distinct offsets of names in it, in the order of first use
pub record NamesByOffset : Type 0 where
  pub strings : List ℕ
  pub offsets : List ℕ

-- the names at these offsets
abbrev pub texts_by_offset : NamesByOffset → List (List ℕ)
texts_by_offset n = map (text_from n.strings) n.offsets
