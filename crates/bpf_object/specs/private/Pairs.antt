-- Groups of functions and lines by the names of their sections.
use Rattle.std.specs.Prelude.{◌≡◌, ℕ, ◌<◌, true, List, Option, Some, None, length, slice_index_or}
use Rattle.std.specs.{Borrow.Bor, BTreeMap.BTreeMap, BTreeMap.get_by, Cmp.Lexicographic.slice_cmp, Map.update, Ordering.nat_cmp, Ordering.ordering_then, Str.bytes_eq}
use Rattle.bpf_elf.specs.{Numbers.count, Sections.name}
use Rattle.bpf_object.specs.declared.{extension.Part.Part, pairs.Pair.Pair, source.Source.Source}
use Rattle.bpf_object.specs.declared.extension.Part.TheVariants.{Functions}
use Rattle.bpf_object.specs.FunctionLines.{pair_in}
use Rattle.bpf_object.specs.Lines.{ascends}
use Rattle.bpf_object.specs.Sources.{section, HasGroup}

-- pairs by names, which are sorted by their lengths first
abbrev pub PairsByName : Type 0
PairsByName = BTreeMap (ℕ × Bor (List ℕ)) Pair

-- the pair of a name
abbrev pub pair_for : PairsByName → List ℕ → Option Pair
pair_for by_name name = get_by (λ key. ordering_then (nat_cmp (length name) key.0) (slice_cmp nat_cmp name key.1.now)) by_name

-- a pair was stored by a name
abbrev pub StoresPair : PairsByName → PairsByName → List ℕ → Pair → Type 0
StoresPair old new name pair = (y : List ℕ) → pair_for new y ≡ update bytes_eq (pair_for old) name (Some pair) y

-- groups of functions and of lines, the groups of a part, are there, and their offsets ascend
pub record IsPair (x : Source) (p : Part) (pair : Pair) : Type 0 where
  pub functions : HasGroup x Functions pair.functions
  pub lines : HasGroup x p pair.lines
  pub functions_ascend : ascends (section x) Functions pair.functions ≡ true
  pub lines_ascend : ascends (section x) p pair.lines ≡ true

-- the map has the first of these pairs for each name
pub record HasPairs (x : Source) (p : Part) (pairs : List Pair) (by_name : PairsByName) : Type 0 where
  pub found : (name : List ℕ) → pair_for by_name name ≡ pair_in (section x) pairs name
  pub each : (name : List ℕ) (pair : Pair) → pair_for by_name name ≡ Some pair → IsPair x p pair

-- for each section of a file, the first of these pairs for its name
pub record HasSectionPairs (b : List ℕ) (x : Source) (p : Part) (pairs : List Pair) (by_section : List (Option Pair)) : Type 0 where
  pub length_is : length by_section ≡ count b
  pub found : (i : ℕ) → i < count b → slice_index_or by_section i None ≡ pair_in (section x) pairs (name b i)
  pub each : (i : ℕ) (pair : Pair) → i < count b → slice_index_or by_section i None ≡ Some pair → IsPair x p pair
