-- The offsets of names in the frames of a section.
use Rattle.std.specs.Prelude.{ℕ, ◌+◌, ◌*◌, ◌<◌, List, [], ◌∷◌, slice_index, if◌then◌else◌}
use Rattle.std.specs.List.{All, Contains, flat_map}
use Rattle.btf_raw.specs.{Kinds.item_words, Kinds.has_item_names, Frames.name_word, Frames.kind, Frames.vlen}
use Rattle.btf_types.specs.Reading.{tabulate}
use Rattle.bpf_canon.specs.btf.strings.NamesByOffset.{NamesByOffset}

-- the first 32-bit word of item k
abbrev pub item_word : List ℕ → ℕ → ℕ
item_word frame k = slice_index frame (3 + item_words (kind frame) * k)

-- the offsets of a record's names: its own, then those of its items
abbrev pub name_offsets : List ℕ → List ℕ
name_offsets frame = name_word frame ∷ (if has_item_names (kind frame) then tabulate (item_word frame) (vlen frame) else [])

-- the offsets of the names of all records, in sequence
abbrev pub all_offsets : List (List ℕ) → List ℕ
all_offsets frames = flat_map name_offsets frames

-- the offsets of a record's names are among the noted offsets
abbrev pub HasNotedNames : NamesByOffset → List ℕ → Type 0
HasNotedNames names frame = All (Contains names.offsets) (name_offsets frame)

-- an offset is inside a section of this length
abbrev pub IsBelow : ℕ → ℕ → Type 0
IsBelow len offset = offset < len
