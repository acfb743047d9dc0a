-- Which names of VAR a FUNC has.
use Rattle.std.specs.Prelude.{◌≡◌, ℕ, ◌==◌, ◌||◌, ◌&&◌, ◌↔◌, true, false, Bool, List, [], ◌∷◌, map, slice_index, slice_index_or}
use Rattle.std.specs.{Borrow.Bor, Cmp.Lexicographic.slice_cmp, List.Contains, List.filter}
use Rattle.std.specs.List.Sorted.{IsSortedBy}
use Rattle.std.specs.Ordering.{is_lt, nat_cmp}
use Rattle.bpf_elf.specs.Names.{string_at}
use Rattle.btf_raw.specs.KindNumbers.{FWD, VAR, TYPE_TAG}
use Rattle.btf_raw.specs.Kinds.{one_of}
use Rattle.btf_raw.specs.Frames.{name_word, kind}
use Rattle.btf_types.specs.Sections.{SectionWords}
use Rattle.bpf_object.specs.Types.{is_func_name}
use Rattle.bpf_object.specs.private.NameRanks.{text_key, name_key}

-- the offsets of the names of the records of a kind
abbrev pub names_of : ℕ → List (List ℕ) → List ℕ
names_of k frames = map name_word (filter (λ f. kind f == k) frames)

-- what a name is sorted by: its length, and then its bytes
abbrev pub key_of : ℕ × Bor (List ℕ) → List ℕ
key_of name = name.0 ∷ name.1.now

abbrev pub AreSorted : List (ℕ × Bor (List ℕ)) → Type 0
AreSorted names = IsSortedBy (λ a b. is_lt (slice_cmp nat_cmp (key_of a) (key_of b))) names

-- the names of all FUNC, sorted
pub record AreFuncNames (s : SectionWords) (names : List (ℕ × Bor (List ℕ))) : Type 0 where
  pub sorted : AreSorted names
  pub all : (text : List ℕ) → Contains (map key_of names) (text_key text) ↔ (is_func_name s text ≡ true)

-- an offset is marked if the name there is among others
abbrev pub IsMarked : List ℕ → List (ℕ × Bor (List ℕ)) → List Bool → ℕ → Type 0
IsMarked strings names marks off = (slice_index_or marks off false ≡ true) ↔ Contains (map key_of names) (name_key strings off)

-- the offsets of the names of VAR are marked if a FUNC has this name
abbrev pub AreMarks : SectionWords → List Bool → Type 0
AreMarks s marks =
    (off : ℕ) → Contains (names_of VAR s.frames) off → slice_index_or marks off false ≡ is_func_name s (string_at s.strings off)

-- by these marks, the name of a record is taken
abbrev pub is_taken : List ℕ → List Bool → List ℕ → Bool
is_taken strings marks f =
    kind f == VAR && slice_index_or marks (name_word f) false
    || one_of (VAR ∷ FWD ∷ TYPE_TAG ∷ []) (kind f) && slice_index strings (name_word f) == 0x2e
