-- What the calls for canonical BTF return, and the laws of canonical BTF.
use Rattle.std.specs.Prelude.{◌≡◌, ◌≤◌, ℕ, List, length}
use Rattle.std.specs.List.{All}
use Rattle.bpf_words.specs.declared.Order.{Order, TheVariants.Little}
use Rattle.btf_raw.specs.Header.{HasNulEnds}
use Rattle.btf_types.specs.{Values.TypeRecord, Valid.IsValid, Denotes.Denotes}
use Rattle.btf_types.specs.strings.{SharedNames.hosts, SharedNames.shared_table, TableLaws.HasName}
use Rattle.bpf_canon.specs.btf.CanonicalBtf.{canonical}

-- The file denotes some records, and these are their canonical bytes in little-endian order. They are a valid file of the same records,
-- and the canonical bytes of all records that they denote.
pub record IsCanonicalBtf (bytes canon : List ℕ) : Type 0 where
  pub records : List TypeRecord
  pub file : Denotes bytes records
  pub form : canon ≡ canonical Little records
  pub accepted : Denotes canon records
  pub own : (w : List TypeRecord) → Denotes canon w → canonical Little w ≡ canon

-- canonical bytes are accepted, and denote the records that they encode
abbrev pub CanonicalBtfIsAccepted : Type 0
CanonicalBtfIsAccepted = (o : Order) (v : List TypeRecord) → IsValid v → Denotes (canonical o v) v

-- records with the same canonical bytes are equal
abbrev pub CanonicalBtfTellsApart : Type 0
CanonicalBtfTellsApart = (o : Order) (v w : List TypeRecord) → IsValid v → IsValid w → canonical o v ≡ canonical o w → v ≡ w

-- no file that denotes the records is shorter
abbrev pub CanonicalBtfIsShortest : Type 0
CanonicalBtfIsShortest = (o : Order) (b : List ℕ) (v : List TypeRecord) → Denotes b v → length (canonical o v) ≤ length b

-- a section that contains all hosts is at least as long as their table
abbrev pub HostsFitSections : Type 0
HostsFitSections = (xs : List (List ℕ)) (section : List ℕ) → HasNulEnds section → All (HasName section) (hosts xs) → length (shared_table xs) ≤ length section
