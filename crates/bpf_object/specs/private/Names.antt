-- A string table while it is written: each distinct string once, in the order of first use.
use Rattle.std.specs.Prelude.{◌≡◌, ℕ, ◌<◌, ◌≤◌, ◌^◌, ⊤, List, [], ◌∷◌, ◌++◌, Some, None, length, if◌then◌else◌}
use Rattle.std.specs.{Borrow.Bor, BTreeMap.BTreeMap, BTreeMap.get_by, Map.update, Option.unwrap_or, Ordering.nat_cmp, Ordering.is_eq, Str.bytes_eq}
use Rattle.bpf_elf.specs.Names.{string_at}
use Rattle.btf_types.specs.Names.{kept, table_of}
use Rattle.bpf_canon.specs.btf.names.Interned.{IsInTable, borrowed_texts}
use Rattle.bpf_canon.specs.btf.strings.{DistinctNames.distinct_offset, DistinctOffsets.OffsetsByText, DistinctOffsets.offset_for, DistinctOffsets.IsTableOf}
use Rattle.bpf_object.specs.declared.fault.ObjectError.{ObjectError}
use Rattle.bpf_object.specs.declared.fault.ObjectError.TheVariants as errors
use Rattle.bpf_object.specs.ObjectFaults.{IsTooLarge}

-- the strings that were written, the table that strings are read from, and how long the new one may be
pub record Strings : Type 0 where
  pub texts : List (List ℕ)
  pub source : List ℕ
  pub limit : ℕ

-- the offsets of strings that are in the table, by their offsets in another one
abbrev pub KnowsOffsets : List (List ℕ) → List ℕ → BTreeMap ℕ ℕ → Type 0
KnowsOffsets ks source by_offset =
    (off offset : ℕ) → get_by (nat_cmp off) by_offset ≡ Some offset → IsInTable ks (string_at source off) × (offset ≡ distinct_offset ks (string_at source off))

-- the strings, the length of their table, and the maps
pub record IsStringTable (ks : List (List ℕ)) (len : ℕ) (by_text : OffsetsByText) (source : List ℕ) (by_offset : BTreeMap ℕ ℕ) (limit : ℕ) : Type 0 where
  pub table : IsTableOf ks (table_of ks) by_text
  pub own : kept ks ≡ ks
  pub offsets : KnowsOffsets ks source by_offset
  pub len_is : len ≡ length (table_of ks)
  pub within : len ≤ limit
  pub limited : limit < 2 ^ 32

-- a string has the offset that it had, or else this one
pub record FindsOrStores (old new : OffsetsByText) (x : List ℕ) (offset found : ℕ) : Type 0 where
  pub found_is : found ≡ unwrap_or (offset_for old x) offset
  pub offsets : (y : List ℕ) → offset_for new y ≡ update bytes_eq (offset_for old) x (Some found) y

-- a string has no offset any more
abbrev pub Forgets : OffsetsByText → OffsetsByText → List ℕ → Type 0
Forgets old new x = (y : List ℕ) → offset_for new y ≡ update bytes_eq (offset_for old) x None y

-- a string that is shorter than the room was appended
pub record PushesText (old new : List (Bor (List ℕ))) (x : List ℕ) (room : ℕ) : Type 0 where
  pub texts : borrowed_texts new ≡ borrowed_texts old ++ x ∷ []
  pub fits : length x < room

-- it isn't shorter
abbrev pub FailsToPush : List ℕ → ℕ → ObjectError → Type 0
FailsToPush x room (errors.Fault fault) = (room ≤ length x) × IsTooLarge fault
FailsToPush x room errors.Memory = ⊤

-- an offset was stored by another one
abbrev pub Stores : BTreeMap ℕ ℕ → BTreeMap ℕ ℕ → ℕ → ℕ → Type 0
Stores old new off offset = (q : ℕ) → get_by (nat_cmp q) new ≡ (if is_eq (nat_cmp off q) then Some offset else get_by (nat_cmp q) old)

-- a string is in the new table, at this offset
pub record Adds (old new : Strings) (x : List ℕ) (offset : ℕ) : Type 0 where
  pub texts : new.texts ≡ kept (old.texts ++ x ∷ [])
  pub source : new.source ≡ old.source
  pub limit : new.limit ≡ old.limit
  pub offset_is : offset ≡ distinct_offset new.texts x

-- the table would be too long with it
abbrev pub FailsToAdd : Strings → List ℕ → ObjectError → Type 0
FailsToAdd old x (errors.Fault fault) = (old.limit < length (table_of (kept (old.texts ++ x ∷ [])))) × IsTooLarge fault
FailsToAdd old x errors.Memory = ⊤

-- a list of strings begins with those of a table, in the order of first use
abbrev pub Extends : List (List ℕ) → List (List ℕ) → Type 0
Extends all ks = (rest : List (List ℕ)) × (kept all ≡ ks ++ rest)
