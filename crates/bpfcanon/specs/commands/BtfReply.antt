-- The replies of the BTF commands to an input, if no device fails.
use Rattle.std.specs.Prelude.{◌≡◌, ◌<◌, ◌≤◌, ◌++◌, ℕ, true, false, List, [], codes, decimal, drop, length, take}
use Rattle.bpf_words.specs.declared.Order.{Order}
use Rattle.btf_raw.specs.declared.cause.BtfFault.{BtfFault}
use Rattle.btf_types.specs.{Values.TypeRecord, Denotes.Denotes, Faults.IsFirst}
use Rattle.bpf_canon.specs.btf.CanonicalBtf.{canonical}
use Rattle.bpfcanon.specs.declared.outcome.Outcome.{Outcome}
use Rattle.bpfcanon.specs.declared.outcome.Outcome.TheVariants as ends
use Rattle.bpfcanon.specs.declared.outcome.Outcome.TheVariants.{Done, Different, FirstBtf, SecondBtf, TooLong, SplitBeyond}
use Rattle.bpfcanon.specs.Outcome.{newline, verdict_line}
use Rattle.bpf_text.specs.btf.BtfText.{text_of}

-- ---- btf-canon

-- the canonical bytes of the types of a file
pub data IsBtfCanonReply (limit : ℕ) (to : Order) (input : List ℕ) : Outcome → List ℕ → Type 0 where
  written : (v : List TypeRecord) → length input ≤ limit → Denotes input v → IsBtfCanonReply limit to input Done (canonical to v)
  unwritten : (f : BtfFault) → length input ≤ limit → IsFirst input f → IsBtfCanonReply limit to input (ends.BtfFault f) []
  canon_too_long : limit < length input → IsBtfCanonReply limit to input TooLong []

-- ---- btf-show

-- the listing of the types of a file
pub data IsBtfShowReply (limit : ℕ) (input : List ℕ) : Outcome → List ℕ → Type 0 where
  shown : (v : List TypeRecord) → length input ≤ limit → Denotes input v → IsBtfShowReply limit input Done (text_of v)
  unshown : (f : BtfFault) → length input ≤ limit → IsFirst input f → IsBtfShowReply limit input (ends.BtfFault f) []
  show_too_long : limit < length input → IsBtfShowReply limit input TooLong []

-- ---- btf-check

-- the line for a valid file: its number of types
abbrev pub count_line : ℕ → List ℕ
count_line count = codes "ok " ++ (decimal count ++ (codes " types" ++ newline))

pub data IsBtfCheckReply (limit : ℕ) (input : List ℕ) : Outcome → List ℕ → Type 0 where
  checked : (v : List TypeRecord) → length input ≤ limit → Denotes input v → IsBtfCheckReply limit input Done (count_line (length v))
  unchecked : (f : BtfFault) → length input ≤ limit → IsFirst input f → IsBtfCheckReply limit input (ends.BtfFault f) []
  check_too_long : limit < length input → IsBtfCheckReply limit input TooLong []

-- ---- btf-same

-- the first file is the first `split` bytes of the input, and the second the rest
pub data IsBtfSameReply (limit split : ℕ) (input : List ℕ) : Outcome → List ℕ → Type 0 where
  same : (v : List TypeRecord) → length input ≤ limit → split ≤ length input → Denotes (take split input) v
      → Denotes (drop split input) v → IsBtfSameReply limit split input Done (verdict_line true)
  different : (v w : List TypeRecord) → length input ≤ limit → split ≤ length input → Denotes (take split input) v
      → Denotes (drop split input) w → ¬ (v ≡ w) → IsBtfSameReply limit split input Different (verdict_line false)
  first_at_fault : (f : BtfFault) → length input ≤ limit → split ≤ length input → IsFirst (take split input) f
      → IsBtfSameReply limit split input (FirstBtf f) []
  second_at_fault : (v : List TypeRecord) (f : BtfFault) → length input ≤ limit → split ≤ length input → Denotes (take split input) v
      → IsFirst (drop split input) f → IsBtfSameReply limit split input (SecondBtf f) []
  split_beyond : length input ≤ limit → length input < split → IsBtfSameReply limit split input SplitBeyond []
  files_too_long : limit < length input → IsBtfSameReply limit split input TooLong []
