-- The reply of a command to an input, if no device fails.
use Rattle.std.specs.Prelude.{◌≡◌, ◌<◌, ◌≤◌, ◌++◌, ◌*◌, ◌↔◌, ℕ, Bool, true, false, List, [], IsTrue, drop, filter, length, take}
use Rattle.std.specs.List.{flat_map}
use Rattle.bpf_words.specs.declared.Order.{Order}
use Rattle.bpf_insn.specs.declared.{insn.Insn.Insn, group.Group.Group, fault.SlotFault.SlotFault, fault.SlotCause.TheVariants.Truncated}
use Rattle.bpf_insn.specs.{Encoding.InsnFile, Encoding.file_of, Faults.IsFront, Faults.IsInsnFault}
use Rattle.bpf_insn.specs.Groups.{InGroups, all_groups, group_name}
use Rattle.bpf_canon.specs.insn.Run as engine
use Rattle.bpf_canon.specs.btf.RunBtf.{btf_limit}
use Rattle.bpf_text.specs.{declared.insn.fault.LineFault.LineFault, insn.Lines.listing_of, insn.Listing.Lists, insn.Listing.IsListFault}
use Rattle.bpfcanon.specs.{declared.job.Job.Job, declared.verb.Verb.Verb, declared.outcome.Outcome.Outcome, Outcome.newline, Outcome.verdict_line}
use Rattle.bpfcanon.specs.declared.outcome.Outcome.TheVariants.{Done, Different, Fault, FaultyLine, First, Second, TooLong, SplitBeyond}
use Rattle.bpfcanon.specs.declared.verb.Verb.TheVariants.{InsnCanon, InsnShow, InsnRead, InsnGroups, InsnSame, BtfCanon, BtfShow, BtfCheck, BtfSame}
use Rattle.bpfcanon.specs.commands.BtfReply.{IsBtfCanonReply, IsBtfShowReply, IsBtfCheckReply, IsBtfSameReply}

-- the longest input of a command in bytes: the limit of an engine, or twice that for two files
abbrev pub limit_of : Verb → ℕ
limit_of InsnCanon = engine.limit
limit_of InsnShow = engine.limit
limit_of InsnRead = engine.limit
limit_of InsnGroups = engine.limit
limit_of InsnSame = 2 * engine.limit
limit_of BtfCanon = btf_limit
limit_of BtfShow = btf_limit
limit_of BtfCheck = btf_limit
limit_of BtfSame = 2 * btf_limit

-- whether a command writes while it reads; the others first read the complete input
abbrev pub streams : Verb → Bool
streams InsnCanon = true
streams _ = false

-- whether a command writes its output in pieces, after it has read the complete input and found no fault
abbrev pub in_pieces : Verb → Bool
in_pieces InsnShow = true
in_pieces BtfShow = true
in_pieces _ = false

-- whether an engine runs a command from its source to its sink
abbrev pub has_engine : Verb → Bool
has_engine InsnCanon = true
has_engine BtfCanon = true
has_engine _ = false

-- ---- insn-canon

-- a fault that no further bytes can repair
abbrev pub HasLastingFault : Order → List ℕ → Type 0
HasLastingFault order input = (f : SlotFault) × (IsInsnFault order input f × ¬ (f.cause ≡ Truncated))

-- the outcome and output when instructions are read in one byte order and written in another
pub data IsCanonReply (limit : ℕ) (order to : Order) (input : List ℕ) : Outcome → List ℕ → Type 0 where
  -- the input is a valid sequence of instructions
  canonical : (l : List Insn) → length input ≤ limit → InsnFile order input l → IsCanonReply limit order to input Done (file_of to l)
  -- the input has a fault within the limit, and the instructions before it are written; `Truncated` is reported only at the end of the input
  canonical_to_fault : (l : List Insn) (rest : List ℕ) (f : SlotFault) → IsFront order (take limit input) l rest
      → IsInsnFault order (take limit input) f → (f.cause ≡ Truncated → length input ≤ limit)
      → IsCanonReply limit order to input (Fault f) (file_of to l)
  -- the input has no fault within the limit, but is longer
  canonical_to_limit : (l : List Insn) (rest : List ℕ) → IsFront order (take limit input) l rest
      → ¬ HasLastingFault order (take limit input) → limit < length input → IsCanonReply limit order to input TooLong (file_of to l)

-- ---- insn-show

-- the listing of the instructions of a file
pub data IsShowReply (limit : ℕ) (order : Order) (input : List ℕ) : Outcome → List ℕ → Type 0 where
  shown : (l : List Insn) → length input ≤ limit → InsnFile order input l → IsShowReply limit order input Done (listing_of l)
  unshown : (f : SlotFault) → length input ≤ limit → IsInsnFault order input f → IsShowReply limit order input (Fault f) []
  show_too_long : limit < length input → IsShowReply limit order input TooLong []

-- ---- insn-read

-- the instructions of a listing
pub data IsReadReply (limit : ℕ) (to : Order) (input : List ℕ) : Outcome → List ℕ → Type 0 where
  read_back : (l : List Insn) → length input ≤ limit → Lists input l → IsReadReply limit to input Done (file_of to l)
  unread : (f : LineFault) → length input ≤ limit → IsListFault input f → IsReadReply limit to input (FaultyLine f) []
  text_too_long : limit < length input → IsReadReply limit to input TooLong []

-- ---- insn-groups

-- the names of the groups for which the test holds, one per line
abbrev pub group_lines : (Group → Bool) → List ℕ
group_lines has = flat_map (λ g. group_name g ++ newline) (filter has all_groups)

pub data IsGroupsReply (limit : ℕ) (order : Order) (input : List ℕ) : Outcome → List ℕ → Type 0 where
  grouped : (l : List Insn) (has : Group → Bool) → length input ≤ limit → InsnFile order input l
      → ((g : Group) → IsTrue (has g) ↔ InGroups l g) → IsGroupsReply limit order input Done (group_lines has)
  ungrouped : (f : SlotFault) → length input ≤ limit → IsInsnFault order input f → IsGroupsReply limit order input (Fault f) []
  groups_too_long : limit < length input → IsGroupsReply limit order input TooLong []

-- ---- insn-same

-- the first file is the first `split` bytes of the input, and the second the rest; each has its own byte order
pub data IsSameReply (limit : ℕ) (order other : Order) (split : ℕ) (input : List ℕ) : Outcome → List ℕ → Type 0 where
  same : (l : List Insn) → length input ≤ limit → split ≤ length input → InsnFile order (take split input) l
      → InsnFile other (drop split input) l → IsSameReply limit order other split input Done (verdict_line true)
  different : (l m : List Insn) → length input ≤ limit → split ≤ length input → InsnFile order (take split input) l
      → InsnFile other (drop split input) m → ¬ (l ≡ m) → IsSameReply limit order other split input Different (verdict_line false)
  first_at_fault : (f : SlotFault) → length input ≤ limit → split ≤ length input → IsInsnFault order (take split input) f
      → IsSameReply limit order other split input (First f) []
  second_at_fault : (l : List Insn) (f : SlotFault) → length input ≤ limit → split ≤ length input → InsnFile order (take split input) l
      → IsInsnFault other (drop split input) f → IsSameReply limit order other split input (Second f) []
  split_beyond : length input ≤ limit → length input < split → IsSameReply limit order other split input SplitBeyond []
  files_too_long : limit < length input → IsSameReply limit order other split input TooLong []

-- ---- each command

-- the outcome and the output of a job
abbrev pub IsReply : Verb → Job → List ℕ → Outcome → List ℕ → Type 0
IsReply InsnCanon j input outcome output = IsCanonReply (limit_of InsnCanon) j.order j.to input outcome output
IsReply InsnShow j input outcome output = IsShowReply (limit_of InsnShow) j.order input outcome output
IsReply InsnRead j input outcome output = IsReadReply (limit_of InsnRead) j.to input outcome output
IsReply InsnGroups j input outcome output = IsGroupsReply (limit_of InsnGroups) j.order input outcome output
IsReply InsnSame j input outcome output = IsSameReply (limit_of InsnSame) j.order j.other j.split input outcome output
IsReply BtfCanon j input outcome output = IsBtfCanonReply (limit_of BtfCanon) j.to input outcome output
IsReply BtfShow j input outcome output = IsBtfShowReply (limit_of BtfShow) input outcome output
IsReply BtfCheck j input outcome output = IsBtfCheckReply (limit_of BtfCheck) input outcome output
IsReply BtfSame j input outcome output = IsBtfSameReply (limit_of BtfSame) j.split input outcome output

-- the bytes read decide the reply before the end of the input, whatever bytes follow
abbrev pub IsEarly : Verb → Job → List ℕ → Type 0
IsEarly InsnCanon j input = HasLastingFault j.order (take (limit_of InsnCanon) input)
IsEarly _ j input = ⊥
