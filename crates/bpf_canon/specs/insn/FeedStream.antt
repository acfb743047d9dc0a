-- What a feed represents: the stream of the bytes fed so far.
use Rattle.std.specs.Prelude.{◌≡◌, ◌++◌, ◌+◌, ◌-◌, ℕ, List, [], ◌∷◌, Option, Some, None, Result, Ok, Err, length, MatchResult}
use Rattle.bpf_words.specs.declared.Order.{Order}
use Rattle.bpf_insn.specs.declared.{insn.Insn.Insn, decode.InsnError.InsnError, fault.SlotFault.SlotFault, fault.SlotCause.TheVariants.Truncated}
use Rattle.bpf_insn.specs.declared.decode.InsnError.TheVariants as error
use Rattle.bpf_insn.specs.{Encoding.file_of, Encoding.InsnFile, Faults.IsFront, Faults.IsInsnFault}
use Rattle.bpf_canon.specs.insn.FeedState.{FeedState, missing_offset}

-- the bytes have this fault, and no further bytes can change it
pub record HasFault (o : Order) (b : List ℕ) (f : SlotFault) : Type 0 where
  pub fault : IsInsnFault o b f
  pub lasting : f.cause ≡ Truncated → ⊥

-- the bytes have no fault except that they may end within an instruction
abbrev pub IsSound : Order → List ℕ → Type 0
IsSound o b = (f : SlotFault) → IsInsnFault o b f → f.cause ≡ Truncated

-- without a lasting fault the rest of the stream is held; with one, that fault is kept and nothing is held
abbrev pub Keeps : Order → List ℕ → List ℕ → List ℕ → Option SlotFault → Type 0
Keeps o b rest held None = IsSound o b × (held ≡ rest)
Keeps o b rest held (Some f) = HasFault o b f × (held ≡ [])

-- the feed represents the bytes that it was given, read in one byte order and written in another
pub record Represents (s : FeedState) (o to : Order) (b : List ℕ) : Type 0 where
  pub reads : s.order ≡ o
  pub writes : s.to ≡ to
  pub fed : s.fed ≡ length b
  pub insns : List Insn
  pub rest : List ℕ
  pub front : IsFront o b insns rest
  pub count : s.count ≡ length insns
  pub keeps : Keeps o b rest s.held s.fault

-- if the stream b is extended by `more`, the output grows by the bytes of the instructions that are now complete
pub record Gains (o to : Order) (b more old new : List ℕ) : Type 0 where
  pub before : List Insn
  pub rest : List ℕ
  pub front : IsFront o b before rest
  pub gained : List Insn
  pub left : List ℕ
  pub longer : IsFront o (b ++ more) (before ++ gained) left
  pub grows : new ≡ old ++ file_of to gained

-- a feed that represented a stream represents it with the piece, and the output has gained the instructions that are now complete
pub record Moves (s t : FeedState) (piece old new : List ℕ) : Type 0 where
  pub represents : (o to : Order) (b : List ℕ) → Represents s o to b → Represents t o to (b ++ piece)
  pub gains : (o to : Order) (b : List ℕ) → Represents s o to b → Gains o to b piece old new

-- the fault in an error is a lasting fault of the stream
abbrev pub IsLastingFaultOf : Order → List ℕ → InsnError → Type 0
IsLastingFaultOf o b (error.Fault f) = HasFault o b f
IsLastingFaultOf o b error.Memory = Unit {0}

-- the call succeeds if the stream has no lasting fault, and otherwise returns that fault
abbrev pub AnswersFor : {T : Type 0} → Order → List ℕ → Result T InsnError → Type 0
AnswersFor o b r = MatchResult r (λ _. IsSound o b) (IsLastingFaultOf o b)

-- what a piece does to a feed and its output: they move on to the longer stream, or nothing changes
abbrev pub Feeds : FeedState → FeedState → List ℕ → List ℕ → List ℕ → Result (Unit {0}) InsnError → Type 0
Feeds s t piece old new (Ok done) = Moves s t piece old new × ((t.fault ≡ None) × (t.fed ≡ s.fed + length piece))
Feeds s t piece old new (Err (error.Fault f)) =
    Moves s t piece old new × ((t.fault ≡ Some f) × ((t.held ≡ []) × (t.fed ≡ s.fed + length piece)))
Feeds s t piece old new (Err error.Memory) = (t ≡ s) × (new ≡ old)

-- the number of instructions in the stream, or its first fault
abbrev pub Finishes : Order → List ℕ → Result ℕ SlotFault → Type 0
Finishes o b r = MatchResult r (λ n. (l : List Insn) × (InsnFile o b l × (n ≡ length l))) (IsInsnFault o b)

-- how a stream ends after `fed` bytes and `count` instructions: with the fault that is kept, with the count, or with
-- the offset of the slot whose bytes are missing
abbrev pub end_after : ℕ → ℕ → List ℕ → Option SlotFault → Result ℕ SlotFault
end_after fed count held (Some f) = Err f
end_after fed count [] None = Ok count
end_after fed count (x ∷ xs) None =
    Err (record { pos = fed - length (x ∷ xs) + missing_offset (length (x ∷ xs)); cause = Truncated })

-- how the stream of a feed ends
abbrev pub end_of_feed : FeedState → Result ℕ SlotFault
end_of_feed s = end_after s.fed s.count s.held s.fault
