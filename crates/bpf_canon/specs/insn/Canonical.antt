-- Canonical bytes: instructions in little-endian order.
use Rattle.std.specs.Prelude.{◌≡◌, ◌↔◌, ℕ, Bool, List, IsTrue, All}
use Rattle.bpf_words.specs.declared.Order.{Order, TheVariants.Little}
use Rattle.bpf_insn.specs.declared.{insn.Insn.Insn, fault.SlotFault.SlotFault, decode.InsnError.InsnError}
use Rattle.bpf_insn.specs.declared.decode.InsnError.TheVariants as error
use Rattle.bpf_insn.specs.{Table.IsInsn, Faults.IsInsnFault, Encoding.InsnFile, Encoding.file_of}
use Rattle.bpf_canon.specs.declared.engine.SideError.{SideError}
use Rattle.bpf_canon.specs.declared.engine.SideError.TheVariants as side

-- the bytes are a file of some instructions, and these are its canonical bytes
pub record IsCanonical (o : Order) (bytes canon : List ℕ) : Type 0 where
  pub insns : List Insn
  pub file : InsnFile o bytes insns
  pub canonical : canon ≡ file_of Little insns

-- whether two files hold the same instructions, which is whether their canonical bytes are equal
pub record Compares (o : Order) (a : List ℕ) (p : Order) (b : List ℕ) (same : Bool) : Type 0 where
  pub first : List Insn
  pub second : List Insn
  pub first_file : InsnFile o a first
  pub second_file : InsnFile p b second
  pub lists : IsTrue same ↔ (first ≡ second)
  pub canonical : IsTrue same ↔ (file_of Little first ≡ file_of Little second)

-- the fault in an error is that of the bytes
abbrev pub NamesFault : Order → List ℕ → InsnError → Type 0
NamesFault o b (error.Fault f) = IsInsnFault o b f
NamesFault o b error.Memory = Unit {0}

-- the fault is that of the first file, or that of the second if the first has none
abbrev pub NamesSide : Order → List ℕ → Order → List ℕ → SideError SlotFault → Type 0
NamesSide o a p b (side.First f) = IsInsnFault o a f
NamesSide o a p b (side.Second f) = ((l : List Insn) × InsnFile o a l) × IsInsnFault p b f
NamesSide o a p b side.Memory = Unit {0}

-- canonical bytes are accepted, and denote the instructions that they encode
abbrev pub CanonicalBytesAreAccepted : Type 0
CanonicalBytesAreAccepted = (l : List Insn) → All IsInsn l → InsnFile Little (file_of Little l) l

-- canonical bytes canonicalise to themselves
abbrev pub CanonicalBytesAreTheirOwn : Type 0
CanonicalBytesAreTheirOwn = (o : Order) (bytes canon : List ℕ) → IsCanonical o bytes canon → IsCanonical Little canon canon

-- two files denote the same instructions if and only if their canonical bytes are equal
abbrev pub CanonicalBytesTellFilesApart : Type 0
CanonicalBytesTellFilesApart = (o p : Order) (a b : List ℕ) (l m : List Insn) → InsnFile o a l → InsnFile p b m → (l ≡ m) ↔ (file_of Little l ≡ file_of Little m)
