-- What the comparison of two BTF files returns.
use Rattle.std.specs.Prelude.{◌≡◌, ◌↔◌, ℕ, Bool, List, IsTrue, ⊤}
use Rattle.bpf_words.specs.declared.Order.TheVariants.{Little}
use Rattle.btf_raw.specs.declared.cause.BtfFault.{BtfFault}
use Rattle.btf_types.specs.{Values.TypeRecord, Denotes.Denotes, Faults.IsFirst}
use Rattle.btf_types.specs.declared.error.BtfError.{BtfError}
use Rattle.btf_types.specs.declared.error.BtfError.TheVariants as errors
use Rattle.bpf_canon.specs.{btf.CanonicalBtf.canonical, declared.engine.SideError.SideError}
use Rattle.bpf_canon.specs.declared.engine.SideError.TheVariants as side

-- whether two files denote the same records, which is whether their canonical bytes are equal
pub record ComparesBtf (a b : List ℕ) (same : Bool) : Type 0 where
  pub first : List TypeRecord
  pub second : List TypeRecord
  pub first_file : Denotes a first
  pub second_file : Denotes b second
  pub records : IsTrue same ↔ (first ≡ second)
  pub forms : IsTrue same ↔ (canonical Little first ≡ canonical Little second)

-- the fault is the first of the first file, or that of the second if the first has none
abbrev pub NamesBtfSide : List ℕ → List ℕ → SideError BtfFault → Type 0
NamesBtfSide a b (side.First f) = IsFirst a f
NamesBtfSide a b (side.Second f) = ((v : List TypeRecord) × Denotes a v) × IsFirst b f
NamesBtfSide a b side.Memory = ⊤

-- the error of the comparison, by the error of one file; `Names` relates the fault of that file to the error
abbrev pub IsOnSide : (BtfFault → SideError BtfFault → Type 0) → BtfError → SideError BtfFault → Type 0
IsOnSide Names (errors.Fault f) error = Names f error
IsOnSide Names errors.Memory error = error ≡ side.Memory
