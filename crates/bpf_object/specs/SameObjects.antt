-- What the comparison of two object files returns.
use Rattle.std.specs.Prelude.{◌≡◌, ◌↔◌, ℕ, Bool, List, IsTrue, ⊤}
use Rattle.bpf_canon.specs.declared.engine.SideError.{SideError}
use Rattle.bpf_canon.specs.declared.engine.SideError.TheVariants as side
use Rattle.bpf_object.specs.declared.fault.{ObjectError.ObjectError, ObjectFault.ObjectFault}
use Rattle.bpf_object.specs.declared.fault.ObjectError.TheVariants as errors
use Rattle.bpf_object.specs.{Canonical.canonical, Denotes.Denotes, ObjectFaults.IsFault, Objects.Object}

-- whether two files denote one object, which is whether their canonical files are equal
pub record ComparesObjects (a b : List ℕ) (same : Bool) : Type 0 where
  pub first : Object
  pub second : Object
  pub first_file : Denotes a first
  pub second_file : Denotes b second
  pub objects : IsTrue same ↔ (first ≡ second)
  pub files : IsTrue same ↔ (canonical first ≡ canonical second)

-- the fault is that of the first file, or that of the second one if the first denotes an object
abbrev pub NamesObjectSide : List ℕ → List ℕ → SideError ObjectFault → Type 0
NamesObjectSide a b (side.First fault) = IsFault a fault
NamesObjectSide a b (side.Second fault) = ((x : Object) × Denotes a x) × IsFault b fault
NamesObjectSide a b side.Memory = ⊤

-- the error of the comparison, by the error of one of its files
abbrev pub on_first : ObjectError → SideError ObjectFault
on_first (errors.Fault fault) = side.First fault
on_first errors.Memory = side.Memory

abbrev pub on_second : ObjectError → SideError ObjectFault
on_second (errors.Fault fault) = side.Second fault
on_second errors.Memory = side.Memory
