-- The reply of btf-same, by the result of the comparison.
use Rattle.std.proofs.Common.{◌≡◌, ◌≤◌, ℕ, Bool, true, false, List, [], drop, length, take, refl}
use Rattle.btf_raw.specs.declared.cause.BtfFault.{BtfFault}
use Rattle.bpf_canon.specs.btf.SameBtf.{ComparesBtf, NamesBtfSide}
use Rattle.bpf_canon.specs.declared.engine.SideError.TheVariants as side
use Rattle.bpfcanon.specs.{declared.outcome.Outcome.TheVariants.SecondBtf, Outcome.verdict_line, Outcome.verdict_outcome}
use Rattle.bpfcanon.specs.commands.BtfReply.{IsBtfSameReply, different, same, second_at_fault}

-- the reply to two valid files
pub compared : (limit split : ℕ) (input : List ℕ) → length input ≤ limit → split ≤ length input
    → (s : Bool) → ComparesBtf (take split input) (drop split input) s → IsBtfSameReply limit split input (verdict_outcome s) (verdict_line s)
compared limit split input within inside true found =
    let one = found.records.0 refl in same found.first within inside found.first_file (rw one found.second_file)
compared limit split input within inside false found =
    different found.first found.second within inside found.first_file found.second_file (λ e. let bad : false ≡ true = found.records.1 e in cc)

pub second_faulty : (limit split : ℕ) (input : List ℕ) (f : BtfFault) → length input ≤ limit → split ≤ length input
    → NamesBtfSide (take split input) (drop split input) (side.Second f) → IsBtfSameReply limit split input (SecondBtf f) []
second_faulty limit split input f within inside found = second_at_fault found.0.0 f within inside found.0.1 found.1
