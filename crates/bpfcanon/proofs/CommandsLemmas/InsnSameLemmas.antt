-- The reply of insn-same, by the result of the comparison.
use Rattle.std.proofs.Common.{◌≡◌, ◌≤◌, ℕ, Bool, true, false, List, [], drop, length, take, refl}
use Rattle.bpf_words.specs.declared.Order.{Order}
use Rattle.bpf_insn.specs.declared.fault.SlotFault.{SlotFault}
use Rattle.bpf_canon.specs.insn.Canonical.{Compares, NamesSide}
use Rattle.bpf_canon.specs.declared.engine.SideError.TheVariants as side
use Rattle.bpfcanon.specs.declared.outcome.Outcome.TheVariants.{Second}
use Rattle.bpfcanon.specs.commands.Reply.{IsSameReply, different, same, second_at_fault}
use Rattle.bpfcanon.specs.Outcome.{verdict_line, verdict_outcome}

-- the reply to two valid files
pub compared : (limit : ℕ) (order other : Order) (split : ℕ) (input : List ℕ) → length input ≤ limit → split ≤ length input
    → (s : Bool) → Compares order (take split input) other (drop split input) s
    → IsSameReply limit order other split input (verdict_outcome s) (verdict_line s)
compared limit order other split input within inside true found =
    let one = found.lists.0 refl in same found.first within inside found.first_file (rw one found.second_file)
compared limit order other split input within inside false found =
    different found.first found.second within inside found.first_file found.second_file (λ e. let bad : false ≡ true = found.lists.1 e in cc)

pub second_faulty : (limit : ℕ) (order other : Order) (split : ℕ) (input : List ℕ) (f : SlotFault) → length input ≤ limit → split ≤ length input
    → NamesSide order (take split input) other (drop split input) (side.Second f) → IsSameReply limit order other split input (Second f) []
second_faulty limit order other split input f within inside found = second_at_fault found.0.0 f within inside found.0.1 found.1
