use Rattle.std.proofs.Common.{◌≡◌, ℕ, ◌<◌, None, length}
use Rattle.std.specs.Prelude.{slice_index_or}
use Rattle.bpf_elf.specs.Sections.{name}
use Rattle.bpf_object.specs.private.Pairs.{pair_for}
use Rattle.bpf_object.proofs.function_checks.section_pairs.Given as goal

abbrev pub invariant-loop-i : goal.invariant-loop-i
invariant-loop-i g l =
    (length l.found.items ≡ l.i) × ((i : ℕ) → i < l.i → slice_index_or l.found.items i None ≡ pair_for l.by_name (name l.elf i))
