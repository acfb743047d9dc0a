use Rattle.std.proofs.Common.{◌≡◌, ℕ, ◌<◌, false}
use Rattle.bpf_elf.specs.Kinds.{is_kind}
use Rattle.bpf_elf.specs.Sections.{kind}
use Rattle.bpf_elf.proofs.section_checks.section_of.Given as goal

abbrev pub invariant-loop-i : goal.invariant-loop-i
invariant-loop-i l = (k : ℕ) → k < l.i → is_kind l.wanted (kind l.bytes k) ≡ false
