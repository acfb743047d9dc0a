use Rattle.std.proofs.Common.{◌≡◌, ◌+◌, ◌-◌, ◌≤◌, length, take, drop, List, ℕ}
use Rattle.btf_types.specs.tables.StringEnds.{AreLongEndsTo}
use Rattle.btf_types.proofs.StringLemmas.LongEnds.{HasNulNear}
use Rattle.btf_types.proofs.tables.string_ends.push_long_ends.Given as goal

pub record Found (old new strings : List ℕ) (at : ℕ) : Type 0 where
  pub kept : take (length old) new ≡ old
  pub long : length old ≤ length new
  pub ends : AreLongEndsTo strings (drop (length old) new) at
  pub gap : HasNulNear strings at
  pub inside : at ≤ length strings

abbrev pub invariant-blocks-2 : goal.invariant-blocks-2
invariant-blocks-2 g l = Found l.initial.out.items l.out.items l.strings l.at

abbrev pub decreases-blocks-2 : goal.decreases-blocks-2
decreases-blocks-2 g l = length l.strings + 1 - l.at
