-- The groups of instructions as a mask.
use Rattle.std.specs.Prelude.{◌≡◌, ◌↔◌, ℕ, ◌+◌, Bool, List, IsTrue, if◌then◌else◌}
use Rattle.bpf_words.specs.declared.Order.{Order}
use Rattle.bpf_insn.specs.declared.{insn.Insn.Insn, group.Group.Group, group.GroupSet.GroupSet}
use Rattle.bpf_insn.specs.declared.group.Group.TheVariants.{Base32, Base64, Atomic32, Atomic64, Divmul32, Divmul64, Packet}
use Rattle.bpf_insn.specs.{Groups.InGroups, Groups.holds, Encoding.InsnFile}
use Rattle.bpfcanon_c.specs.declared.answer.{Answer.Answer, Ending.Ending, Ending.TheVariants.Groups, Ending.TheVariants.First}
use Rattle.bpfcanon_c.specs.declared.answer.Ending.TheVariants as ending
use Rattle.bpfcanon_c.specs.{Answers.order_number, Outputs.IsNoOrder, Outputs.IsAnswerOf, Outputs.IsInsnCode}

abbrev pub weighed : Bool → ℕ → ℕ
weighed b weight = if b then weight else 0

-- a bit for each group, from the lowest
abbrev pub mask : GroupSet → ℕ
mask s =
    weighed (holds s Base32) 1 + weighed (holds s Base64) 2 + weighed (holds s Atomic32) 4 + weighed (holds s Atomic64) 8
    + weighed (holds s Divmul32) 16 + weighed (holds s Divmul64) 32 + weighed (holds s Packet) 64

-- the mask of a set that has the groups of these instructions
pub record IsGroupMask (l : List Insn) (n : ℕ) : Type 0 where
  pub set : GroupSet
  pub groups : (g : Group) → IsTrue (holds set g) ↔ InGroups l g
  pub bits : n ≡ mask set

abbrev pub EndsGroupsIn : Order → List ℕ → Ending → Type 0
EndsGroupsIn o bytes (Groups n) = (l : List Insn) × (InsnFile o bytes l × IsGroupMask l n)
EndsGroupsIn o bytes (First code) = IsInsnCode o bytes code
EndsGroupsIn o bytes _ = ⊥

abbrev pub EndsGroups : ℕ → List ℕ → Ending → Type 0
EndsGroups n bytes ending.Order = IsNoOrder n
EndsGroups n bytes e = (o : Order) × ((n ≡ order_number o) × EndsGroupsIn o bytes e)

-- the answer on groups: those that the instructions need, as a mask, or the first fault
abbrev pub AnswersGroups : ℕ → List ℕ → Answer → Type 0
AnswersGroups n bytes = IsAnswerOf (EndsGroups n bytes)
