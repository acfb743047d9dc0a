-- The instructions before an offset of a file, and at it an instruction, whose group is added to a set, or a fault.
use Rattle.std.specs.Prelude.{◌≡◌, ◌↔◌, ◌⊎◌, ◌≤◌, ℕ, ◌+◌, ◌++◌, Bool, true, false, List, length, drop, slice_range, slice_index_or, All, IsTrue}
use Rattle.bpf_words.specs.declared.Order.{Order}
use Rattle.bpf_insn.specs.declared.{insn.Insn.Insn, insn.Insn.TheVariants.Swap, fault.SlotFault.SlotFault, group.Group.Group, group.GroupSet.GroupSet}
use Rattle.bpf_insn.specs.{Table.IsInsn, Table.fields_of, Encoding.file_of, Encoding.encoding}
use Rattle.bpf_insn.specs.{Faults.BeginsWith, Faults.IsSlotFault, Faults.moved_by, Groups.Brings, Groups.InGroups, Groups.group_of, Groups.holds}

-- the bytes from an offset on begin with the encoding of an instruction
abbrev pub BeginsAt : Order → List ℕ → ℕ → Insn → Type 0
BeginsAt order bytes at i = BeginsWith order i (slice_range bytes at (length bytes))

-- the bytes from an offset on don't begin with an encoding, and this is their fault, with its offset from the start of the file
abbrev pub IsFaultAt : Order → List ℕ → ℕ → SlotFault → Type 0
IsFaultAt order bytes at fault =
    (slot : SlotFault) × IsSlotFault order (slice_range bytes at (length bytes)) slot × (fault ≡ moved_by at slot)

-- the bytes before an offset are the encodings of these instructions
abbrev pub EncodesBefore : Order → List ℕ → List Insn → ℕ → Type 0
EncodesBefore order bytes insns at =
    (at ≤ length bytes) × All IsInsn insns × (bytes ≡ file_of order insns ++ drop at bytes) × (at ≡ length (file_of order insns))

-- the bytes before an offset are the encodings of this many instructions
pub record ReadsTo (order : Order) (bytes : List ℕ) (at count : ℕ) : Type 0 where
  pub insns : List Insn
  pub encoded : EncodesBefore order bytes insns at
  pub counted : count ≡ length insns

-- the second set has the groups of the first, and those of the instruction at this offset, whose length is len
abbrev pub AddsInsnAt : Order → List ℕ → ℕ → GroupSet → GroupSet → ℕ → Type 0
AddsInsnAt order bytes at before after len =
    (i : Insn) × BeginsAt order bytes at i × (len ≡ length (encoding order i))
    × ((g : Group) → IsTrue (holds after g) ↔ (IsTrue (holds before g) ⊎ Brings (group_of i) g))

-- the opcode determines the group; that of a byte swap also depends on the immediate
abbrev pub opcode_has_group : Insn → Bool
opcode_has_group (Swap kind bits dst) = false
opcode_has_group _ = true

-- the set has the groups of all instructions that have a marked opcode
abbrev pub AreSettled : List Bool → GroupSet → Type 0
AreSettled marks set =
    (i : Insn) (g : Group) → IsTrue (slice_index_or marks (fields_of i).opcode false) → Brings (group_of i) g → IsTrue (holds set g)

-- the set has the groups of the instructions before an offset, and no others
pub record HasGroupsBefore (order : Order) (bytes : List ℕ) (at : ℕ) (set : GroupSet) : Type 0 where
  pub insns : List Insn
  pub encoded : EncodesBefore order bytes insns at
  pub groups : (g : Group) → IsTrue (holds set g) ↔ InGroups insns g
