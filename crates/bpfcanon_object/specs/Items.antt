-- What code consists of: instructions of RFC 9669, and newer ones.
use Rattle.std.specs.Prelude.{◌≡◌, ◌++◌, ◌≤◌, ◌⊎◌, ◌&&◌, if◌then◌else◌, ℕ, ℤ, pos, Bool, List, [], ◌∷◌, Option, Some, None, All, nat_le, length}
use Rattle.std.specs.List.{flat_map}
use Rattle.bpf_words.specs.{declared.Order.Order, Slots.AreFields, Slots.Fields, Slots.encoded}
use Rattle.bpf_insn.specs.declared.{insn.Insn.Insn, group.Group.Group}
use Rattle.bpf_insn.specs.{Encoding.encoding, Groups.group_of, Table.IsInsn}
use Rattle.bpfcanon_object.specs.Linux.{addition_of, later}
use Rattle.bpfcanon_object.specs.declared.{linux.Addition.Addition, items.Need.Need}
use Rattle.bpfcanon_object.specs.declared.linux.Addition.TheVariants as addition

-- both registers are ones that exist
abbrev pub has_registers : Fields → Bool
has_registers f = nat_le f.dst 10 && nat_le f.src 10

abbrev pub HasRegisters : Fields → Type 0
HasRegisters f = (f.dst ≤ 10) × (f.src ≤ 10)

-- atomic operations of 4, 2, 1 and 8 bytes
abbrev pub IsAtomicOpcode : ℕ → Type 0
IsAtomicOpcode n = (n ≡ 0xc3) ⊎ (n ≡ 0xcb) ⊎ (n ≡ 0xd3) ⊎ (n ≡ 0xdb)

-- the fields of the instructions that aren't in RFC 9669
abbrev pub IsNewer : Addition → Fields → Type 0
IsNewer addition.MayGoto f = (f.opcode ≡ 0xe5) × (f.dst ≡ 0) × (f.src ≡ 0) × (f.imm ≡ pos 0)
IsNewer addition.AddrSpaceCast f =
    (f.opcode ≡ 0xbf) × HasRegisters f × (f.off ≡ pos 1) × ((f.imm ≡ pos 1) ⊎ (f.imm ≡ pos 65536))
IsNewer addition.LoadAcquire f = IsAtomicOpcode f.opcode × HasRegisters f × (f.imm ≡ pos 256)
IsNewer addition.StoreRelease f = IsAtomicOpcode f.opcode × HasRegisters f × (f.imm ≡ pos 272)
IsNewer _ f = ⊥

-- an instruction of RFC 9669, or a newer one with its fields
pub data Item : Type 0 where
  standard : Insn → Item
  newer : Addition → Fields → Item

abbrev pub IsItem : Item → Type 0
IsItem (standard i) = IsInsn i
IsItem (newer a f) = AreFields f × IsNewer a f

abbrev pub item_bytes : Order → Item → List ℕ
item_bytes order (standard i) = encoding order i
item_bytes order (newer a f) = encoded order f

abbrev pub code_of : Order → List Item → List ℕ
code_of order items = flat_map (item_bytes order) items

-- what a target has to have for it
abbrev pub need_of : Item → Need
need_of (standard i) = record { group = Some (group_of i); addition = addition_of i }
need_of (newer a f) = record { group = None; addition = a }

-- the bytes begin with an item
abbrev pub Begins : Order → Item → List ℕ → Type 0
Begins order item s = IsItem item × ((rest : List ℕ) × (s ≡ item_bytes order item ++ rest))

-- the items that bytes begin with, and the rest, which begins with none
pub record IsFront (order : Order) (bytes : List ℕ) (items : List Item) (rest : List ℕ) : Type 0 where
  pub each : All IsItem items
  pub front : bytes ≡ code_of order items ++ rest
  pub none : (item : Item) → ¬ Begins order item rest

-- the addition of the latest release, of items and an earlier one; the first of several
abbrev pub latest : Addition → List Item → Addition
latest before [] = before
latest before (item ∷ items) = latest (later before (need_of item).addition) items

-- what code needs, and other code before it
abbrev pub IsLatest : Order → Addition → List ℕ → Addition → Type 0
IsLatest order before bytes result =
    (items : List Item) × ((rest : List ℕ) × (IsFront order bytes items rest × (result ≡ latest before items)))
