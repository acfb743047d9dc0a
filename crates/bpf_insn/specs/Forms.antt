-- Forms: what an opcode determines without the other fields, and which values each form allows in the fields after it.
use Rattle.std.specs.Prelude.{◌≡◌, ◌≢◌, ◌==◌, List, length, slice_range, ℕ, ◌/◌, ◌%◌, ◌<◌, ◌≤◌, ℤ, pos, Option, Some, None, if◌then◌else◌, ◌⊎◌, option_and_then}
use Rattle.bpf_words.specs.{declared.Order.Order, Words.word32, Slots.Fields, Slots.fields}
use Rattle.bpf_insn.specs.{Encoding.second_slot, Faults.field_offset, declared.insn.WideOf.WideOf}
use Rattle.bpf_insn.specs.Table.{code_opcode, mode_opcode, alu_class, alu_code, branch_class, branch_code, size_number, small_size_number, atomic_size, swap_opcode, swap_bits, atomic_number, IsReg, IsImm, IsInsn, IsOperand, fields_of, next_imm_of, source_bit, immediate, IsWideOf, wide_source, wide_imm, wide_next_imm}
use Rattle.bpf_insn.specs.Table as table
use Rattle.bpf_insn.specs.declared.insn.{Insn.Insn, Size.Size, Operand.Operand, Width.Width, Width.TheVariants.W32, Width.TheVariants.W64}
use Rattle.bpf_insn.specs.declared.insn.Size.TheVariants as size
use Rattle.bpf_insn.specs.declared.insn.SmallSize.{SmallSize}
use Rattle.bpf_insn.specs.declared.insn.SmallSize.TheVariants as small
use Rattle.bpf_insn.specs.declared.insn.AluOp.TheVariants as alu
use Rattle.bpf_insn.specs.declared.insn.BranchOp.{BranchOp}
use Rattle.bpf_insn.specs.declared.insn.BranchOp.TheVariants as branch
use Rattle.bpf_insn.specs.declared.insn.SwapKind.TheVariants as swap
use Rattle.bpf_insn.specs.declared.insn.{SwapBits.SwapBits, AtomicOp.AtomicOp}
use Rattle.bpf_insn.specs.declared.form.{Source.Source, Source.TheVariants.K, Source.TheVariants.X, AluCode.AluCode}
use Rattle.bpf_insn.specs.declared.form.AluCode.TheVariants as code
use Rattle.bpf_insn.specs.declared.{fault.SlotCause.SlotCause, form.Form.Form}
use Rattle.bpf_insn.specs.declared.fault.SlotCause.TheVariants.{Truncated, Opcode, Dst, Src, Offset, Imm, Reserved, NextImm}
use Rattle.bpf_insn.specs.declared.read.FirstSlot.{FirstSlot, TheVariants.Whole, TheVariants.OfWideLoad}
use Rattle.bpf_insn.specs.declared.form.Form.TheVariants.{Alu, Neg, Swap, Jump, JumpLong, Branch, Call, Exit, Load, LoadSigned, StoreImm, StoreReg, Atomic, Wide, PacketAbs, PacketInd}

-- the code of an operation; signed division shares that of the unsigned one
abbrev pub alu_code_number : AluCode → ℕ
alu_code_number code.Add = alu_code alu.Add
alu_code_number code.Sub = alu_code alu.Sub
alu_code_number code.Mul = alu_code alu.Mul
alu_code_number code.Div = alu_code alu.Div
alu_code_number code.Or = alu_code alu.Or
alu_code_number code.And = alu_code alu.And
alu_code_number code.Lsh = alu_code alu.Lsh
alu_code_number code.Rsh = alu_code alu.Rsh
alu_code_number code.Mod = alu_code alu.Mod
alu_code_number code.Xor = alu_code alu.Xor
alu_code_number code.Mov = alu_code alu.Mov
alu_code_number code.Arsh = alu_code alu.Arsh

abbrev pub source_number : Source → ℕ
source_number K = 0
source_number X = 1

abbrev pub form_opcode : Form → ℕ
form_opcode (Alu width op source) = code_opcode (alu_code_number op) (source_number source) (alu_class width)
form_opcode (Neg width) = code_opcode 0x8 0 (alu_class width)
form_opcode (Swap kind) = swap_opcode kind
form_opcode Jump = 0x05
form_opcode JumpLong = 0x06
form_opcode (Branch width op source) = code_opcode (branch_code op) (source_number source) (branch_class width)
form_opcode Call = 0x85
form_opcode Exit = 0x95
form_opcode (Load z) = mode_opcode 3 (size_number z) 1
form_opcode (LoadSigned z) = mode_opcode 4 (small_size_number z) 1
form_opcode (StoreImm z) = mode_opcode 3 (size_number z) 2
form_opcode (StoreReg z) = mode_opcode 3 (size_number z) 3
form_opcode (Atomic width) = mode_opcode 6 (atomic_size width) 3
form_opcode Wide = 0x18
form_opcode (PacketAbs z) = mode_opcode 1 (small_size_number z) 0
form_opcode (PacketInd z) = mode_opcode 2 (small_size_number z) 0

-- ---- the form of an opcode, if any instruction has it

abbrev pub source_at : ℕ → Source
source_at n = if n / 8 % 2 == 0 then K else X

unfoldable pub alu_code_at : ℕ → Option AluCode
alu_code_at n =
    if n == 0x0 then Some code.Add else
    (if n == 0x1 then Some code.Sub else
    (if n == 0x2 then Some code.Mul else
    (if n == 0x3 then Some code.Div else
    (if n == 0x4 then Some code.Or else
    (if n == 0x5 then Some code.And else
    (if n == 0x6 then Some code.Lsh else
    (if n == 0x7 then Some code.Rsh else
    (if n == 0x9 then Some code.Mod else
    (if n == 0xa then Some code.Xor else
    (if n == 0xb then Some code.Mov else
    (if n == 0xc then Some code.Arsh else None)))))))))))

unfoldable pub branch_op_at : ℕ → Option BranchOp
branch_op_at n =
    if n == 0x1 then Some branch.Eq else
    (if n == 0x2 then Some branch.Gt else
    (if n == 0x3 then Some branch.Ge else
    (if n == 0x4 then Some branch.Set else
    (if n == 0x5 then Some branch.Ne else
    (if n == 0x6 then Some branch.Sgt else
    (if n == 0x7 then Some branch.Sge else
    (if n == 0xa then Some branch.Lt else
    (if n == 0xb then Some branch.Le else
    (if n == 0xc then Some branch.Slt else
    (if n == 0xd then Some branch.Sle else None))))))))))

unfoldable pub size_at : ℕ → Option Size
size_at n =
    if n == 0 then Some size.W else
    (if n == 1 then Some size.H else
    (if n == 2 then Some size.B else
    (if n == 3 then Some size.D else None)))

unfoldable pub small_size_at : ℕ → Option SmallSize
small_size_at n =
    if n == 0 then Some small.W else
    (if n == 1 then Some small.H else
    (if n == 2 then Some small.B else None))

-- the form of an operation in an arithmetic class, or another form if there is none
abbrev pub or_alu : Option AluCode → Width → Source → Option Form → Option Form
or_alu (Some op) width source other = Some (Alu width op source)
or_alu None width source other = other

abbrev pub or_branch : Option BranchOp → Width → Source → Option Form → Option Form
or_branch (Some op) width source other = Some (Branch width op source)
or_branch None width source other = other

unfoldable pub alu32_form_at : ℕ → Option Form
alu32_form_at n = or_alu (alu_code_at (n / 16)) W32 (source_at n)
    (if n == 0x84 then Some (Neg W32) else (if n == 0xd4 then Some (Swap swap.Le) else (if n == 0xdc then Some (Swap swap.Be) else None)))

unfoldable pub alu64_form_at : ℕ → Option Form
alu64_form_at n = or_alu (alu_code_at (n / 16)) W64 (source_at n)
    (if n == 0x87 then Some (Neg W64) else (if n == 0xd7 then Some (Swap swap.Swap) else None))

unfoldable pub jump32_form_at : ℕ → Option Form
jump32_form_at n = or_branch (branch_op_at (n / 16)) W32 (source_at n)
    (if n == 0x06 then Some JumpLong else None)

unfoldable pub jump64_form_at : ℕ → Option Form
jump64_form_at n = or_branch (branch_op_at (n / 16)) W64 (source_at n)
    (if n == 0x05 then Some Jump else (if n == 0x85 then Some Call else (if n == 0x95 then Some Exit else None)))

-- the form with a size, if there is a size
abbrev pub sized : {S : Type 0} → (S → Form) → Option S → Option Form
sized form z = option_and_then (λ x. Some (form x)) z

unfoldable pub load_form_at : ℕ → ℕ → ℕ → Option Form
load_form_at class mode z =
    if class == 0 then
    (if mode == 0 then (if z == 3 then Some Wide else None) else
    (if mode == 1 then sized PacketAbs (small_size_at z) else
    (if mode == 2 then sized PacketInd (small_size_at z) else None)))
    else (if class == 1 then
    (if mode == 3 then sized Load (size_at z) else
    (if mode == 4 then sized LoadSigned (small_size_at z) else None))
    else (if class == 2 then
    (if mode == 3 then sized StoreImm (size_at z) else None)
    else
    (if mode == 3 then sized StoreReg (size_at z) else
    (if mode == 6 then
    (if z == 0 then Some (Atomic W32) else (if z == 3 then Some (Atomic W64) else None))
    else None))))

unfoldable pub form_at : ℕ → Option Form
form_at n =
    if n % 8 == 4 then alu32_form_at n else
    (if n % 8 == 5 then jump64_form_at n else
    (if n % 8 == 6 then jump32_form_at n else
    (if n % 8 == 7 then alu64_form_at n else
    load_form_at (n % 8) (n / 32) (n / 8 % 4))))

-- ---- which values a form allows in the fields after the opcode

abbrev pub AllowsDst : Form → ℕ → Type 0
AllowsDst Jump d = d ≡ 0
AllowsDst JumpLong d = d ≡ 0
AllowsDst Call d = d ≡ 0
AllowsDst Exit d = d ≡ 0
AllowsDst (PacketAbs z) d = d ≡ 0
AllowsDst (PacketInd z) d = d ≡ 0
AllowsDst _ d = IsReg d

abbrev pub AllowsSource : Source → ℕ → Type 0
AllowsSource K s = s ≡ 0
AllowsSource X s = IsReg s

abbrev pub AllowsSrc : Form → ℕ → Type 0
AllowsSrc (Alu width op source) s = AllowsSource source s
AllowsSrc (Branch width op source) s = AllowsSource source s
AllowsSrc Call s = s ≤ 2
AllowsSrc (Load z) s = IsReg s
AllowsSrc (LoadSigned z) s = IsReg s
AllowsSrc (StoreReg z) s = IsReg s
AllowsSrc (Atomic width) s = IsReg s
AllowsSrc Wide s = s ≤ 6
AllowsSrc (PacketInd z) s = IsReg s
AllowsSrc _ s = s ≡ 0

abbrev pub AllowsMovOff : Width → Source → ℤ → Type 0
AllowsMovOff width K o = o ≡ pos 0
AllowsMovOff W32 X o = (o ≡ pos 0) ⊎ (o ≡ pos 8) ⊎ (o ≡ pos 16)
AllowsMovOff W64 X o = (o ≡ pos 0) ⊎ (o ≡ pos 8) ⊎ (o ≡ pos 16) ⊎ (o ≡ pos 32)

abbrev pub AllowsAluOff : AluCode → Width → Source → ℤ → Type 0
AllowsAluOff code.Div width source o = (o ≡ pos 0) ⊎ (o ≡ pos 1)
AllowsAluOff code.Mod width source o = (o ≡ pos 0) ⊎ (o ≡ pos 1)
AllowsAluOff code.Mov width source o = AllowsMovOff width source o
AllowsAluOff _ width source o = o ≡ pos 0

-- the offset of an operation other than a sign-extending move
abbrev pub AllowsOpOff : AluCode → ℤ → Type 0
AllowsOpOff code.Div o = (o ≡ pos 0) ⊎ (o ≡ pos 1)
AllowsOpOff code.Mod o = (o ≡ pos 0) ⊎ (o ≡ pos 1)
AllowsOpOff _ o = o ≡ pos 0

abbrev pub AllowsOff : Form → ℕ → ℤ → Type 0
AllowsOff (Alu width op source) s o = AllowsAluOff op width source o
AllowsOff Jump s o = Unit {0}
AllowsOff (Branch width op source) s o = Unit {0}
AllowsOff Call s o = (s ≡ 2) ⊎ (o ≡ pos 0)
AllowsOff (Load z) s o = Unit {0}
AllowsOff (LoadSigned z) s o = Unit {0}
AllowsOff (StoreImm z) s o = Unit {0}
AllowsOff (StoreReg z) s o = Unit {0}
AllowsOff (Atomic width) s o = Unit {0}
AllowsOff _ s o = o ≡ pos 0

-- the fields before the immediate
abbrev pub AllowsFields : Form → Fields → Type 0
AllowsFields f slot = AllowsDst f slot.dst × AllowsSrc f slot.src × AllowsOff f slot.src slot.off

abbrev pub AllowsSourceImm : Source → ℤ → Type 0
AllowsSourceImm K k = Unit {0}
AllowsSourceImm X k = k ≡ pos 0

abbrev pub AllowsImm : Form → ℤ → Type 0
AllowsImm (Alu width op source) k = AllowsSourceImm source k
AllowsImm (Neg width) k = k ≡ pos 0
AllowsImm (Swap kind) k = (bits : SwapBits) × (k ≡ pos (swap_bits bits))
AllowsImm Jump k = k ≡ pos 0
AllowsImm JumpLong k = Unit {0}
AllowsImm (Branch width op source) k = AllowsSourceImm source k
AllowsImm Call k = Unit {0}
AllowsImm Exit k = k ≡ pos 0
AllowsImm (Load z) k = k ≡ pos 0
AllowsImm (LoadSigned z) k = k ≡ pos 0
AllowsImm (StoreImm z) k = Unit {0}
AllowsImm (StoreReg z) k = k ≡ pos 0
AllowsImm (Atomic width) k = (op : AtomicOp) × (k ≡ pos (atomic_number op))
AllowsImm Wide k = Unit {0}
AllowsImm (PacketAbs z) k = Unit {0}
AllowsImm (PacketInd z) k = Unit {0}

-- ---- the instruction of a form and of the fields after the opcode

-- the instruction with these fields, or none if the form doesn't allow the immediate; not for wide loads
abbrev pub Makes : Form → ℕ → ℕ → ℤ → ℤ → Option Insn → Type 0
Makes form d s o k None = ¬ AllowsImm form k
Makes form d s o k (Some i) =
    IsInsn i × (fields_of i ≡ fields (form_opcode form) d s o k) × (next_imm_of i ≡ None)

-- likewise for the second operand
abbrev pub MakesOperand : Source → ℕ → ℤ → Option Operand → Type 0
MakesOperand source s k None = ¬ AllowsSourceImm source k
MakesOperand source s k (Some arg) =
    IsOperand arg × (source_bit arg ≡ source_number source) × (table.source arg ≡ s) × (immediate arg ≡ k)

-- ---- the fault of a slot, by its fields

-- the first field after the opcode whose value the form does not allow
abbrev pub RejectsField : Form → Fields → SlotCause → Type 0
RejectsField f slot Dst = ¬ AllowsDst f slot.dst
RejectsField f slot Src = AllowsDst f slot.dst × ¬ AllowsSrc f slot.src
RejectsField f slot Offset = AllowsDst f slot.dst × AllowsSrc f slot.src × ¬ AllowsOff f slot.src slot.off
RejectsField f slot Imm =
    AllowsDst f slot.dst × AllowsSrc f slot.src × AllowsOff f slot.src slot.off × ¬ AllowsImm f slot.imm
RejectsField f slot _ = ⊥

abbrev pub IsFaultOf : Option Form → Fields → SlotCause → Type 0
IsFaultOf None slot Opcode = Unit {0}
IsFaultOf None slot _ = ⊥
IsFaultOf (Some f) slot cause = RejectsField f slot cause

abbrev pub IsFieldFault : Fields → SlotCause → Type 0
IsFieldFault slot cause = IsFaultOf (form_at slot.opcode) slot cause

-- a complete instruction, or the first slot of a wide load
abbrev pub IsFirstSlot : Fields → FirstSlot → Type 0
IsFirstSlot slot (Whole i) = IsInsn i × (fields_of i ≡ slot) × (next_imm_of i ≡ None)
IsFirstSlot slot (OfWideLoad d s k) = (s ≤ 6) × IsImm k × (slot ≡ fields 0x18 d.number s (pos 0) k)

-- ---- the second slot of a wide load

-- the values of src with which next_imm must be 0 (RFC 9669 section 5.4)
abbrev pub LacksNextImm : ℕ → Type 0
LacksNextImm s = (s ≡ 1) ⊎ (s ≡ 4) ⊎ (s ≡ 5)

abbrev pub MakesWide : ℕ → ℤ → ℤ → Option WideOf → Type 0
MakesWide s k m None = LacksNextImm s × (m ≢ pos 0)
MakesWide s k m (Some what) =
    IsWideOf what × (wide_source what ≡ s) × (wide_imm what ≡ k) × (wide_next_imm what ≡ m)

-- the first faulty field in the bytes after the first slot of a wide load, or Truncated
abbrev pub IsWideFault : Order → ℕ → List ℕ → SlotCause → Type 0
IsWideFault order s rest Truncated = length rest < 8
IsWideFault order s rest Reserved = (8 ≤ length rest) × (slice_range rest 0 4 ≢ word32 order 0)
IsWideFault order s rest NextImm =
    (8 ≤ length rest) × (slice_range rest 0 4 ≡ word32 order 0) × LacksNextImm s × (slice_range rest 4 8 ≢ word32 order 0)
IsWideFault order s rest _ = ⊥

abbrev pub IsWideInsn : Order → Fields → List ℕ → Insn → Type 0
IsWideInsn order slot rest i =
    IsInsn i × (fields_of i ≡ slot) × (8 ≤ length rest) × (slice_range rest 0 8 ≡ second_slot order (next_imm_of i))

-- the offset of a fault in the second slot, in bytes from the start of the first slot
abbrev pub wide_offset : SlotCause → ℕ
wide_offset Truncated = 8
wide_offset cause = field_offset cause
