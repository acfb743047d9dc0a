-- The table of what opcodes determine in records: its entries by form, and the records that are made with them. The records of wide loads.
use Rattle.std.proofs.Common.{◌≡◌, ◌∙◌, ◌<◌, ◌≤◌, ◌/◌, ◌%◌, ◌++◌, ℕ, ℤ, pos, FitsSigned, w32, Bool, true, false, List, [], Option, Some, None, IfSome, get_or, length, take, drop, append_assoc, length-append, length-drop, refl, sym, ap, subst, arith}
use Rattle.std.specs.Option.{option_and_then}
use Rattle.std.proofs.lemmas.List.{take_at, drop_at, append-nil}
use Rattle.std.proofs.lemmas.Int.{ints}
use Rattle.bpf_words.specs.{declared.Order.Order, declared.Order.TheVariants.Little, declared.Order.TheVariants.Big, Slots.Fields, Slots.AreFields, Slots.fields, Slots.encoded}
use Rattle.bpf_words.proofs.OneEncoding.{encoded-injective}
use Rattle.bpf_insn.specs.declared.{insn.Insn.Insn, insn.Reg.Reg, insn.Width.Width, insn.WideOf.WideOf, group.Group.Group, group.Group.TheVariants.Base32, group.Group.TheVariants.Base64, group.Group.TheVariants.Packet}
use Rattle.bpf_insn.specs.declared.insn.AluOp.TheVariants as alu
use Rattle.bpf_insn.specs.declared.insn.MovsxForm.TheVariants as movsx
use Rattle.bpf_insn.specs.declared.insn.Operand.TheVariants as operand
use Rattle.bpf_insn.specs.declared.insn.Insn.TheVariants.{Alu, Movsx, Swap, Branch, CallLocal, CallBtf, Atomic, Wide}
use Rattle.bpf_insn.specs.declared.form.{Source.Source, AluCode.AluCode}
use Rattle.bpf_insn.specs.declared.form.AluCode.TheVariants as code
use Rattle.bpf_insn.specs.declared.form.Form.{Form}
use Rattle.bpf_insn.specs.declared.form.Form.TheVariants as form
use Rattle.bpf_insn.specs.{Table.fields_of, Table.next_imm_of, Table.branch_code, Table.wide_next_imm, Groups.base, Groups.divmul, Groups.size_group, Encoding.encoding, Encoding.second_slot, Faults.BeginsWith}
use Rattle.bpf_insn.specs.Forms.{alu_code_number, source_number, form_at, alu32_form_at, alu64_form_at, jump32_form_at, jump64_form_at, load_form_at, alu_code_at, branch_op_at, size_at, small_size_at}
use Rattle.bpf_words.proofs.SlotLemmas.{slot_length}
use Rattle.bpf_insn.proofs.{FormLemmas.insn_form, FormLemmas.opcode_of_form, OpcodeLemmas.form_at-form_opcode, TableLemmas.same_table, FieldLemmas.fields_in_range, FieldLemmas.wide_next_fits, WideLemmas.wide_of_opcode, WideLemmas.second_length}
use Rattle.bpfcanon_c.specs.declared.{opcode_rows.OpcodeRow.OpcodeRow, opcode_rows.TheConstants.ROWS}
use Rattle.bpfcanon_c.specs.{InsnRows.width_bits, InsnRows.size_bits, InsnRows.small_size_bits, InsnRows.group_bit, InsnRows.row_at, InsnSteps.HasPut, OpcodeRows.Allows, OpcodeRows.HasRow, OpcodeRows.MakesRows, OpcodeRows.slot_row, OpcodeRows.wide_row}

-- ---- the entry of each form

abbrev entry : ℕ → ℕ → ℕ → ℕ → Group → Bool → Bool → OpcodeRow
entry form op bits by_reg group any_src any_off =
    record { form = form; op = op; bits = bits; by_reg = by_reg; group = group_bit group; any_src = any_src; any_off = any_off }

abbrev alu_entry : AluCode → Width → Source → Group → Bool → OpcodeRow
alu_entry op width source group any_off = entry 1 (alu_code_number op) (width_bits width) (source_number source) group true any_off

abbrev arithmetic_entry : AluCode → Width → Source → OpcodeRow
arithmetic_entry code.Mul width source = alu_entry code.Mul width source (divmul width) true
arithmetic_entry code.Div width source = alu_entry code.Div width source (divmul width) false
arithmetic_entry code.Mod width source = alu_entry code.Mod width source (divmul width) false
arithmetic_entry code.Mov width source = alu_entry code.Mov width source (base width) false
arithmetic_entry op width source = alu_entry op width source (base width) true

abbrev entry_of : Form → Option OpcodeRow
entry_of (form.Alu width op source) = Some (arithmetic_entry op width source)
entry_of (form.Neg width) = Some (entry 3 0 (width_bits width) 0 (base width) true true)
entry_of form.Jump = Some (entry 5 0 0 0 Base32 true true)
entry_of form.JumpLong = Some (entry 6 0 0 0 Base32 true true)
entry_of (form.Branch width op source) = Some (entry 7 (branch_code op) (width_bits width) (source_number source) (base width) true true)
entry_of form.Call = Some (entry 8 0 0 0 Base32 false true)
entry_of form.Exit = Some (entry 11 0 0 0 Base32 true true)
entry_of (form.Load z) = Some (entry 12 0 (size_bits z) 0 (size_group z) true true)
entry_of (form.LoadSigned z) = Some (entry 13 0 (small_size_bits z) 0 Base64 true true)
entry_of (form.StoreImm z) = Some (entry 14 0 (size_bits z) 0 (size_group z) true true)
entry_of (form.StoreReg z) = Some (entry 15 0 (size_bits z) 0 (size_group z) true true)
entry_of (form.PacketAbs z) = Some (entry 18 0 (small_size_bits z) 0 Packet true true)
entry_of (form.PacketInd z) = Some (entry 19 0 (small_size_bits z) 0 Packet true true)
entry_of _ = None

-- the table agrees with these at each of the 256 opcodes, by computation
entry_at : (n : ℕ) → n < 256 → get_or (get_or ROWS (n % 8) []) (n / 8) None ≡ option_and_then entry_of (form_at n)
unfolding form_at alu32_form_at alu64_form_at jump32_form_at jump64_form_at load_form_at alu_code_at branch_op_at size_at small_size_at
entry_at n h = same_table (λ n. get_or (get_or ROWS (n % 8) []) (n / 8) None) (λ n. option_and_then entry_of (form_at n)) 256 refl n h

-- ---- the records of the instructions that an entry allows

abbrev SaysRow : Option OpcodeRow → Insn → Type 0
SaysRow None i = Unit {0}
SaysRow (Some r) i = Allows r (fields_of i) → HasRow r i

says_row : (i : Insn) → SaysRow (entry_of (insn_form i)) i
says_row (Alu width alu.Sdiv d arg) = λ h. let no : pos 1 ≡ pos 0 = h.off in absurd cc
says_row (Alu width alu.Smod d arg) = λ h. let no : pos 1 ≡ pos 0 = h.off in absurd cc
says_row (Alu width _ d (operand.Imm k)) = λ h. record { row = λ at. refl; alone = refl }
says_row (Alu width _ d (operand.Reg r)) = λ h. record { row = λ at. refl; alone = refl }
says_row (Movsx movsx.W32From8 d s) = λ h. let no : pos 8 ≡ pos 0 = h.off in absurd cc
says_row (Movsx movsx.W32From16 d s) = λ h. let no : pos 16 ≡ pos 0 = h.off in absurd cc
says_row (Movsx movsx.W64From8 d s) = λ h. let no : pos 8 ≡ pos 0 = h.off in absurd cc
says_row (Movsx movsx.W64From16 d s) = λ h. let no : pos 16 ≡ pos 0 = h.off in absurd cc
says_row (Movsx movsx.W64From32 d s) = λ h. let no : pos 32 ≡ pos 0 = h.off in absurd cc
says_row (Swap kind bits d) = tt
says_row (Branch width op d (operand.Imm k) o) = λ h. record { row = λ at. refl; alone = refl }
says_row (Branch width op d (operand.Reg r) o) = λ h. record { row = λ at. refl; alone = refl }
says_row (CallLocal k) = λ h. absurd (omega (arith, h.src))
says_row (CallBtf k o) = λ h. absurd (omega (arith, h.src))
says_row (Atomic width op d s o) = tt
says_row (Wide d what) = tt
says_row _ = λ h. record { row = λ at. refl; alone = refl }

pub makes_rows : (n : ℕ) (o : Option OpcodeRow) → n < 256 → o ≡ get_or (get_or ROWS (n % 8) []) (n / 8) None → IfSome o (MakesRows n)
makes_rows n None h e = tt
makes_rows n (Some r) h e = λ i opcode allowed.
    let form : form_at n ≡ Some (insn_form i) = ap form_at (sym opcode ∙ opcode_of_form i) ∙ form_at-form_opcode (insn_form i) in
    let is : entry_of (insn_form i) ≡ Some r = sym (e ∙ entry_at n h ∙ ap (option_and_then entry_of) form) in
    subst (λ (x : Option OpcodeRow). SaysRow x i) is (says_row i) allowed

-- ---- the record of the instruction that bytes begin with

-- bytes that begin with an instruction begin with its first slot
slot_begun : (o : Order) (s front : List ℕ) (f : Fields) → front ≡ take 8 s → front ≡ encoded o f → AreFields f → (i : Insn) → BeginsWith o i s → fields_of i ≡ f
unfolding encoding
slot_begun o s front f cut is range i b =
    let first = encoded o (fields_of i) in
    let second = second_slot o (next_imm_of i) in
    let whole : s ≡ first ++ (second ++ b.1.0) = b.1.1 ∙ append_assoc first second b.1.0 in
    let taken : take 8 s ≡ first = ap (λ (x : List ℕ). take 8 x) whole ∙ take_at first (second ++ b.1.0) 8 (slot_length o (fields_of i)) in
    encoded-injective o (fields_of i) f (fields_in_range i b.0) range (sym taken ∙ sym cut ∙ is)

one_slot : (o : Order) (i : Insn) → next_imm_of i ≡ None → length (encoding o i) ≡ 8
unfolding encoding
one_slot o i none =
    ap (λ (m : Option ℤ). length (encoded o (fields_of i) ++ second_slot o m)) none ∙ ap length (append-nil (encoded o (fields_of i))) ∙ slot_length o (fields_of i)

pub puts_row : (o : Order) (s front : List ℕ) (f : Fields) (r : OpcodeRow) (at : ℕ) → front ≡ take 8 s → front ≡ encoded o f → AreFields f → MakesRows f.opcode r → Allows r f
    → HasPut o s at (slot_row at f r) 8
puts_row o s front f r at cut is range makes allowed = λ i b.
    let same : fields_of i ≡ f = slot_begun o s front f cut is range i b in
    let has : HasRow r i = makes i (ap (λ (x : Fields). x.opcode) same) (subst (λ (x : Fields). Allows r x) (sym same) allowed) in
    (ap (λ (x : Fields). slot_row at x r) (sym same) ∙ has.row at, sym (one_slot o i has.alone))

-- ---- the record of a wide load

-- its second slot
abbrev second_fields : ℤ → Fields
second_fields k = fields 0 0 0 (pos 0) k

second_in_range : (k : ℤ) → FitsSigned w32 k → AreFields (second_fields k)
second_in_range k h = record { opcode = omega arith; dst = omega arith; src = omega arith; off = omega (arith, ints); imm = h }

second_encoded : (o : Order) (k : ℤ) → encoded o (second_fields k) ≡ second_slot o (Some k)
second_encoded Little k = refl
second_encoded Big k = refl

wide_length : (o : Order) (d : Reg) (what : WideOf) → length (encoding o (Wide d what)) ≡ 16
unfolding encoding
wide_length o d what =
    let i = Wide d what in
    omega (arith, length-append (encoded o (fields_of i)) (second_slot o (Some (wide_next_imm what))), slot_length o (fields_of i), second_length o (wide_next_imm what))

-- the record and the length of a wide load, from its slots
of_wide : (o : Order) (s rest second : List ℕ) (f g : Fields) (at : ℕ) → rest ≡ drop 8 s → second ≡ take 8 rest → second ≡ encoded o g → AreFields g
    → (d : Reg) (what : WideOf) → BeginsWith o (Wide d what) s → fields_of (Wide d what) ≡ f
    → (wide_row at f g.imm ≡ row_at at (Wide d what)) × (16 ≡ length (encoding o (Wide d what)))
unfolding encoding
of_wide o s rest second f g at cut taken is range d what b same =
    let k = wide_next_imm what in
    let first = encoded o (fields_of (Wide d what)) in
    let tail = second_slot o (Some k) in
    let whole : s ≡ first ++ (tail ++ b.1.0) = b.1.1 ∙ append_assoc first tail b.1.0 in
    let after : rest ≡ tail ++ b.1.0 = cut ∙ ap (λ (x : List ℕ). drop 8 x) whole ∙ drop_at first (tail ++ b.1.0) 8 (slot_length o (fields_of (Wide d what))) in
    let bytes : second ≡ tail = taken ∙ ap (λ (x : List ℕ). take 8 x) after ∙ take_at tail b.1.0 8 (second_length o k) in
    let next : g ≡ second_fields k =
    encoded-injective o g (second_fields k) range (second_in_range k (wide_next_fits what b.0.1)) (sym is ∙ bytes ∙ sym (second_encoded o k))
    in (
      ap (λ (x : Fields). wide_row at f x.imm) next ∙ ap (λ (x : Fields). wide_row at x k) (sym same),
      sym (wide_length o d what),
    )

pub puts_wide : (o : Order) (s first rest second : List ℕ) (f g : Fields) (at : ℕ) → first ≡ take 8 s → first ≡ encoded o f → AreFields f → f.opcode ≡ 0x18
    → rest ≡ drop 8 s → second ≡ take 8 rest → second ≡ encoded o g → AreFields g → HasPut o s at (wide_row at f g.imm) 16
puts_wide o s first rest second f g at begun is range wide cut taken also ranges = λ i b.
    let same : fields_of i ≡ f = slot_begun o s first f begun is range i b in
    let w = wide_of_opcode i (ap (λ (x : Fields). x.opcode) same ∙ wide) in
    subst (λ (x : Insn). (wide_row at f g.imm ≡ row_at at x) × (16 ≡ length (encoding o x))) (sym w.is)
    (of_wide o s rest second f g at cut taken also ranges w.dst w.what (subst (λ (x : Insn). BeginsWith o x s) w.is b)
    (subst (λ (x : Insn). fields_of x ≡ f) w.is same))

-- a wide load has a second slot
pub has_second : (o : Order) (s first rest : List ℕ) (f : Fields) → first ≡ take 8 s → first ≡ encoded o f → AreFields f → f.opcode ≡ 0x18
    → rest ≡ drop 8 s → (i : Insn) → BeginsWith o i s → 8 ≤ length rest
has_second o s first rest f begun is range wide cut i b =
    let same : fields_of i ≡ f = slot_begun o s first f begun is range i b in
    let w = wide_of_opcode i (ap (λ (x : Fields). x.opcode) same ∙ wide) in
    omega (arith, ap length cut, length-drop 8 s, ap length b.1.1, length-append (encoding o i) b.1.0, ap (λ (x : Insn). length (encoding o x)) w.is, wide_length o w.dst w.what)
