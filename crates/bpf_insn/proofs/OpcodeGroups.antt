-- The opcode determines the group of an instruction that isn't a byte swap.
use Rattle.std.proofs.Common.{◌≡◌, ◌↔◌, ◌⊎◌, ℕ, Bool, false, List, length, get_or, set, replicate, drop, IsTrue, Result, Ok, Err, IfOk, refl, ap, sym, ◌∙◌, subst, arith, inl, inr}
use Rattle.std.proofs.lemmas.List.{get_or-drop, get_or-replicate, get_or-set_other, get_or_past, length-replicate, set_past, take_rest}
use Rattle.std.proofs.lemmas.{Grind.get_or-set_at, Bool.cases_eq, Bool.cases_lt}
use Rattle.bpf_words.specs.declared.Order.{Order}
use Rattle.bpf_insn.specs.{Table.fields_of, Encoding.encoding}
use Rattle.bpf_insn.specs.Groups.{Brings, alu_group, atomic_group, base, divmul, group_of, holds, size_group}
use Rattle.bpf_insn.specs.FileSteps.{AddsInsnAt, AreSettled, BeginsAt, opcode_has_group}
use Rattle.bpf_insn.proofs.FormLemmas.{insn_form, op_code, opcode_of_form, same_form}
use Rattle.bpf_insn.specs.declared.{fault.SlotFault.SlotFault, group.GroupSet.GroupSet, insn.Width.Width, insn.AluOp.AluOp, insn.SwapKind.SwapKind}
use Rattle.bpf_insn.specs.declared.group.Group.{Group, TheVariants.Base32, TheVariants.Base64, TheVariants.Packet}
use Rattle.bpf_insn.specs.declared.insn.AluOp.TheVariants as alu
use Rattle.bpf_insn.specs.declared.{insn.Insn.Insn, insn.Insn.TheVariants.Alu, insn.Insn.TheVariants.Swap, form.AluCode.AluCode}
use Rattle.bpf_insn.specs.declared.form.AluCode.TheVariants as code
use Rattle.bpf_insn.specs.declared.form.Form.{Form}
use Rattle.bpf_insn.specs.declared.form.Form.TheVariants as form

-- the group of an arithmetic code
abbrev code_group : AluCode → Width → Group
code_group code.Mul width = divmul width
code_group code.Div width = divmul width
code_group code.Mod width = divmul width
code_group _ width = base width

-- the group of the instructions of a form; byte swaps of one form have two
abbrev form_group : Form → Group
form_group (form.Alu width c source) = code_group c width
form_group (form.Neg width) = base width
form_group (form.Branch width op source) = base width
form_group (form.Load z) = size_group z
form_group (form.LoadSigned z) = Base64
form_group (form.StoreImm z) = size_group z
form_group (form.StoreReg z) = size_group z
form_group (form.Atomic width) = atomic_group width
form_group form.Wide = Base64
form_group (form.PacketAbs z) = Packet
form_group (form.PacketInd z) = Packet
form_group _ = Base32

op_group : (op : AluOp) (width : Width) → alu_group op width ≡ code_group (op_code op) width
op_group alu.Add width = refl
op_group _ width = refl

group_of_form : (i : Insn) → IsTrue (opcode_has_group i) → group_of i ≡ form_group (insn_form i)
group_of_form (Alu width op d a) h = op_group op width
group_of_form (Swap kind bits d) h = absurd (cc)
group_of_form _ h = refl

-- either all instructions with an opcode are byte swaps, or none are
has_group_of_form : (i j : Insn) → insn_form i ≡ insn_form j → IsTrue (opcode_has_group i) → IsTrue (opcode_has_group j)
has_group_of_form i (Swap kind bits d) e h = absurd (no_swap i kind e h)
  where
    no_swap : (i : Insn) (kind : SwapKind) → insn_form i ≡ form.Swap kind → IsTrue (opcode_has_group i) → ⊥
    no_swap (Swap k b d) kind e h = cc
    no_swap _ kind e h = cc
has_group_of_form i _ e h = refl

pub same_group : (i j : Insn) → (fields_of i).opcode ≡ (fields_of j).opcode → IsTrue (opcode_has_group i) → group_of j ≡ group_of i
same_group i j e h =
    let forms : insn_form i ≡ insn_form j = same_form i (insn_form j) (e ∙ opcode_of_form j) in
    group_of_form j (has_group_of_form i j forms h) ∙ ap form_group (sym forms) ∙ sym (group_of_form i h)

-- no opcode is settled at first
pub none_settled : (set : GroupSet) → AreSettled (replicate 256 false) set
none_settled set i g marked brings = absurd (unmarked (fields_of i).opcode marked)
  where
    unmarked : (n : ℕ) → IsTrue (get_or (replicate 256 false) n false) → ⊥
    unmarked n t = elim (cases_lt n 256) [
      | inl below ↦ let e : get_or (replicate 256 false) n false ≡ false = get_or-replicate 256 n false false below in cc
      | inr above ↦ let e : get_or (replicate 256 false) n false ≡ false = get_or_past (replicate 256 false) n false (omega (arith, length-replicate 256 false, above)) in cc
    ]

-- settled opcodes remain settled if a group is added, and the opcode of the instruction is settled if it has only this group
pub settles : (marks : List Bool) (before after : GroupSet) (opcode : ℕ) (i : Insn) → opcode ≡ (fields_of i).opcode → AreSettled marks before
    → ((g : Group) → IsTrue (holds after g) ↔ (IsTrue (holds before g) ⊎ Brings (group_of i) g)) → AreSettled (set marks opcode (opcode_has_group i)) after
settles marks before after opcode i e h more j g marked brings =
    elim (which_mark marks opcode (fields_of j).opcode (opcode_has_group i) marked) [
      | inl kept ↦ (more g).1 (inl (h j g kept brings))
      | inr new ↦ (more g).1 (inr (subst (λ (x : Group). Brings x g) (same_group i j (sym e ∙ sym new.0) new.1) brings))
    ]
  where
    -- a mark that is set after a write was set before or was written
    which_mark : (marks : List Bool) (at n : ℕ) (b : Bool) → IsTrue (get_or (set marks at b) n false) → IsTrue (get_or marks n false) ⊎ ((n ≡ at) × IsTrue b)
    which_mark marks at n b t = elim (cases_eq n at) [
      | inl same ↦ elim (cases_lt at (length marks)) [
        | inl below ↦
            let there : get_or (set marks at b) n false ≡ b = get_or-set_at marks at n b false same below in
            inr (same, sym there ∙ t)
        | inr above ↦ inl (rw (set_past marks at b above) at t)
      ]
      | inr other ↦ inl (rw (get_or-set_other marks at n b false other) at t)
    ]

-- the byte at the offset of an instruction is its opcode
pub opcode_at : (order : Order) (bytes : List ℕ) (at : ℕ) (i : Insn) → BeginsAt order bytes at i → get_or bytes at 0 ≡ (fields_of i).opcode
unfolding encoding
opcode_at order bytes at i h =
    let e = sym (take_rest bytes at) ∙ h.1.1 in
    let first : get_or (drop at bytes) 0 0 ≡ (fields_of i).opcode = ap (λ (s : List ℕ). get_or s 0 0) e in
    sym (get_or-drop at bytes 0 0 ∙ ap (λ (n : ℕ). get_or bytes n 0) (omega arith)) ∙ first

-- the set already has the group of an instruction whose opcode is settled
pub already_there : (order : Order) (bytes : List ℕ) (at : ℕ) (marks : List Bool) (set : GroupSet) (len : ℕ) → AreSettled marks set → IsTrue (get_or marks (get_or bytes at 0) false)
    → (i : Insn) × BeginsAt order bytes at i × (len ≡ length (encoding order i)) → AddsInsnAt order bytes at set set len
already_there order bytes at marks set len h marked found =
    let here : IsTrue (get_or marks (fields_of found.0).opcode false) = rw (sym (opcode_at order bytes at found.0 found.1)) marked in
    (found.0, found.1, found.2, λ g. (λ t. inl t, λ s. elim s [ inl t ↦ t | inr b ↦ h found.0 g here b ]))

pub already_there_if : (order : Order) (bytes : List ℕ) (at : ℕ) (marks : List Bool) (set : GroupSet) (r : Result ℕ SlotFault) → AreSettled marks set → IsTrue (get_or marks (get_or bytes at 0) false)
    → IfOk r (λ len. (i : Insn) × BeginsAt order bytes at i × (len ≡ length (encoding order i))) → IfOk r (AddsInsnAt order bytes at set set)
already_there_if order bytes at marks set (Ok len) h marked found = already_there order bytes at marks set len h marked found
already_there_if order bytes at marks set (Err f) h marked found = tt
