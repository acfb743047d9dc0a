-- The fields of an instruction are in their ranges, and bytes determine the fields that they hold.
use Rattle.std.proofs.Common.{rules, ◌↔◌, ◌≡◌, ℕ, ◌+◌, ◌*◌, ◌/◌, ◌%◌, ◌^◌, ◌<◌, ℤ, pos, List, [], ◌∷◌, ◌++◌, refl, ap, sym, ◌∙◌, arith}
use Rattle.std.specs.Int.{w16, w32, cast_unsigned, cast_signed}
use Rattle.std.proofs.lemmas.Int.{ints}
use Rattle.bpf_words.specs.declared.Order.{Order, TheVariants.Little, TheVariants.Big}
use Rattle.bpf_words.specs.{Words.word16, Words.word32, Slots.Fields, Slots.AreFields, Slots.encoded}
use Rattle.bpf_words.proofs.OneEncoding.{word-injective_16, word-injective_32, signed_16, signed_32, pattern_fits_16, pattern_fits_32}
use Rattle.bpf_insn.specs.Table.{fields_of, next_imm_of, IsInsn, IsOffset, IsImm, alu_code, alu_class, branch_code, branch_class, source_bit, immediate, IsOperand, IsWideOf, alu_offset, wide_imm, wide_next_imm, movsx_bits, swap_opcode, swap_bits, size_number, small_size_number, atomic_size, atomic_number}
use Rattle.bpf_insn.proofs.FormLemmas.{dst_is_reg, src_is_reg}
use Rattle.bpf_insn.specs.Faults.{Agrees, field_value}
use Rattle.bpf_insn.specs.Encoding.{second_slot, encoding}
use Rattle.bpf_insn.specs.declared.fault.SlotCause.TheVariants.{Opcode, Dst, Src, Offset, Imm}
use Rattle.bpf_insn.specs.declared.insn.{Width.Width, Width.TheVariants.W32, Width.TheVariants.W64, Operand.Operand}
use Rattle.bpf_insn.specs.declared.insn.Operand.TheVariants as arg
use Rattle.bpf_insn.specs.declared.insn.AluOp.{AluOp}
use Rattle.bpf_insn.specs.declared.insn.AluOp.TheVariants as alu
use Rattle.bpf_insn.specs.declared.insn.BranchOp.{BranchOp}
use Rattle.bpf_insn.specs.declared.insn.BranchOp.TheVariants as branch
use Rattle.bpf_insn.specs.declared.insn.MovsxForm.{MovsxForm}
use Rattle.bpf_insn.specs.declared.insn.MovsxForm.TheVariants as movsx
use Rattle.bpf_insn.specs.declared.insn.SwapKind.{SwapKind}
use Rattle.bpf_insn.specs.declared.insn.SwapKind.TheVariants as swap
use Rattle.bpf_insn.specs.declared.insn.{SwapBits.SwapBits, SwapBits.TheVariants.B16, Size.Size}
use Rattle.bpf_insn.specs.declared.insn.Size.TheVariants as size
use Rattle.bpf_insn.specs.declared.insn.SmallSize.{SmallSize}
use Rattle.bpf_insn.specs.declared.insn.SmallSize.TheVariants as small
use Rattle.bpf_insn.specs.declared.insn.AtomicOp.{AtomicOp}
use Rattle.bpf_insn.specs.declared.insn.AtomicOp.TheVariants as atomic
use Rattle.bpf_insn.specs.declared.insn.{WideOf.WideOf, Insn.Insn}
use Rattle.bpf_insn.specs.declared.insn.WideOf.TheVariants.{Number}
use Rattle.bpf_insn.specs.declared.insn.Insn.TheVariants.{Alu, Movsx, Swap, Branch, Atomic, Wide}

-- ---- ranges

class_below : (w : Width) → alu_class w < 8
class_below W32 = omega arith
class_below W64 = omega arith

jump_class_below : (w : Width) → branch_class w < 8
jump_class_below W32 = omega arith
jump_class_below W64 = omega arith

code_below : (op : AluOp) → alu_code op < 16
code_below op = elim op as (λ x. alu_code x < 16) [ alu.Add ↦ omega arith | _ ↦ omega arith ]

offset_below : (op : AluOp) → alu_offset op < 64
offset_below op = elim op as (λ x. alu_offset x < 64) [ alu.Add ↦ omega arith | _ ↦ omega arith ]

branch_below : (op : BranchOp) → branch_code op < 16
branch_below op = elim op as (λ x. branch_code x < 16) [ branch.Eq ↦ omega arith | _ ↦ omega arith ]

atomic_below : (op : AtomicOp) → atomic_number op < 256
atomic_below op = elim op as (λ x. atomic_number x < 256) [ atomic.Add ↦ omega arith | _ ↦ omega arith ]

size_below : (z : Size) → size_number z < 4
size_below z = elim z as (λ x. size_number x < 4) [ size.B ↦ omega arith | _ ↦ omega arith ]

small_below : (z : SmallSize) → small_size_number z < 4
small_below z = elim z as (λ x. small_size_number x < 4) [ small.B ↦ omega arith | _ ↦ omega arith ]

atomic_size_below : (w : Width) → atomic_size w < 4
atomic_size_below W32 = omega arith
atomic_size_below W64 = omega arith

swap_below : (k : SwapKind) → swap_opcode k < 256
swap_below k = elim k as (λ x. swap_opcode x < 256) [ swap.Le ↦ omega arith | _ ↦ omega arith ]

bits_below : (b : SwapBits) → swap_bits b < 128
bits_below b = elim b as (λ x. swap_bits x < 128) [ B16 ↦ omega arith | _ ↦ omega arith ]

movsx_below : (f : MovsxForm) → movsx_bits f < 64
movsx_below f = elim f as (λ x. movsx_bits x < 64) [ movsx.W32From8 ↦ omega arith | _ ↦ omega arith ]

bit_below : (a : Operand) → source_bit a < 2
bit_below (arg.Imm k) = omega arith
bit_below (arg.Reg r) = omega arith

small_offset : (n : ℕ) → n < 256 → IsOffset (pos n)
small_offset n h = omega (arith, ints)

small_imm : (n : ℕ) → n < 256 → IsImm (pos n)
small_imm n h = omega (arith, ints)

immediate_fits : (a : Operand) → IsOperand a → IsImm (immediate a)
immediate_fits (arg.Imm k) h = h
immediate_fits (arg.Reg r) h = small_imm 0 (omega arith)

pattern_signed : (n : ℕ) → n < 2 ^ 32 → IsImm (cast_signed w32 n)
pattern_signed n h = omega (arith, ints)

wide_imm_fits : (what : WideOf) → IsWideOf what → IsImm (wide_imm what)
wide_imm_fits (Number n) h = pattern_signed (n % 2 ^ 32) (omega arith)
wide_imm_fits _ h = search rules

pub wide_next_fits : (what : WideOf) → IsWideOf what → IsImm (wide_next_imm what)
wide_next_fits (Number n) h = pattern_signed (n / 2 ^ 32) (omega arith)
wide_next_fits _ h = search rules

opcode_below : (i : Insn) → (fields_of i).opcode < 256
opcode_below (Swap kind bits d) = swap_below kind
opcode_below _ = omega (arith, code_below, branch_below, bit_below, class_below, jump_class_below, size_below, small_below, atomic_size_below)

offset_fits : (i : Insn) → IsInsn i → IsOffset (fields_of i).off
offset_fits (Alu width op d a) h = small_offset (alu_offset op) (omega (arith, offset_below op))
offset_fits (Movsx f d s) h = small_offset (movsx_bits f) (omega (arith, movsx_below f))
offset_fits _ h = search rules

imm_fits : (i : Insn) → IsInsn i → IsImm (fields_of i).imm
imm_fits (Alu width op d a) h = immediate_fits a h.1
imm_fits (Swap kind bits d) h = small_imm (swap_bits bits) (omega (arith, bits_below bits))
imm_fits (Branch width op d a o) h = immediate_fits a h.1
imm_fits (Atomic width op d s o) h = small_imm (atomic_number op) (atomic_below op)
imm_fits (Wide d what) h = wide_imm_fits what h.1
imm_fits _ h = search rules

pub fields_in_range : (i : Insn) → IsInsn i → AreFields (fields_of i)
fields_in_range i h =
    record { opcode = opcode_below i; dst = omega (arith, dst_is_reg i); src = omega (arith, src_is_reg i); off = offset_fits i h; imm = imm_fits i h }

-- ---- the values of fields in the bytes of a slot

value_of_opcode : (order : Order) (f : Fields) (r : List ℕ) → field_value order Opcode (encoded order f ++ r) ≡ f.opcode ∷ []
value_of_opcode Little f r = refl
value_of_opcode Big f r = refl

value_of_dst : (order : Order) (f : Fields) (r : List ℕ) → f.dst < 16 → f.src < 16 → field_value order Dst (encoded order f ++ r) ≡ f.dst ∷ []
value_of_dst Little f r d s = let e : (16 * f.src + f.dst) % 16 ≡ f.dst = omega arith in ap (λ (x : ℕ). x ∷ []) e
value_of_dst Big f r d s = let e : (16 * f.dst + f.src) / 16 ≡ f.dst = omega arith in ap (λ (x : ℕ). x ∷ []) e

value_of_src : (order : Order) (f : Fields) (r : List ℕ) → f.dst < 16 → f.src < 16 → field_value order Src (encoded order f ++ r) ≡ f.src ∷ []
value_of_src Little f r d s = let e : (16 * f.src + f.dst) / 16 ≡ f.src = omega arith in ap (λ (x : ℕ). x ∷ []) e
value_of_src Big f r d s = let e : (16 * f.dst + f.src) % 16 ≡ f.src = omega arith in ap (λ (x : ℕ). x ∷ []) e

value_of_off : (order : Order) (f : Fields) (r : List ℕ) → field_value order Offset (encoded order f ++ r) ≡ word16 order (cast_unsigned w16 f.off)
value_of_off Little f r = refl
value_of_off Big f r = refl

value_of_imm : (order : Order) (f : Fields) (r : List ℕ) → field_value order Imm (encoded order f ++ r) ≡ word32 order (cast_unsigned w32 f.imm)
value_of_imm Little f r = refl
value_of_imm Big f r = refl

-- ---- an instruction agrees with the bytes of a slot on the fields that have the same values

pub record Compared (order : Order) (i : Insn) (slot : Fields) (s : List ℕ) : Type 0 where
  pub opcode : Agrees order Opcode i s ↔ ((fields_of i).opcode ≡ slot.opcode)
  pub dst : Agrees order Dst i s ↔ ((fields_of i).dst ≡ slot.dst)
  pub src : Agrees order Src i s ↔ ((fields_of i).src ≡ slot.src)
  pub off : Agrees order Offset i s ↔ ((fields_of i).off ≡ slot.off)
  pub imm : Agrees order Imm i s ↔ ((fields_of i).imm ≡ slot.imm)

by_values : {X : Type 0} (encoded : X → List ℕ) (x y : X) (xs ys : List ℕ) → xs ≡ encoded x → ys ≡ encoded y → (encoded x ≡ encoded y → x ≡ y) → (xs ≡ ys) ↔ (x ≡ y)
by_values encoded x y xs ys a b same = (λ e. same (sym a ∙ e ∙ b), λ e. a ∙ ap encoded e ∙ sym b)

pub compared : (order : Order) (i : Insn) (slot : Fields) (rest : List ℕ) → IsInsn i → AreFields slot → Compared order i slot (encoded order slot ++ rest)
unfolding encoding
compared order i slot rest h a =
    let f = fields_of i in
    let q = second_slot order (next_imm_of i) in
    let b = fields_in_range i h in
    let byte : ℕ → List ℕ = λ n. n ∷ [] in
    record {
      opcode = by_values byte f.opcode slot.opcode _ _ (value_of_opcode order f q) (value_of_opcode order slot rest) (λ e. cc);
      dst = by_values byte f.dst slot.dst _ _ (value_of_dst order f q b.dst b.src) (value_of_dst order slot rest a.dst a.src) (λ e. cc);
      src = by_values byte f.src slot.src _ _ (value_of_src order f q b.dst b.src) (value_of_src order slot rest a.dst a.src) (λ e. cc);
      off = by_values (λ (n : ℤ). word16 order (cast_unsigned w16 n)) f.off slot.off _ _ (value_of_off order f q) (value_of_off order slot rest)
          (λ e. signed_16 f.off slot.off b.off a.off (word-injective_16 order _ _ (pattern_fits_16 f.off b.off) (pattern_fits_16 slot.off a.off) e));
      imm = by_values (λ (n : ℤ). word32 order (cast_unsigned w32 n)) f.imm slot.imm _ _ (value_of_imm order f q) (value_of_imm order slot rest)
          (λ e. signed_32 f.imm slot.imm b.imm a.imm (word-injective_32 order _ _ (pattern_fits_32 f.imm b.imm) (pattern_fits_32 slot.imm a.imm) e));
    }
