-- A slot is plain if the bits that its opcode's rule requires to be 0 are 0, and its registers are at most 10.
use Rattle.std.proofs.Common.{◌≡◌, ℕ, suc, ◌-◌, ◌+◌, ◌*◌, ◌^◌, ◌<◌, ◌≤◌, pos, List, Bool, true, false, Option, Some, None, refl, ap, sym, ◌∙◌, arith, lit<, slice_index, bit_and, bit_or}
use Rattle.std.specs.{Bool.OnFalse, Option.IsSomeAnd, Int.w16, Int.w32, Int.w64, Int.cast_unsigned, Int.from_le_bytes}
use Rattle.std.specs.Prelude.{IsTrue, ◌==◌}
use Rattle.std.proofs.lemmas.{Bool.Decides.nat_tests, Int.ints}
use Rattle.std.proofs.Math.Nat.{mod-eq_of_lt}
use Rattle.std.proofs.lemmas.Nat.{and_block, and_mask, and_comm, and_or_self, and_or_apart, le_or_l, le_or_r, from_le_bytes-to_le_bytes_2, from_le_bytes-to_le_bytes_4}
use Rattle.bpf_words.specs.declared.Order.{Order, TheVariants.Little, TheVariants.Big}
use Rattle.bpf_words.specs.{Words.word16, Words.word32, Slots.Fields, Slots.AreFields, Slots.register_byte, Slots.encoded}
use Rattle.bpf_words.proofs.OneEncoding.{signed_16, signed_32, pattern_fits_16, pattern_fits_32}
use Rattle.bpf_insn.specs.Plain.{Rule, IsWithin, IsPlain, rule_at, zero_unless, rule_bits, bits_of, zero_bits_at, registers_above}

-- ---- the number of a slot, by its fields

abbrev joined : ℕ → ℕ → ℕ → ℕ → ℕ
joined op registers off imm = ((imm * 2 ^ 16 + off) * 2 ^ 8 + registers) * 2 ^ 8 + op

off_of : Order → Fields → ℕ
off_of order f = from_le_bytes w16 (word16 order (cast_unsigned w16 f.off))

imm_of : Order → Fields → ℕ
imm_of order f = from_le_bytes w32 (word32 order (cast_unsigned w32 f.imm))

number_by_fields : (order : Order) (f : Fields) → from_le_bytes w64 (encoded order f) ≡ joined f.opcode (register_byte order f.dst f.src) (off_of order f) (imm_of order f)
unfolding off_of imm_of
number_by_fields Little f = omega arith
number_by_fields Big f = omega arith

-- ---- each field by itself

and_joined : (op r o k R O K : ℕ) → op < 2 ^ 8 → r < 2 ^ 8 → R < 2 ^ 8 → o < 2 ^ 16 → O < 2 ^ 16
    → bit_and (joined op r o k) (joined 0 R O K) ≡ joined (bit_and op 0) (bit_and r R) (bit_and o O) (bit_and k K)
and_joined op r o k R O K hop hr hR ho hO =
    and_block 8 _ _ op 0 hop (lit< tt)
    ∙ ap (λ (x : ℕ). x * 2 ^ 8 + bit_and op 0) (and_block 8 _ _ r R hr hR
    ∙ ap (λ (x : ℕ). x * 2 ^ 8 + bit_and r R) (and_block 16 k K o O ho hO))

nibbles : (a b c e x y : ℕ) → bit_and (a * 2 ^ 4 + b) (c * 2 ^ 4 + e) ≡ y * 2 ^ 4 + x → bit_and (16 * a + b) (16 * c + e) ≡ 16 * y + x
nibbles a b c e x y h = grind arith

and_registers : (order : Order) (d s D S : ℕ) → d < 2 ^ 4 → s < 2 ^ 4 → D < 2 ^ 4 → S < 2 ^ 4
    → bit_and (register_byte order d s) (register_byte order D S) ≡ register_byte order (bit_and d D) (bit_and s S)
and_registers Little d s D S hd hs hD hS = nibbles s d S D (bit_and d D) (bit_and s S) (and_block 4 s S d D hd hD)
and_registers Big d s D S hd hs hD hS = nibbles d s D S (bit_and s S) (bit_and d D) (and_block 4 d D s S hs hS)

below : (any : Bool) (all : ℕ) → zero_unless any all < suc all
below true all = omega arith
below false all = omega arith

zero_masked : (any : Bool) (n k : ℕ) → n < 2 ^ k → bit_and n (zero_unless any (2 ^ k - 1)) ≡ 0 → OnFalse any (n ≡ 0)
zero_masked true n k h e = tt
zero_masked false n k h e = sym (mod-eq_of_lt h) ∙ sym (and_mask n k) ∙ e

on_false : (any : Bool) {A B : Type 0} → (A → B) → OnFalse any A → OnFalse any B
on_false true f h = tt
on_false false f h = f h

-- a number is 0 if its bytes are
zero_word16 : (order : Order) (n : ℕ) → n < 2 ^ 16 → from_le_bytes w16 (word16 order n) ≡ 0 → n ≡ 0
zero_word16 Little n h e = sym (from_le_bytes-to_le_bytes_2 n h) ∙ e
zero_word16 Big n h e = omega arith

zero_word32 : (order : Order) (n : ℕ) → n < 2 ^ 32 → from_le_bytes w32 (word32 order n) ≡ 0 → n ≡ 0
zero_word32 Little n h e = sym (from_le_bytes-to_le_bytes_4 n h) ∙ e
zero_word32 Big n h e = omega arith

word16_below : (order : Order) (n : ℕ) → from_le_bytes w16 (word16 order n) < 2 ^ 16
word16_below Little n = omega arith
word16_below Big n = omega arith

word32_below : (order : Order) (n : ℕ) → from_le_bytes w32 (word32 order n) < 2 ^ 32
word32_below Little n = omega arith
word32_below Big n = omega arith

no_off : (order : Order) (f : Fields) → AreFields f → off_of order f ≡ 0 → f.off ≡ pos 0
unfolding off_of
no_off order f a e = signed_16 f.off (pos 0) a.off (omega (arith, ints)) (zero_word16 order _ (pattern_fits_16 f.off a.off) e)

no_imm : (order : Order) (f : Fields) → AreFields f → imm_of order f ≡ 0 → f.imm ≡ pos 0
unfolding imm_of
no_imm order f a e = signed_32 f.imm (pos 0) a.imm (omega (arith, ints)) (zero_word32 order _ (pattern_fits_32 f.imm a.imm) e)

-- ---- the entire slot

registers_below : (order : Order) (d s : ℕ) → d < 16 → s < 16 → register_byte order d s < 2 ^ 8
registers_below Little d s hd hs = omega arith
registers_below Big d s hd hs = omega arith

up_to_ten : (order : Order) (d s : ℕ) → d < 16 → s < 16 → registers_above (register_byte order d s) ≡ 0 → (d ≤ 10) × (s ≤ 10)
up_to_ten Little d s hd hs e = (omega arith, omega arith)
up_to_ten Big d s hd hs e = (omega arith, omega arith)

no_registers : (order : Order) (d s : ℕ) → register_byte order d s ≡ 0 → (d ≡ 0) × (s ≡ 0)
no_registers Little d s e = (omega arith, omega arith)
no_registers Big d s e = (omega arith, omega arith)

off_below : (order : Order) (f : Fields) → off_of order f < 2 ^ 16
unfolding off_of
off_below order f = word16_below order _

imm_below : (order : Order) (f : Fields) → imm_of order f < 2 ^ 32
unfolding imm_of
imm_below order f = word32_below order _

rule_joined : (order : Order) (r : Rule)
    → rule_bits order r ≡ joined 0 (register_byte order (zero_unless r.any_dst 0xf) (zero_unless r.any_src 0xf)) (zero_unless r.any_off 0xffff) (zero_unless r.any_imm 0xffffffff)
rule_joined order r = omega arith

joined_zero : (op r o k : ℕ) → joined op r o k ≡ 0 → (r ≡ 0) × ((o ≡ 0) × (k ≡ 0))
joined_zero op r o k e = (omega arith, (omega arith, omega arith))

within : (order : Order) (f : Fields) (r : Rule) → AreFields f → bit_and (from_le_bytes w64 (encoded order f)) (rule_bits order r) ≡ 0
    → registers_above (register_byte order f.dst f.src) ≡ 0 → IsWithin r f
within order f r a e above =
    let D = zero_unless r.any_dst 0xf in
    let S = zero_unless r.any_src 0xf in
    let parts = joined_zero _ _ _ _ (
    sym (and_joined f.opcode (register_byte order f.dst f.src) (off_of order f) (imm_of order f) (register_byte order D S) (zero_unless r.any_off 0xffff) (zero_unless r.any_imm 0xffffffff)
    a.opcode (registers_below order f.dst f.src a.dst a.src) (registers_below order D S (below r.any_dst 15) (below r.any_src 15)) (off_below order f) (below r.any_off 0xffff))
    ∙ sym (ap (λ (x : ℕ). bit_and x (joined 0 (register_byte order D S) (zero_unless r.any_off 0xffff) (zero_unless r.any_imm 0xffffffff))) (number_by_fields order f))
    ∙ sym (ap (λ (x : ℕ). bit_and (from_le_bytes w64 (encoded order f)) x) (rule_joined order r))
    ∙ e) in
    let regs = no_registers order _ _ (sym (and_registers order f.dst f.src D S a.dst a.src (below r.any_dst 15) (below r.any_src 15)) ∙ parts.0) in
    let ten = up_to_ten order f.dst f.src a.dst a.src above in
    record {
      dst = ten.0;
      src = ten.1;
      no_dst = zero_masked r.any_dst f.dst 4 a.dst regs.0;
      no_src = zero_masked r.any_src f.src 4 a.src regs.1;
      no_off = on_false r.any_off (no_off order f a) (zero_masked r.any_off (off_of order f) 16 (off_below order f) parts.1.0);
      no_imm = on_false r.any_imm (no_imm order f a) (zero_masked r.any_imm (imm_of order f) 32 (imm_below order f) parts.1.1);
    }

even : (order : Order) (r : Rule) → bit_and 1 (rule_bits order r) ≡ 0
even order r = and_comm 1 (rule_bits order r) ∙ and_mask (rule_bits order r) 1 ∙ omega arith

by_rule : (order : Order) (f : Fields) (o : Option Rule) → AreFields f → bit_and (bit_or (from_le_bytes w64 (encoded order f)) 1) (bits_of order o) ≡ 0
    → registers_above (register_byte order f.dst f.src) ≡ 0 → IsSomeAnd o (λ r. IsWithin r f)
by_rule order f None a e above = absurd (omega (arith, e, and_or_self 1 (from_le_bytes w64 (encoded order f))))
by_rule order f (Some r) a e above = within order f r a (sym (and_or_apart (rule_bits order r) (from_le_bytes w64 (encoded order f)) 1 (even order r)) ∙ e) above

second_byte : (order : Order) (f : Fields) → slice_index (encoded order f) 1 ≡ register_byte order f.dst f.src
second_byte Little f = refl
second_byte Big f = refl

is_zero : (n : ℕ) (b : Bool) → b ≡ (n == 0) → b ≡ true → n ≡ 0
is_zero n b e t = grind (arith, nat_tests)

-- a slot is plain if the check of its bits and registers returns 0
pub plain_by_bits : (order : Order) (f : Fields) (bytes : List ℕ) (word bits above : ℕ) → AreFields f → bytes ≡ encoded order f → word ≡ from_le_bytes w64 bytes
    → bits ≡ zero_bits_at order f.opcode → above ≡ registers_above (slice_index bytes 1) → IsTrue (bit_or (bit_and (bit_or word 1) bits) above == 0) → IsPlain f
plain_by_bits order f bytes word bits above a e hw hb ha reported =
    let h = is_zero (bit_or (bit_and (bit_or word 1) bits) above) _ refl reported in
    let left : bit_and (bit_or word 1) bits ≡ 0 = omega (arith, h, le_or_l (bit_and (bit_or word 1) bits) above) in
    let right : above ≡ 0 = omega (arith, h, le_or_r (bit_and (bit_or word 1) bits) above) in
    let number : word ≡ from_le_bytes w64 (encoded order f) = hw ∙ ap (from_le_bytes w64) e in
    by_rule order f (rule_at f.opcode) a
    (sym (ap (λ (x : ℕ). bit_and (bit_or x 1) (zero_bits_at order f.opcode)) number) ∙ sym (ap (λ (x : ℕ). bit_and (bit_or word 1) x) hb) ∙ left)
    (sym (ap registers_above (sym (second_byte order f))) ∙ sym (ap (λ (xs : List ℕ). registers_above (slice_index xs 1)) e) ∙ sym ha ∙ right)
