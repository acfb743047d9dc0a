-- The bytes of a number or a slot determine it.
use Rattle.std.proofs.Common.{◌≡◌, ℕ, ◌<◌, ◌^◌, ℤ, refl, ap, sym, ◌∙◌, slice_index, slice_range, arith, FitsSigned}
use Rattle.std.specs.Int.{w16, w32, cast_unsigned, cast_signed, from_le_bytes, from_be_bytes}
use Rattle.std.proofs.lemmas.Nat.{from_le_bytes-to_le_bytes_2, from_be_bytes-to_be_bytes_2, from_le_bytes-to_le_bytes_4, from_be_bytes-to_be_bytes_4}
use Rattle.std.proofs.lemmas.Int.{ints, to_z-of_z}
use Rattle.bpf_words.specs.declared.Order.{Order, TheVariants.Little, TheVariants.Big}
use Rattle.bpf_words.specs.{Words.word16, Words.word32, Slots.Fields, Slots.AreFields, Slots.fields, Slots.encoded, Slots.register_byte}

pub word-injective_16 : (order : Order) (m n : ℕ) → m < 2 ^ 16 → n < 2 ^ 16 → word16 order m ≡ word16 order n → m ≡ n
word-injective_16 Little m n p q e = sym (from_le_bytes-to_le_bytes_2 m p) ∙ ap (from_le_bytes w16) e ∙ from_le_bytes-to_le_bytes_2 n q
word-injective_16 Big m n p q e = sym (from_be_bytes-to_be_bytes_2 m p) ∙ ap (from_be_bytes w16) e ∙ from_be_bytes-to_be_bytes_2 n q

pub word-injective_32 : (order : Order) (m n : ℕ) → m < 2 ^ 32 → n < 2 ^ 32 → word32 order m ≡ word32 order n → m ≡ n
word-injective_32 Little m n p q e = sym (from_le_bytes-to_le_bytes_4 m p) ∙ ap (from_le_bytes w32) e ∙ from_le_bytes-to_le_bytes_4 n q
word-injective_32 Big m n p q e = sym (from_be_bytes-to_be_bytes_4 m p) ∙ ap (from_be_bytes w32) e ∙ from_be_bytes-to_be_bytes_4 n q

pub signed_16 : (y z : ℤ) → FitsSigned w16 y → FitsSigned w16 z → cast_unsigned w16 y ≡ cast_unsigned w16 z → y ≡ z
signed_16 y z p q e = sym (to_z-of_z w16 y p) ∙ ap (cast_signed w16) e ∙ to_z-of_z w16 z q

pub signed_32 : (y z : ℤ) → FitsSigned w32 y → FitsSigned w32 z → cast_unsigned w32 y ≡ cast_unsigned w32 z → y ≡ z
signed_32 y z p q e = sym (to_z-of_z w32 y p) ∙ ap (cast_signed w32) e ∙ to_z-of_z w32 z q

pub pattern_fits_16 : (z : ℤ) → FitsSigned w16 z → cast_unsigned w16 z < 2 ^ 16
pattern_fits_16 z p = omega (arith, ints)

pub pattern_fits_32 : (z : ℤ) → FitsSigned w32 z → cast_unsigned w32 z < 2 ^ 32
pattern_fits_32 z p = omega (arith, ints)

pub registers_apart : (order : Order) (d s d' s' : ℕ) → d < 16 → s < 16 → d' < 16 → s' < 16
    → register_byte order d s ≡ register_byte order d' s' → (d ≡ d') × (s ≡ s')
registers_apart Little d s d' s' a b a' b' e = (omega arith, omega arith)
registers_apart Big d s d' s' a b a' b' e = (omega arith, omega arith)

-- the offset and the immediate of a slot
off_bytes : (order : Order) (f : Fields) → slice_range (encoded order f) 2 4 ≡ word16 order (cast_unsigned w16 f.off)
off_bytes Little f = refl
off_bytes Big f = refl

imm_bytes : (order : Order) (f : Fields) → slice_range (encoded order f) 4 8 ≡ word32 order (cast_unsigned w32 f.imm)
imm_bytes Little f = refl
imm_bytes Big f = refl

pub same_fields : (f g : Fields) → f.opcode ≡ g.opcode → f.dst ≡ g.dst → f.src ≡ g.src → f.off ≡ g.off → f.imm ≡ g.imm → f ≡ g
same_fields f g a b c d e =
    ap (λ (x : ℕ). fields x f.dst f.src f.off f.imm) a ∙ ap (λ (x : ℕ). fields g.opcode x f.src f.off f.imm) b
    ∙ ap (λ (x : ℕ). fields g.opcode g.dst x f.off f.imm) c ∙ ap (λ (x : ℤ). fields g.opcode g.dst g.src x f.imm) d
    ∙ ap (λ (x : ℤ). fields g.opcode g.dst g.src g.off x) e

pub encoded-injective : (order : Order) (f g : Fields) → AreFields f → AreFields g → encoded order f ≡ encoded order g → f ≡ g
encoded-injective order f g p q e =
    let opcode : f.opcode ≡ g.opcode = ap (λ xs. slice_index xs 0) e in
    let byte : register_byte order f.dst f.src ≡ register_byte order g.dst g.src = ap (λ xs. slice_index xs 1) e in
    let regs = registers_apart order f.dst f.src g.dst g.src p.dst p.src q.dst q.src byte in
    let off = signed_16 f.off g.off p.off q.off (word-injective_16 order _ _ (pattern_fits_16 f.off p.off) (pattern_fits_16 g.off q.off) (sym (off_bytes order f) ∙ ap (λ xs. slice_range xs 2 4) e ∙ off_bytes order g)) in
    let imm = signed_32 f.imm g.imm p.imm q.imm (word-injective_32 order _ _ (pattern_fits_32 f.imm p.imm) (pattern_fits_32 g.imm q.imm) (sym (imm_bytes order f) ∙ ap (λ xs. slice_range xs 4 8) e ∙ imm_bytes order g)) in
    same_fields f g opcode regs.0 regs.1 off imm
