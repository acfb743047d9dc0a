-- Any 8 bytes are the encoding of a slot, and an encoding has 8 bytes.
use Rattle.std.proofs.Common.{◌≡◌, ℕ, ◌^◌, ◌<◌, List, [], ◌∷◌, ◌++◌, length, refl, ap, sym, ◌∙◌, arith}
use Rattle.std.specs.Int.{w16, w32, cast_unsigned, cast_signed}
use Rattle.std.proofs.lemmas.Int.{ints, of_z-to_z}
use Rattle.bpf_words.specs.declared.Order.{Order, TheVariants.Little, TheVariants.Big}
use Rattle.bpf_words.specs.Words.{IsBytes, word16, word32, word16_at, word32_at}
use Rattle.bpf_words.specs.Slots.{Fields, AreFields, dst_half, fields, register_byte, encoded, src_half}
use Rattle.bpf_words.proofs.WordLemmas.{IsBytes-take, IsBytes-drop, word16-word16_at, word32-word32_at, word32_at-below}

pub slot_length : (order : Order) (f : Fields) → length (encoded order f) ≡ 8
slot_length Little f = refl
slot_length Big f = refl

halves : (order : Order) (b : ℕ) → register_byte order (dst_half order b) (src_half order b) ≡ b
halves Little b = omega arith
halves Big b = omega arith

dst_below : (order : Order) (b : ℕ) → b < 256 → dst_half order b < 16
dst_below Little b h = omega arith
dst_below Big b h = omega arith

src_below : (order : Order) (b : ℕ) → b < 256 → src_half order b < 16
src_below Little b h = omega arith
src_below Big b h = omega arith

word16_below : (order : Order) (bytes : List ℕ) → IsBytes bytes → word16_at order bytes 0 < 2 ^ 16
word16_below Little bytes h = omega (arith, h 0, h 1)
word16_below Big bytes h = omega (arith, h 0, h 1)

pub any_slot : (order : Order) (bytes : List ℕ) → length bytes ≡ 8 → IsBytes bytes → (slot : Fields) × (AreFields slot × (bytes ≡ encoded order slot))
any_slot order (op ∷ registers ∷ c ∷ d ∷ e ∷ f ∷ g ∷ h ∷ []) n fits =
    let offset : IsBytes (c ∷ d ∷ []) = IsBytes-take 2 (c ∷ d ∷ e ∷ f ∷ g ∷ h ∷ []) (IsBytes-drop 2 (op ∷ registers ∷ c ∷ d ∷ e ∷ f ∷ g ∷ h ∷ []) fits) in
    let immediate : IsBytes (e ∷ f ∷ g ∷ h ∷ []) = IsBytes-drop 4 (op ∷ registers ∷ c ∷ d ∷ e ∷ f ∷ g ∷ h ∷ []) fits in
    let off : ℕ = word16_at order (c ∷ d ∷ []) 0 in
    let imm : ℕ = word32_at order (e ∷ f ∷ g ∷ h ∷ []) 0 in
    let off_fits : off < 2 ^ 16 = word16_below order _ offset in
    let imm_fits : imm < 2 ^ 32 = word32_at-below order _ 0 immediate in (
      fields op (dst_half order registers) (src_half order registers) (cast_signed w16 off) (cast_signed w32 imm),
      (
        record {
          opcode = fits 0;
          dst = dst_below order registers (fits 1);
          src = src_below order registers (fits 1);
          off = omega (arith, ints);
          imm = omega (arith, ints);
        },
        ap (λ (r : ℕ). op ∷ r ∷ c ∷ d ∷ e ∷ f ∷ g ∷ h ∷ []) (sym (halves order registers))
            ∙ ap (λ (xs : List ℕ). op ∷ register_byte order (dst_half order registers) (src_half order registers) ∷ (xs ++ e ∷ f ∷ g ∷ h ∷ []))
            (sym (ap (λ (n : ℕ). word16 order n) (of_z-to_z w16 off off_fits) ∙ word16-word16_at order _ offset (omega arith)))
            ∙ ap (λ (xs : List ℕ). op ∷ register_byte order (dst_half order registers) (src_half order registers) ∷ (word16 order (cast_unsigned w16 (cast_signed w16 off)) ++ xs))
            (sym (ap (λ (n : ℕ). word32 order n) (of_z-to_z w32 imm imm_fits) ∙ word32-word32_at order _ 0 immediate (omega arith))),
      ),
    )
any_slot order _ n fits = absurd (omega (arith, n))
