use Rattle.std.proofs.Common.{◌≡◌, ℕ, ℤ, List, ◌∷◌, ◌++◌, length, get_or, drop, ap, ◌∙◌, arith}
use Rattle.std.specs.Prelude.{slice_range}
use Rattle.std.specs.Int.{w16, w32, cast_signed, cast_unsigned}
use Rattle.std.proofs.lemmas.{Grind.common_steps, Int.to_z-of_z, List.length-take, List.length-drop}
use Rattle.bpf_words.specs.declared.Order.{Order, TheVariants.Little, TheVariants.Big}
use Rattle.bpf_words.specs.Words.{IsBytes, word16, word32, word16_at, word32_at}
use Rattle.bpf_words.proofs.WordLemmas.{IsBytes-drop, IsBytes-take, signed16, signed32}
use Rattle.bpf_words.proofs.slot.slot_of.Goals as goal

-- 8 bytes are an opcode, a register byte and two signed numbers
eight : (o : Order) (bytes : List ℕ) (byte : ℕ) (off imm : ℤ) → length bytes ≡ 8 → IsBytes bytes → byte ≡ get_or bytes 1 0
    → off ≡ cast_signed w16 (word16_at o (slice_range bytes 2 4) 0) → imm ≡ cast_signed w32 (word32_at o (slice_range bytes 4 8) 0)
    → bytes ≡ get_or bytes 0 0 ∷ byte ∷ (word16 o (cast_unsigned w16 off) ++ word32 o (cast_unsigned w32 imm))
eight o bytes byte off imm n below r s t =
    let two = signed16 o (slice_range bytes 2 4) (omega (arith, n, length-take 2 (drop 2 bytes), length-drop 2 bytes)) (IsBytes-take 2 (drop 2 bytes) (IsBytes-drop 2 bytes below)) in
    let four = signed32 o (slice_range bytes 4 8) (omega (arith, n, length-take 4 (drop 4 bytes), length-drop 4 bytes)) (IsBytes-take 4 (drop 4 bytes) (IsBytes-drop 4 bytes below)) in
    rw (r, s, t, two, four) (grind (arith, common_steps))

pub returns-in-Little-clause-encoded : goal.returns-in-Little-clause-encoded
returns-in-Little-clause-encoded c = rw (c.in-Little.is, to_z-of_z w16 c.read_i16.result (record { sfits = c.read_i16.type_inv }), to_z-of_z w32 c.read_i32.result (record { sfits = c.read_i32.type_inv }))
    (eight Little c.args.bytes.now _ _ _ c.told-bytes c.fits-bytes (omega arith) (c.read_i16.ensures ∙ ap (cast_signed w16) (omega arith)) (c.read_i32.ensures ∙ ap (cast_signed w32) (omega arith)))

pub returns-in-Big-clause-encoded : goal.returns-in-Big-clause-encoded
returns-in-Big-clause-encoded c = rw (c.in-Big.is, to_z-of_z w16 c.read_i16-in-Big.result (record { sfits = c.read_i16-in-Big.type_inv }), to_z-of_z w32 c.read_i32-in-Big.result (record { sfits = c.read_i32-in-Big.type_inv }))
    (eight Big c.args.bytes.now _ _ _ c.told-bytes c.fits-bytes (omega arith) (c.read_i16-in-Big.ensures ∙ ap (cast_signed w16) (omega arith)) (c.read_i32-in-Big.ensures ∙ ap (cast_signed w32) (omega arith)))
