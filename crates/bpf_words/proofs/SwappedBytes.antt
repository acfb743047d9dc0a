-- The bytes of a slot in the other order, by the 64-bit number that they encode.
use Rattle.std.proofs.Common.{◌≡◌, ◌≢◌, ◌<◌, ◌+◌, ◌*◌, ◌/◌, ◌%◌, ◌^◌, ◌∙◌, ℕ, zero, List, [], ◌∷◌, length, slice_index, refl, ap, arith, bit_and, lit<}
use Rattle.std.specs.Int.{w64, from_le_bytes, to_le_bytes}
use Rattle.std.proofs.lemmas.Nat.{and_block, and_mask, le_bytes_8}
use Rattle.bpf_words.specs.declared.Order.{Order}
use Rattle.bpf_words.specs.{Words.IsBytes, Slots.AreFields, Slots.Fields, Slots.encoded}

-- ---- the bytes of halfwords exchanged

-- the lowest halfword of a number, and the rest of it, are masked by themselves
and_part : (word mask low : ℕ) → low < 2 ^ 16 → bit_and word (mask * 2 ^ 16 + low) ≡ bit_and (word / 2 ^ 16) mask * 2 ^ 16 + bit_and (word % 2 ^ 16) low
and_part word mask low h =
    let parts : word ≡ word / 2 ^ 16 * 2 ^ 16 + word % 2 ^ 16 = omega arith in
    let below : word % 2 ^ 16 < 2 ^ 16 = omega arith in
    ap (λ (x : ℕ). bit_and x (mask * 2 ^ 16 + low)) parts ∙ and_block 16 (word / 2 ^ 16) mask (word % 2 ^ 16) low below h

-- the low bytes of all halfwords but the lowest
low_bytes : (word : ℕ) → bit_and word 0x00ff00ff00ff0000 ≡ word / 2 ^ 16 % 2 ^ 8 * 2 ^ 16 + word / 2 ^ 32 % 2 ^ 8 * 2 ^ 32 + word / 2 ^ 48 % 2 ^ 8 * 2 ^ 48
low_bytes word =
    let second = word / 2 ^ 16 in
    let third = word / 2 ^ 16 / 2 ^ 16 in
    let fourth = word / 2 ^ 16 / 2 ^ 16 / 2 ^ 16 in
    omega (
      arith,
      and_part word 0x00ff00ff00ff 0 (lit< tt),
      and_mask (word % 2 ^ 16) 0,
      and_part second 0x00ff00ff 0xff (lit< tt),
      and_mask (second % 2 ^ 16) 8,
      and_part third 0xff 0xff (lit< tt),
      and_mask (third % 2 ^ 16) 8,
      and_mask fourth 8,
    )

-- the three upper halfwords with their bytes exchanged, and 0 for the lowest one
abbrev pub swapped_halfwords : ℕ → ℕ
swapped_halfwords word =
    word / 0x10000 % 0x100 * 0x1000000 + word / 0x1000000 % 0x100 * 0x10000
    + word / 0x100000000 % 0x100 * 0x10000000000 + word / 0x10000000000 % 0x100 * 0x100000000
    + word / 0x1000000000000 % 0x100 * 0x100000000000000 + word / 0x100000000000000 % 0x100 * 0x1000000000000

pub halfwords_swapped : (word : ℕ) → bit_and word 0x00ff00ff00ff0000 * 0x100 + bit_and (word / 0x100) 0x00ff00ff00ff0000 ≡ swapped_halfwords word
halfwords_swapped word = omega (arith, low_bytes word, low_bytes (word / 0x100))

-- ---- the bytes of a slot

-- the halves of the register byte, the bytes of the offset and those of the immediate in reverse
abbrev exchanged : List ℕ → List ℕ
exchanged s =
    slice_index s 0 ∷ (slice_index s 1 % 16 * 16 + slice_index s 1 / 16) ∷ slice_index s 3 ∷ slice_index s 2
    ∷ slice_index s 7 ∷ slice_index s 6 ∷ slice_index s 5 ∷ slice_index s 4 ∷ []

exchanged_fit : (s : List ℕ) → IsBytes s → IsBytes (exchanged s)
exchanged_fit s fits zero = fits 0
exchanged_fit s fits i = grind arith

-- opcode, registers, offset and immediate, the last two by the exchanged halfwords
abbrev slot_number : ℕ → ℕ → ℕ
slot_number word halfwords =
    word % 0x100 + (word / 0x100 % 0x10 * 0x1000 + word / 0x1000 % 0x10 * 0x100) + halfwords % 0x100000000
    + (halfwords / 0x100000000 % 0x10000 * 0x1000000000000 + halfwords / 0x1000000000000 * 0x100000000)

-- the number of a slot, and that of the slot in the other order
number_exchanged : (s : List ℕ) (word halfwords : ℕ) → length s ≡ 8 → IsBytes s → word ≡ from_le_bytes w64 s
    → halfwords ≡ swapped_halfwords word
    → slot_number word halfwords ≡ from_le_bytes w64 (exchanged s)
number_exchanged s word halfwords long fits is parts = omega arith

-- the bytes of a slot, read as numbers and exchanged, are those in the other order
exchanged_encoded : (order to : Order) → order ≢ to → (f : Fields) → AreFields f → exchanged (encoded order f) ≡ encoded to f
exchanged_encoded order to other f fit = grind arith

pub slot_swapped : (order to : Order) → order ≢ to → (s : List ℕ) (word halfwords n : ℕ) → length s ≡ 8 → IsBytes s → word ≡ from_le_bytes w64 s
    → halfwords ≡ swapped_halfwords word
    → n ≡ slot_number word halfwords
    → (f : Fields) → AreFields f → s ≡ encoded order f → to_le_bytes w64 n ≡ encoded to f
slot_swapped order to other s word halfwords n long fits is parts whole f fit read =
    le_bytes_8 (exchanged s) n refl (exchanged_fit s fits) (whole ∙ number_exchanged s word halfwords long fits is parts)
    ∙ ap exchanged read ∙ exchanged_encoded order to other f fit
