-- The first bit in which two keys differ determines how many of their last bytes are equal.
use Rattle.std.proofs.Common.{◌≡◌, ◌≢◌, ℕ, suc, ◌+◌, ◌-◌, ◌*◌, ◌/◌, ◌%◌, ◌^◌, ◌<◌, ◌≤◌, inl, inr, get_or, sym, ap, ◌∙◌, arith}
use Rattle.std.proofs.lemmas.{Bool.cases_lt, Nat.xor_shr, Nat.xor_lt, Nat.pow-add, Nat.pow_pos, Nat.leading_length}
use Rattle.std.specs.Int.{w64, to_le_bytes, Bits.bit_xor, Bits.xor_self, Bits.xor_assoc, Bits.xor_zero_l, Bits.xor_zero_r, Count.count_leading_zeros}
use Rattle.std.proofs.Math.{Nat.div-eq_of_lt, Nat.div-div-eq-div-mul, Nat.lt-div-mul-add, Nat.pow-suc, Pow.pow_mono}

byte_is : (n i : ℕ) → i < 8 → get_or (to_le_bytes w64 n) i 0 ≡ n / 2 ^ (8 * i) % 256
byte_is n i h = grind arith

xor_none : (a b : ℕ) → bit_xor a b ≡ 0 → a ≡ b
xor_none a b e = sym (xor_zero_r a) ∙ ap (bit_xor a) (sym (xor_self b)) ∙ sym (xor_assoc a b b) ∙ ap (λ (n : ℕ). bit_xor n b) e ∙ xor_zero_l b

lt-from_div : (n k : ℕ) → 0 < k → n / k ≡ 0 → n < k
lt-from_div n k p e = omega (arith, lt-div-mul-add {a = n} {b = k} p, ap (λ (m : ℕ). m * k) e)

module _ (a b : ℕ) (p : a < 2 ^ 64) (q : b < 2 ^ 64) where
  abbrev zeros : ℕ
  zeros = count_leading_zeros 64 (bit_xor a b)

  -- the bits above the first one that differs are the same
  above : (k : ℕ) → 64 ≤ k + zeros → a / 2 ^ k ≡ b / 2 ^ k
  above k h =
      let found = leading_length 64 (bit_xor a b) (xor_lt 64 a b p q) in
      let fits : 2 ^ found.0 ≤ 2 ^ k = pow_mono (omega (arith, found.1, h)) in
      xor_none (a / 2 ^ k) (b / 2 ^ k) (sym (xor_shr a b k) ∙ div-eq_of_lt (omega (arith, found.2, fits)))

  -- and if that is the same, the first bits are
  below : (k : ℕ) → a / 2 ^ k ≡ b / 2 ^ k → 64 ≤ k + zeros
  below k e =
      let found = leading_length 64 (bit_xor a b) (xor_lt 64 a b p q) in
      let none : bit_xor a b / 2 ^ k ≡ 0 = xor_shr a b k ∙ ap (λ (n : ℕ). bit_xor n (b / 2 ^ k)) e ∙ xor_self (b / 2 ^ k) in
      let small : bit_xor a b < 2 ^ k = lt-from_div (bit_xor a b) (2 ^ k) (pow_pos k) none in
      elim (cases_lt k found.0) [
        | inr g ↦ omega (arith, g, found.1)
        | inl l ↦
            let more : 2 ^ suc k ≤ 2 ^ found.0 = pow_mono (omega (arith, l)) in
            absurd (omega (arith, more, found.3, small, pow-suc 2 k))
      ]

  pub same_bytes : (j : ℕ) → j < zeros / 8 → get_or (to_le_bytes w64 a) (7 - j) 0 ≡ get_or (to_le_bytes w64 b) (7 - j) 0
  same_bytes j h = byte_is a (7 - j) (omega arith) ∙ ap (λ (n : ℕ). n % 256) (above (8 * (7 - j)) (omega (arith, h))) ∙ sym (byte_is b (7 - j) (omega arith))

  step : (n k : ℕ) → n / 2 ^ k ≡ n / 2 ^ (k + 8) * 256 + n / 2 ^ k % 256
  step n k = omega (arith, div-div-eq-div-mul n (2 ^ k) 256, ap (λ (m : ℕ). n / m) (pow-add 2 k 8))

  pub differing_byte : zeros / 8 < 8 → get_or (to_le_bytes w64 a) (7 - zeros / 8) 0 ≢ get_or (to_le_bytes w64 b) (7 - zeros / 8) 0
  differing_byte h e =
      let k = 8 * (7 - zeros / 8) in
      let byte : a / 2 ^ k % 256 ≡ b / 2 ^ k % 256 = sym (byte_is a (7 - zeros / 8) (omega (arith, h))) ∙ e ∙ byte_is b (7 - zeros / 8) (omega (arith, h)) in
      let high : a / 2 ^ (k + 8) ≡ b / 2 ^ (k + 8) = above (k + 8) (omega (arith, h)) in
      let all : a / 2 ^ k ≡ b / 2 ^ k = omega (arith, step a k, step b k, byte, high) in
      omega (arith, below k all, h)

-- what the search cites of the bytes of two keys
pub ruleset byte_cases = (same_bytes, differing_byte)
