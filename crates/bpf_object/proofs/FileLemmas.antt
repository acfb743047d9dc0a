-- Where the contents of sections are.
use Rattle.std.proofs.Common.{◌≡◌, ℕ, zero, suc, ◌+◌, ◌≤◌, ◌++◌, length, inl, inr, subst, length-append, arith}
use Rattle.std.proofs.lemmas.Bool.{cases_lt}
use Rattle.bpf_object.specs.File.{WrittenSection, contents, content_offset, padding}

-- the offset of the next content
pub offset_next : (s : ℕ → WrittenSection) (k : ℕ) → content_offset s (suc k) ≡ content_offset s k + (length (s k).content + length (padding (length (s k).content)))
offset_next s k =
    let outer = length-append (contents s k) ((s k).content ++ padding (length (s k).content)) in
    let inner = length-append (s k).content (padding (length (s k).content)) in
    omega (arith, outer, inner)

-- offsets grow
pub offset_grows : (s : ℕ → WrittenSection) (k n : ℕ) → k ≤ n → content_offset s k ≤ content_offset s n
offset_grows s k zero le = let same : k ≡ zero = omega arith in subst (λ (m : ℕ). content_offset s k ≤ content_offset s m) same (omega arith)
offset_grows s k (suc n) le =
    elim (cases_lt n k) [
      | inl above ↦ let same : k ≡ suc n = omega arith in subst (λ (m : ℕ). content_offset s k ≤ content_offset s m) same (omega arith)
      | inr below ↦ let before = offset_grows s k n below in let next = offset_next s n in omega (arith, before, next)
    ]
