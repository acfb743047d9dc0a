-- The string at an offset ends before the first NUL.
use Rattle.std.proofs.Common.{◌≡◌, ℕ, ◌+◌, ◌-◌, ◌==◌, Bool, true, false, not, List, length, take, drop, refl, arith}
use Rattle.std.proofs.lemmas.List.Sums.{prefix_len_is}
use Rattle.memchr.specs.Find.{NoneBefore, Passes, is_byte}
use Rattle.bpf_elf.specs.Names.{string_at}

not_passing : (x : Bool) → ¬ (x ≡ true) → not x ≡ true
not_passing true h = absurd (h refl)
not_passing false h = refl

passing : (x : Bool) → x ≡ true → not x ≡ false
passing true h = refl
passing false h = cc

pub string_found : (s : List ℕ) (off k : ℕ) → NoneBefore (Passes (is_byte 0) (drop off s)) 0 (length (drop off s)) k → Passes (is_byte 0) (drop off s) k
    → take (off + k - off) (drop off s) ≡ string_at s off
string_found s off k none here =
    let rest = drop off s in
    let inside = none.high in
    let found =
    prefix_len_is (λ c. not (c == 0)) rest k 0 (omega (arith, inside)) (λ i lt. not_passing _ (none.before i (omega arith) lt)) (λ _. passing _ here) in
    let same : off + k - off ≡ k = omega arith in
    rw (same, found) refl
