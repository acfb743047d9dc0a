-- The bytes of words that are written one after the other.
use Rattle.std.proofs.Common.{◌≡◌, ℕ, suc, ◌+◌, List, [], ◌∷◌, ◌++◌, ap, ◌∙◌, append-nil, arith}
use Rattle.std.proofs.lemmas.List.{Concat.flat_map-append}
use Rattle.bpf_words.specs.{declared.Order.Order, Words.word32}
use Rattle.btf_raw.specs.Frames.{bytes_of}
use Rattle.btf_types.specs.Reading.{tabulate}

-- one more word
pub bytes_more : (o : Order) (word : ℕ → ℕ) (k : ℕ) → bytes_of o (tabulate word (k + 1)) ≡ bytes_of o (tabulate word k) ++ word32 o (word k)
bytes_more o word k =
    let next : k + 1 ≡ suc k = omega arith in
    rw next
    (flat_map-append (word32 o) (tabulate word k) (word k ∷ [])
    ∙ ap (λ (t : List ℕ). bytes_of o (tabulate word k) ++ t) (append-nil (word32 o (word k))))
