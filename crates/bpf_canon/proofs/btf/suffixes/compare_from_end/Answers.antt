use Rattle.std.proofs.Common.{rules, ◌≡◌, ℕ, ◌-◌, ◌<◌, inl, inr, ◌⊎◌, length, get_or, arith, ap, ◌∙◌, sym, List}
use Rattle.std.specs.Ordering.{nat_cmp}
use Rattle.btf_types.specs.strings.SharedNames.{suffix_cmp}
use Rattle.bpf_canon.specs.btf.strings.SuffixKeys.{suffix_key}
use Rattle.bpf_canon.proofs.BtfLemmas.Strings.SuffixKeys.{key_apart, key_alike, key_ends}
use Rattle.bpf_canon.proofs.btf.suffixes.compare_from_end.Goals as goal
use Rattle.bpf_canon.proofs.btf.suffixes.compare_from_end.Goals.{then-ends-test+else-second-ge8, else-ends-test}

apart : (x y : List ℕ) (k m : ℕ) → ((i : ℕ) → get_or x i 0 < 256) → ((i : ℕ) → get_or y i 0 < 256) → k ≡ suffix_key x → m ≡ suffix_key y → (k ≡ m → ⊥) → nat_cmp k m ≡ suffix_cmp x y
apart x y k m p q e f n =
    ap (λ (t : ℕ). nat_cmp t m) e ∙ ap (nat_cmp (suffix_key x)) f ∙ key_apart x y p q (λ s. n (e ∙ s ∙ sym f))

pub returns-then-x-y : goal.returns-then-x-y
returns-then-x-y c =
    let x = c.ends.first.now in
    let y = c.ends.second.now in
    let a : c.cmp.result ≡ nat_cmp c.suffix_key-x.result c.suffix_key-y.result = search rules in
    a ∙ apart x y c.suffix_key-x.result c.suffix_key-y.result c.suffix_key-x.ensures.bytes c.suffix_key-y.ensures.bytes c.suffix_key-x.ensures.key c.suffix_key-y.ensures.key c.if-x-y.true ∙ c.ends.invariant

pub ends-preserved : goal.ends-preserved
ends-preserved c =
    let x = c.ends.first.now in
    let y = c.ends.second.now in
    key_alike x y (length x - 8) (length y - 8) c.suffix_key-x.ensures.bytes c.suffix_key-y.ensures.bytes (sym c.suffix_key-x.ensures.key ∙ c.if-x-y.false ∙ c.suffix_key-y.ensures.key) (omega arith) (omega arith) ∙ c.ends.invariant

pub returns-then-x-y-2 : goal.returns-then-x-y-2
returns-then-x-y-2 c =
    let x = c.ends.first.now in
    let y = c.ends.second.now in
    let a : c.cmp-then-x-y-2.result ≡ nat_cmp c.suffix_key-x-2.result c.suffix_key-y-2.result = search rules in
    a ∙ apart x y c.suffix_key-x-2.result c.suffix_key-y-2.result c.suffix_key-x-2.ensures.bytes c.suffix_key-y-2.ensures.bytes c.suffix_key-x-2.ensures.key c.suffix_key-y-2.ensures.key c.if-x-y-2.true ∙ c.ends.invariant

pub returns : goal.returns
returns c =
    let x = c.ends.first.now in
    let y = c.ends.second.now in
    let a : c.cmp-2.result ≡ nat_cmp (length x) (length y) = search rules in
    let short : (length x < 8) ⊎ (length y < 8) = elim c.ends-test.branch [
      | then-ends-test+else-second-ge8 w ↦ inr (omega arith)
      | else-ends-test w ↦ inl (omega arith)
    ] in
    a ∙ key_ends x y c.suffix_key-x-2.ensures.bytes c.suffix_key-y-2.ensures.bytes (sym c.suffix_key-x-2.ensures.key ∙ c.if-x-y-2.false ∙ c.suffix_key-y-2.ensures.key) short ∙ c.ends.invariant
