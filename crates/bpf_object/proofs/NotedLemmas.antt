-- The strings of .BTF.ext that are noted.
use Rattle.std.proofs.Common.{◌≡◌, ℕ, ◌+◌, Bool, cond, List, [], ◌∷◌, ◌++◌, refl, ◌∙◌, ap, sym, add-one}
use Rattle.bpf_canon.specs.btf.strings.FirstUses.{noted_all}
use Rattle.bpf_canon.proofs.BtfLemmas.Strings.FirstUseSteps.{noted_all-append}
use Rattle.bpf_object.specs.Kept.{listed}

-- one more that may be noted
pub noted_next : (offs : List ℕ) (test : ℕ → Bool) (f : ℕ → ℕ) (n : ℕ)
    → noted_all offs (listed test f (n + 1)) ≡ noted_all (noted_all offs (listed test f n)) (cond (test n) (f n ∷ []) [])
noted_next offs test f n = rw add-one (noted_all-append offs (listed test f n) (cond (test n) (f n ∷ []) []))

pub noted_more : (offs new old : List ℕ) (test : ℕ → Bool) (f : ℕ → ℕ) (n off : ℕ) (is : Bool) → old ≡ noted_all offs (listed test f n) → off ≡ f n → is ≡ test n
    → new ≡ noted_all old (cond is (off ∷ []) []) → new ≡ noted_all offs (listed test f (n + 1))
noted_more offs new old test f n off is before there tested step = rw (noted_next, ← before, ← there, ← tested) step

-- some more that are noted
pub noted_after : (offs new old xs step ys : List ℕ) → old ≡ noted_all offs xs → new ≡ noted_all old step → ys ≡ xs ++ step → new ≡ noted_all offs ys
noted_after offs new old xs step ys before more next =
    more ∙ ap (λ (l : List ℕ). noted_all l step) before ∙ sym (noted_all-append offs xs step) ∙ ap (noted_all offs) (sym next)

-- three lists in sequence
pub three_noted : (start one two new xs ys zs s t : List ℕ) → one ≡ noted_all start xs → two ≡ noted_all one ys → new ≡ noted_all two zs → ys ≡ s → zs ≡ t
    → new ≡ noted_all start (xs ++ (s ++ t))
three_noted start one two new xs ys zs s t h i j same_ys same_zs =
    j ∙ ap (λ (l : List ℕ). noted_all l zs) (i ∙ ap (λ (l : List ℕ). noted_all l ys) h) ∙ sym (noted_all-append (noted_all start xs) ys zs)
    ∙ sym (noted_all-append start xs (ys ++ zs)) ∙ rw (same_ys, same_zs) refl
