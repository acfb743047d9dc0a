-- The bytes of the part are those of the file.
use Rattle.std.proofs.Common.{rules, of_calls, arith, ◌≡◌, ◌+◌, ◌-◌, ℕ, Option, Some, None, MatchOption, IsSomeAnd, subst, sym}
use Rattle.std.specs.Prelude.{IfSome}
use Rattle.std.proofs.lemmas.{Bool.eq-eqb, Bool.eqb-true}
use Rattle.btf_types.proofs.StringLemmas.LongEnds.{first_in_part}
use Rattle.bpfcanon_c.proofs.btf_decode.near_end.Goals as goal

-- an offset in the part, as one in the file
moved : (off : ℕ) (None-of : Type 0) (Of Is : ℕ → Type 0) (Post : ℕ → ℕ → Type 0) (r m : Option ℕ) → MatchOption r (m ≡ None) (λ x. IsSomeAnd m (Post x)) → MatchOption r None-of Of
    → ((x y : ℕ) → Post x y → y ≡ off + x) → ((x : ℕ) → Of x → Is (off + x)) → IfSome m Is
moved off None-of Of Is Post None m made found same some = subst (λ (o : Option ℕ). IfSome o Is) (sym made) tt
moved off None-of Of Is Post (Some x) None made found same some = absurd made
moved off None-of Of Is Post (Some x) (Some y) made found same some = subst Is (sym (same x y made)) (some x found)

pub returns : goal.returns
returns c =
    let bytes = c.args.bytes.now in
    let at = c.args.at in
    moved at _ _ _ _ _ c.map.result c.map.ensures.cases c.memchr.ensures (λ x y made. search (rules, of_calls))
    (λ x found.
    first_in_part bytes at (c.min-near.result - at) x found.0.high (eqb-true _ _ found.1) (λ i lt e. found.0.before i (omega arith) lt (eq-eqb _ _ e)))
