-- The bytes of the part are those of the section.
use Rattle.std.proofs.Common.{rules, of_calls, arith, ◌≡◌, ◌+◌, ◌-◌, ℕ, Option, Some, None, MatchOption, IsSomeAnd, subst, sym, drop}
use Rattle.std.proofs.lemmas.{Bool.eq-eqb, Bool.eqb-true, List.length-take}
use Rattle.btf_types.proofs.StringLemmas.LongEnds.{none_in_part, first_in_part}
use Rattle.btf_types.proofs.tables.string_ends.nul_between.Goals as goal

-- an offset in the part, as one in the section
moved : (off : ℕ) (None-of None-is : Type 0) (Of Is : ℕ → Type 0) (Post : ℕ → ℕ → Type 0) (r m : Option ℕ) → MatchOption r (m ≡ None) (λ x. IsSomeAnd m (Post x)) → MatchOption r None-of Of
    → (None-of → None-is) → ((x y : ℕ) → Post x y → y ≡ off + x) → ((x : ℕ) → Of x → Is (off + x)) → MatchOption m None-is Is
moved off None-of None-is Of Is Post None m made found none same some = subst (λ (o : Option ℕ). MatchOption o None-is Is) (sym made) (none found)
moved off None-of None-is Of Is Post (Some x) None made found none same some = absurd made
moved off None-of None-is Of Is Post (Some x) (Some y) made found none same some = subst Is (sym (same x y made)) (some x found)

pub returns : goal.returns
returns c =
    let strings = c.args.strings.now in
    let off = c.args.off in
    moved off _ _ _ _ _ _ c.map.result c.map.ensures.cases c.memchr.ensures
    (λ none. none_in_part strings off c.args.to c.requires.inside (λ i lt e. none i (omega arith) lt (eq-eqb _ _ e)))
    (λ x y made. search (rules, of_calls))
    (λ x found. (
      first_in_part strings off (c.args.to - off) x found.0.high (eqb-true _ _ found.1) (λ i lt e. found.0.before i (omega arith) lt (eq-eqb _ _ e)),
      (let low = found.0.high in omega (arith, length-take (c.args.to - off) (drop off strings))),
    ))
