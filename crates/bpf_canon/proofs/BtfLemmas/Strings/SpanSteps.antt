-- Steps that append a string to the spans of a section.
use Rattle.std.proofs.Common.{◌≡◌, ℕ, zero, suc, ◌+◌, ◌-◌, List, [], ◌∷◌, ◌++◌, length, get_or, set, take, drop, sym, ap, ◌∙◌, subst, arith, append_assoc}
use Rattle.std.proofs.lemmas.Grind.{common_steps}
use Rattle.std.specs.List.{All, flat_map}
use Rattle.std.proofs.Math.Seq.{take-add}
use Rattle.std.proofs.lemmas.List.{append-nil, Elements.All-set}
use Rattle.bpf_canon.specs.btf.strings.HostOffsets.{span_bytes, IsSpan, HasText}
use Rattle.bpf_canon.specs.declared.btf.strings.shared_offsets.Span.{Span}
use Rattle.bpf_canon.proofs.BtfLemmas.Strings.LongestSteps.{drop_more}

-- a span more
pub span_pushed : (section : List ℕ) (old new : List Span) (s : Span) → new ≡ old ++ s ∷ [] → All (IsSpan section) old → IsSpan section s → HasText section old new s
span_pushed section old new s e all is = grind (arith, common_steps)

-- the last of some spans, replaced
last_set : (f : Span → List ℕ) (old : List Span) (k : ℕ) (d s : Span) (more : List ℕ) → suc k ≡ length old → f s ≡ f (get_or old k d) ++ more → flat_map f (set old k s) ≡ flat_map f old ++ more
last_set f [] k d s more long e = absurd (omega (arith, long))
last_set f (x ∷ []) zero d s more long e = append-nil (f s) ∙ e ∙ ap (λ (t : List ℕ). t ++ more) (sym (append-nil (f x)))
last_set f (x ∷ y ∷ old) zero d s more long e = absurd (omega (arith, long))
last_set f (x ∷ old) (suc k) d s more long e = ap (λ (t : List ℕ). f x ++ t) (last_set f old k d s more (omega (arith, long)) e) ∙ sym (append_assoc (f x) (flat_map f old) more)

-- the last span extended by a string that follows it
pub span_prolonged : (section : List ℕ) (old : List Span) (k : ℕ) (last s : Span) → suc k ≡ length old → last ≡ get_or old k last → s.start ≡ last.end + 1 → All (IsSpan section) old → IsSpan section s → HasText section old (set old k (record { start = last.start; end = s.end })) s
span_prolonged section old k last s long is follows all text =
    let before : IsSpan section last = subst (IsSpan section) (sym is) (all k last (omega (arith, long))) in
    let joined : Span = record { start = last.start; end = s.end } in
    let bytes : span_bytes section joined ≡ span_bytes section last ++ span_bytes section s =
    ap (λ (n : ℕ). take n (drop last.start section)) (let e : s.end + 1 - last.start ≡ (last.end + 1 - last.start) + (s.end + 1 - s.start) = omega (arith, before.up, text.up, follows) in e)
    ∙ take-add (last.end + 1 - last.start) (s.end + 1 - s.start) (drop last.start section)
    ∙ ap (λ (l : List ℕ). span_bytes section last ++ take (s.end + 1 - s.start) l) (drop_more last.start (last.end + 1 - last.start) section ∙ ap (λ (n : ℕ). drop n section) (let e : last.start + (last.end + 1 - last.start) ≡ s.start = omega (arith, before.up, follows) in e)) in
    record {
      are_spans = All-set (IsSpan section) old k joined (record { up = omega (arith, before.up, text.up, follows); inside = text.inside }) all;
      bytes = last_set (span_bytes section) old k last joined (span_bytes section s) long (bytes ∙ ap (λ (t : Span). span_bytes section t ++ span_bytes section s) is);
    }
