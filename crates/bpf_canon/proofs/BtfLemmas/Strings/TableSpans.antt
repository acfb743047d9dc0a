-- The bytes of spans, and the steps of the loop that appends them.
use Rattle.std.proofs.Common.{◌≡◌, ℕ, suc, ◌+◌, ◌-◌, ◌<◌, List, ◌∷◌, ◌++◌, length, get_or, take, drop, sym, ap, ◌∙◌, arith, append_assoc}
use Rattle.std.proofs.lemmas.Grind.{common_steps}
use Rattle.std.specs.List.{flat_map}
use Rattle.std.proofs.Math.Seq.{take-append-add, drop-append_seam}
use Rattle.std.proofs.lemmas.List.{length-append, length-drop}
use Rattle.btf_raw.specs.Header.{HasNulEnds}
use Rattle.btf_types.specs.{Names.with_nul, Reading.text_from}
use Rattle.btf_types.proofs.TableLemmas.TextSteps.{text_there}
use Rattle.bpf_canon.specs.{btf.strings.HostOffsets.span_bytes, btf.strings.HostOffsets.IsSpan, declared.btf.strings.shared_offsets.Span.Span}

-- the span of the string at an offset
pub record SpanOf (section : List ℕ) (off : ℕ) (s : Span) : Type 0 where
  pub span : IsSpan section s
  pub bytes : span_bytes section s ≡ with_nul (text_from section off)

pub span_of : (section : List ℕ) (off n : ℕ) → HasNulEnds section → off < length section → n ≡ length (text_from section off) → SpanOf section off (record { start = off; end = off + n })
span_of section off n ends inside n_is =
    let x = text_from section off in
    let text = text_there section off ends inside in
    let rest : drop off section ≡ x ++ 0 ∷ text.after = grind (arith, append_assoc, drop-append_seam) in
    let long : length x + suc (length text.after) ≡ length section - off = sym (length-append x (0 ∷ text.after)) ∙ ap (λ (l : List ℕ). length l) (sym rest) ∙ length-drop off section in
    record {
      span = record { up = omega arith; inside = omega (arith, n_is, long, inside) };
      bytes = ap (λ (k : ℕ). take k (drop off section)) (let e : off + n + 1 - off ≡ length x + 1 = omega (arith, n_is) in e) ∙ ap (take (length x + 1)) rest ∙ take-append-add x (0 ∷ text.after) 1;
    }

pub table_more : (section : List ℕ) (spans : List Span) (i : ℕ) (d : Span) (out new start : List ℕ) → i < length spans → out ≡ start ++ 0 ∷ flat_map (span_bytes section) (take i spans) → new ≡ out ++ span_bytes section (get_or spans i d) → new ≡ start ++ 0 ∷ flat_map (span_bytes section) (take (i + 1) spans)
table_more section spans i d out new start inside before pushed = grind (arith, common_steps)
