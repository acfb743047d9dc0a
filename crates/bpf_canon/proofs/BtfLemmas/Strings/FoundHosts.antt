-- The hosts of the strings at the used offsets of a section, found by the longest of them.
use Rattle.std.proofs.Common.{◌≡◌, ◌≢◌, ℕ, ◌<◌, true, List, length, map, get_or, sym, ap, ◌∙◌, subst, arith}
use Rattle.std.specs.List.{All, Contains}
use Rattle.std.proofs.{lemmas.List.get_or-map, lemmas.List.length-map, lemmas.List.get_or_default, Math.Seq.drop-cons}
use Rattle.btf_types.specs.{strings.SharedNames.is_suffix, strings.LongestTexts.AreLongest, Reading.text_from}
use Rattle.bpf_canon.specs.btf.strings.{SectionTexts.text_in, InHost.no_text, FirstUses.AreMarked, Longest.IsUsed, Longest.AreLongestOf}
use Rattle.bpf_canon.specs.declared.btf.strings.ranked_texts.SectionText.{SectionText}
use Rattle.btf_types.proofs.StringLemmas.Suffixes.{suffix_from_Ends}
use Rattle.bpf_canon.proofs.BtfLemmas.Strings.LongestSteps.{used_text, within_ends}

-- members of a list that is mapped
pub in_map : {X : Type 0} (f : X → List ℕ) (xs : List X) (x : X) → Contains xs x → Contains (map f xs) (f x)
in_map f xs x (k, inside, is) = (k, omega (arith, inside, length-map xs f), get_or-map f xs k x (f x) inside ∙ ap f is)

pub from_map : {X : Type 0} (e : X) (f : X → List ℕ) (xs : List X) (z : List ℕ) → Contains (map f xs) z → (x : X) × Contains xs x × (f x ≡ z)
from_map e f xs z (k, inside, is) =
    let low : k < length xs = omega (arith, inside, length-map xs f) in
    (get_or xs k e, (k, low, get_or_default xs k (get_or xs k e) e low), sym (get_or-map f xs k e z low) ∙ is)

pub empty_at_nul : (section : List ℕ) (off : ℕ) → off < length section → get_or section off 0 ≡ 0 → length (text_from section off) ≡ 0
empty_at_nul section off inside nul = grind (arith, drop-cons)

pub text_some : (section : List ℕ) (off : ℕ) → off < length section → get_or section off 0 ≢ 0 → length (text_from section off) ≡ 0 → ⊥
text_some section off inside b z = grind (arith, drop-cons)

pub longest_are : (section slots offsets : List ℕ) (ts : List SectionText) → AreLongestOf section slots ts → AreMarked offsets slots → All (λ off. off < length section) offsets → AreLongest (map (text_from section) offsets) (map (text_in section) ts)
longest_are section slots offsets ts are are_used inside = record {
  among = λ z c.
      let t = from_map no_text (text_in section) ts z c in
      let used = subst (IsUsed section slots) t.1.2 (are.used t.1.0 t.0 t.1.1) in
      subst (Contains (map (text_from section) offsets)) (sym (used_text section slots t.0 used) ∙ t.2) (in_map (text_from section) offsets t.0.start (are_used.only t.0.start used.slot));
  each = λ x c some.
      let o = from_map 0 (text_from section) offsets x c in
      let below : o.0 < length section = subst (λ (n : ℕ). n < length section) o.1.2 (inside o.1.0 o.0 o.1.1) in
      let byte : get_or section o.0 0 ≢ 0 = λ nul. omega (arith, some, empty_at_nul section o.0 below nul, ap (λ (t : List ℕ). length t) o.2) in
      let a = are.each o.0 below (are_used.marked o.0 o.1) byte in
      let used = subst (IsUsed section slots) a.3 (are.used a.0 a.1 a.2) in
      let at = in_map (text_in section) ts a.1 (a.0, a.2, a.3) in
      let ends = suffix_from_Ends (text_from section o.0) (text_in section a.1) (within_ends section slots a.1 o.0 used a.4) in
      (at.0, text_in section a.1, at.1, at.2, subst (λ (y : List ℕ). is_suffix y (text_in section a.1) ≡ true) o.2 ends);
}
