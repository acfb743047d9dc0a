-- Steps of the loop over a section that finds the longest used strings.
use Rattle.std.proofs.Common.{◌≡◌, ◌≢◌, ℕ, zero, suc, ◌+◌, ◌-◌, ◌<◌, ◌≤◌, inl, inr, List, [], ◌∷◌, ◌++◌, length, get_or, take, drop, refl, sym, ap, ◌∙◌, subst, arith}
use Rattle.std.proofs.lemmas.Grind.{common_steps}
use Rattle.std.specs.List.{All, Any}
use Rattle.std.proofs.lemmas.{Bool.cases_eq, Bool.cases_lt, List.Elements.All-nil, List.Elements.All-cons, List.Elements.All-append}
use Rattle.std.proofs.lemmas.List.{get_or-drop, length-drop, get_or_append_left, length-append, length-take-le, Quantifiers.Any-push}
use Rattle.btf_types.specs.Reading.{before_nul, text_from}
use Rattle.btf_types.proofs.StringLemmas.Suffixes.{Ends, Ends-refl}
use Rattle.bpf_canon.specs.btf.strings.{SuffixKeys.suffix_key, Longest.IsUsed, Longest.IsInText}
use Rattle.bpf_canon.specs.btf.strings.SectionTexts.{text_in, text_before, HasKey}
use Rattle.bpf_canon.specs.declared.btf.strings.ranked_texts.SectionText.{SectionText}
use Rattle.bpf_canon.proofs.BtfLemmas.Strings.TextLemmas.{text_is}

before_from : (n : ℕ) (xs : List ℕ) → n ≤ length xs → ((k : ℕ) → k < n → get_or xs k 0 ≢ 0) → Ends (before_nul (drop n xs)) (before_nul xs)
before_from zero xs h f = Ends-refl (before_nul xs)
before_from (suc n) [] h f = absurd (omega (arith, h))
before_from (suc n) (zero ∷ xs) h f = absurd (f 0 (omega arith) refl)
before_from (suc n) (suc b ∷ xs) h f =
    let i = before_from n xs (omega (arith, h)) (λ k l. f (suc k) (omega (arith, l))) in
    (suc b ∷ i.0, ap (λ (t : List ℕ). suc b ∷ t) i.1)

pub drop_more : (m n : ℕ) (xs : List ℕ) → drop n (drop m xs) ≡ drop (m + n) xs
drop_more m n xs = grind (arith, common_steps)

-- a name at a later offset is a suffix of one at an earlier offset in the same string
pub text_ends : (section : List ℕ) (start off : ℕ) → start ≤ off → off ≤ length section → ((k : ℕ) → start ≤ k → k < off → get_or section k 0 ≢ 0) → Ends (text_from section off) (text_from section start)
text_ends section start off low high f =
    let rest = before_from (off - start) (drop start section) (let long = length-drop start section in omega (arith, long))
    (λ k h e. f (start + k) (omega arith) (omega (arith, h)) (sym (get_or-drop start section k 0) ∙ e)) in
    grind (arith, drop_more)

-- a used string, and the names that begin within it
pub used_text : (section slots : List ℕ) (t : SectionText) → IsUsed section slots t → text_in section t ≡ text_from section t.start
used_text section slots t used = grind (arith, text_is)

pub used_length : (section slots : List ℕ) (t : SectionText) → IsUsed section slots t → length (text_in section t) ≡ t.end - t.start
used_length section slots t used = grind (arith, length-take-le, length-drop)

pub within_length : (section slots : List ℕ) (t : SectionText) (off : ℕ) → IsUsed section slots t → IsInText off t → length (text_from section off) ≡ t.end - off
within_length section slots t off used within =
    ap (λ (l : List ℕ). length l) (sym (text_is section off t.end (omega (arith, within.before)) used.inside used.nul (λ k low high. used.before k (omega (arith, low, within.from)) high)))
    ∙ length-take-le (t.end - off) (drop off section) (let rest = length-drop off section in omega (arith, rest, used.inside))

pub within_ends : (section slots : List ℕ) (t : SectionText) (off : ℕ) → IsUsed section slots t → IsInText off t → Ends (text_from section off) (text_in section t)
within_ends section slots t off used within =
    subst (Ends (text_from section off)) (sym (used_text section slots t used))
    (text_ends section t.start off within.from (omega (arith, within.before, used.inside)) (λ k low high. used.before k low (omega (arith, high, within.before))))

-- found up to an offset
pub record LongestTo (section slots : List ℕ) (ts : List SectionText) (off : ℕ) : Type 0 where
  pub few : length ts ≤ off
  pub inside : off ≤ length section
  pub keys : All (HasKey section) ts
  pub used : All (IsUsed section slots) ts
  pub each : (o : ℕ) → o < off → get_or slots o 0 ≢ 0 → get_or section o 0 ≢ 0 → Any (IsInText o) ts

any_more : (P : SectionText → Type 0) (ts : List SectionText) (t : SectionText) → Any P ts → Any P (ts ++ t ∷ [])
any_more P ts t (k, x, inside, is, p) = (k, x, omega (arith, inside, length-append ts (t ∷ [])), get_or_append_left ts (t ∷ []) x k inside ∙ is, p)

pub longest_push : (section slots : List ℕ) (ts : List SectionText) (off : ℕ) (t : SectionText) → LongestTo section slots ts off → get_or section off 0 ≢ 0 → get_or slots off 0 ≢ 0 → t.start ≡ off → off ≤ t.end → t.end < length section → get_or section t.end 0 ≡ 0 → ((k : ℕ) → off ≤ k → k < t.end → get_or section k 0 ≢ 0) → t.key ≡ suffix_key (take (t.end - off) (drop off section)) → t.before ≡ suffix_key (text_before (take (t.end - off) (drop off section))) → LongestTo section slots (ts ++ t ∷ []) (t.end + 1)
longest_push section slots ts off t to some slot start low high nul before key rest =
    let cut : text_in section t ≡ take (t.end - off) (drop off section) = grind arith in
    let more : off < t.end = grind arith in
    record {
      few = omega (arith, to.few, more, length-append ts (t ∷ []));
      inside = omega (arith, high);
      keys = All-append (HasKey section) ts (t ∷ []) to.keys (All-cons (HasKey section) t [] (record { last = key ∙ ap suffix_key (sym cut); before = rest ∙ ap (λ (l : List ℕ). suffix_key (text_before l)) (sym cut) }) (All-nil (HasKey section)));
      used = All-append (IsUsed section slots) ts (t ∷ []) to.used (All-cons (IsUsed section slots) t [] (record {
        slot = subst (λ (k : ℕ). get_or slots k 0 ≢ 0) (sym start) slot;
        some = omega (arith, start, more);
        inside = high;
        nul = nul;
        before = λ k l h. before k (omega (arith, start, l)) h;
      }) (All-nil (IsUsed section slots)));
      each = λ o h s f. elim (cases_lt o off) [
        | inl l ↦ any_more (IsInText o) ts t (to.each o l s f)
        | inr g ↦ elim (cases_eq o t.end) [
          | inl e ↦ absurd (f (ap (λ (k : ℕ). get_or section k 0) e ∙ nul))
          | inr n ↦ Any-push (IsInText o) ts t (record { from = omega (arith, g, start); before = omega (arith, h, n) })
        ]
      ];
    }
