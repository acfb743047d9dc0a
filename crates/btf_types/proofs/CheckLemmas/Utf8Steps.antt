-- Strings that are UTF-8.
use Rattle.std.proofs.Common.{◌≡◌, ℕ, ◌+◌, ◌-◌, ◌<◌, ◌≤◌, Bool, true, List, [], ◌∷◌, ◌++◌, length, get_or, take, drop, refl, sym, ap, subst, ◌∙◌, inl, inr, append_assoc, length-append, take-append-drop, arith}
use Rattle.std.specs.Prelude.{◌≢◌, ◌↔◌, IsUtf8, IsCharBoundary, MatchResult, Result, Ok, Err, is_ok, slice_index}
use Rattle.std.proofs.Math.Seq.{get_or-append_seam, take-append_seam}
use Rattle.std.proofs.lemmas.{Bool.cases_lt, List.length-drop, List.length-take-le, List.get_or-drop, List.get_or_append_left, List.take-append-le}
use Rattle.std.proofs.lemmas.Str.{IsUtf8-append, IsUtf8-take, IsUtf8-drop, IsUtf8-between, IsCharBoundary-start, IsCharBoundary-before_ascii}
use Rattle.btf_raw.specs.Names.{TextAt}
use Rattle.btf_raw.proofs.Texts.{text_after}
use Rattle.btf_types.specs.checks.Texts.{BeginsChar, IsNextChar}

-- ---- a string in its section

pub text_end : (s : List ℕ) (at : ℕ) (text : List ℕ) → TextAt s at text → at + length text < length s
text_end s at text t =
    omega (arith, t.at_offset, ap length t.is_there, length-append (t.before ++ text) (0 ∷ t.after), length-append t.before text)

-- from an offset inside it on, it is a string too
pub suffix_text : (s : List ℕ) (at o : ℕ) (text : List ℕ) → TextAt s at text → o ≤ length text → TextAt s (at + o) (drop o text)
suffix_text s at o text t low = record {
  without_nul = λ i h e. t.without_nul (o + i) (omega (arith, length-drop o text)) (sym (get_or-drop o text i 0) ∙ e);
  before = t.before ++ take o text;
  after = t.after;
  at_offset = omega (arith, t.at_offset, length-append t.before (take o text), length-take-le o text low);
  is_there = t.is_there ∙ ap (λ (x : List ℕ). (t.before ++ x) ++ 0 ∷ t.after) (sym (take-append-drop o text)) ∙ ap (λ (x : List ℕ). x ++ 0 ∷ t.after) (sym (append_assoc t.before (take o text) (drop o text)));
}

pub byte_of_text : (s : List ℕ) (at : ℕ) (text : List ℕ) (t : TextAt s at text) (i : ℕ) → get_or s (at + i) 0 ≡ get_or (text ++ 0 ∷ t.after) i 0
byte_of_text s at text t i = sym (get_or-drop at s i 0) ∙ ap (λ (x : List ℕ). get_or x i 0) (text_after s at text t)

pub end_of_text : (s : List ℕ) (at : ℕ) (text : List ℕ) → TextAt s at text → get_or s (at + length text) 0 ≡ 0
end_of_text s at text t = byte_of_text s at text t (length text) ∙ get_or-append_seam text 0 t.after 0

-- an empty string, by its byte
pub empty_byte : (s : List ℕ) (at : ℕ) → TextAt s at [] → slice_index s at ≡ 0
empty_byte s at t = subst (λ (i : ℕ). get_or s i 0 ≡ 0) (omega arith) (end_of_text s at [] t)

pub empty_text : (s : List ℕ) (at : ℕ) (text : List ℕ) → TextAt s at text → slice_index s at ≡ 0 → text ≡ []
empty_text s at [] t e = refl
empty_text s at (c ∷ text) t e =
    let first : get_or s (at + 0) 0 ≡ c = byte_of_text s at (c ∷ text) t 0 in
    let same : at + 0 ≡ at = omega arith in
    absurd (t.without_nul 0 (omega arith) (sym first ∙ rw same e))

first_byte : (s : List ℕ) (at : ℕ) (text : List ℕ) → TextAt s at text → 0 < length text → get_or s at 0 ≡ get_or text 0 0
first_byte s at text t some =
    subst (λ (i : ℕ). get_or s i 0 ≡ get_or (text ++ 0 ∷ t.after) 0 0) (omega arith) (byte_of_text s at text t 0) ∙ get_or_append_left text (0 ∷ t.after) 0 0 some

-- a character may begin at the start of a string that is UTF-8
pub begins_with_char : (s : List ℕ) (at : ℕ) (text : List ℕ) → TextAt s at text → IsUtf8 text → BeginsChar (slice_index s at)
begins_with_char s at text t utf8 high = elim (cases_lt 0 (length text)) [
  | inl some ↦
      let here = first_byte s at text t some in
      rw here ((IsCharBoundary-start text utf8).1 some (rw (← here) high))
  | inr none ↦
      let zero_here : get_or s at 0 ≡ 0 = subst (λ (i : ℕ). get_or s i 0 ≡ 0) (omega arith) (end_of_text s at text t) in
      absurd (omega arith)
]

-- ---- a section, all of which is UTF-8

text_is_part : (s : List ℕ) (at : ℕ) (text : List ℕ) → TextAt s at text → take (length text) (drop at s) ≡ text
text_is_part s at text t = ap (λ (x : List ℕ). take (length text) x) (text_after s at text t) ∙ take-append_seam text (0 ∷ t.after)

pub whole_text : (s : List ℕ) (at : ℕ) (text : List ℕ) → IsUtf8 s → TextAt s at text → BeginsChar (slice_index s at) ↔ IsUtf8 text
whole_text s at text u t = (there, back)
  where
    there : BeginsChar (slice_index s at) → IsUtf8 text
    there begins =
        let inside = text_end s at text t in
        let first : IsCharBoundary s at = (omega arith, λ lt. begins) in
        let last : IsCharBoundary s (at + length text) = IsCharBoundary-before_ascii s (at + length text) inside (omega (arith, end_of_text s at text t)) in
        let part = IsUtf8-between s at (at + length text) u (omega arith) first last in
        let size : at + length text - at ≡ length text = omega arith in
        subst (λ (x : List ℕ). IsUtf8 x) (text_is_part s at text t) (rw size at part)

    back : IsUtf8 text → BeginsChar (slice_index s at)
    back utf8 = begins_with_char s at text t utf8

-- ---- a string by its first character and the rest

pub through : {A B C : Type 0} → A ↔ B → B ↔ C → A ↔ C
through p q = (λ a. q.0 (p.0 a), λ k. p.1 (q.1 k))

-- a string that isn't empty reaches as far as the next offset at which a character may begin
reaches : (s : List ℕ) (at next : ℕ) (rest : Bool) (text : List ℕ) → IsNextChar s at next rest → slice_index s at ≢ 0 → TextAt s at text → next - at ≤ length text
reaches s at next rest text is some t = elim (cases_lt (length text) (next - at)) [
  | inr far ↦ far
  | inl short ↦
      let end = end_of_text s at text t in
      let past = is.past in
      elim (cases_lt 0 (length text)) [
        | inl more ↦
            let high = is.between (at + length text) (omega arith) (omega arith) in
            absurd (omega (arith, end))
        | inr none ↦ absurd (some (subst (λ (i : ℕ). get_or s i 0 ≡ 0) (omega arith) end))
      ]
]

-- the bytes before the next offset are a prefix of the string
front_of_text : (s : List ℕ) (at n : ℕ) (text : List ℕ) → TextAt s at text → n ≤ length text → take n (drop at s) ≡ take n text
front_of_text s at n text t low = ap (λ (x : List ℕ). take n x) (text_after s at text t) ∙ take-append-le n text (0 ∷ t.after) low

-- the string may be cut there
edge_of_text : (s : List ℕ) (at next : ℕ) (rest : Bool) (text : List ℕ) → IsNextChar s at next rest → next < length s → TextAt s at text → next - at ≤ length text → IsCharBoundary text (next - at)
edge_of_text s at next rest text is inside t low = (
  low,
  λ lt high.
      let past = is.past in
      let sum : at + (next - at) ≡ next = omega arith in
      let here : get_or s next 0 ≡ get_or text (next - at) 0 =
      subst (λ (i : ℕ). get_or s i 0 ≡ get_or text (next - at) 0) sum (byte_of_text s at text t (next - at) ∙ get_or_append_left text (0 ∷ t.after) 0 (next - at) lt) in
      rw (← here) (is.begins inside (rw here high)),
)

-- it is UTF-8 if and only if its prefix up to there is, and the rest
pub front_and_rest : (s : List ℕ) (at next : ℕ) (rest : Bool) (text : List ℕ) → IsNextChar s at next rest → next < length s → slice_index s at ≢ 0 → TextAt s at text
    → (IsUtf8 (take (next - at) (drop at s)) × (rest ≡ true)) ↔ IsUtf8 text
front_and_rest s at next rest text is inside some t =
    let n = next - at in
    let past = is.past in
    let low : n ≤ length text = reaches s at next rest text is some t in
    let edge = edge_of_text s at next rest text is inside t low in
    let front = front_of_text s at n text t low in
    let sum : at + n ≡ next = omega arith in
    let rest : TextAt s next (drop n text) = subst (λ (i : ℕ). TextAt s i (drop n text)) sum (suffix_text s at n text t low) in
    let goes_on = is.rest_is (drop n text) rest in (
      λ both. subst (λ (x : List ℕ). IsUtf8 x) (take-append-drop n text)
          (IsUtf8-append (take n text) (drop n text) (subst (λ (x : List ℕ). IsUtf8 x) front both.0) (goes_on.0 both.1)),
      λ utf8. (subst (λ (x : List ℕ). IsUtf8 x) (sym front) (IsUtf8-take text n utf8 edge), goes_on.1 (IsUtf8-drop text n utf8 edge)),
    )

-- a call that returns Ok if and only if bytes are UTF-8
pub ok_where : {X E P : Type 0} (A : X → Type 0) (r : Result X E) → MatchResult r (λ x. A x × P) (λ _. ¬ P) → (is_ok r ≡ true) ↔ P
ok_where A (Ok x) known = (λ ok. known.1, λ p. refl)
ok_where A (Err e) known = (λ ok. absurd cc, λ p. absurd (known p))
