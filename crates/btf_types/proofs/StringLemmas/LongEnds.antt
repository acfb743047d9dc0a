-- The ends of long strings are found block by block, and each end is found among them.
use Rattle.std.proofs.Common.{◌≡◌, ◌≢◌, ℕ, ◌+◌, ◌-◌, ◌<◌, ◌≤◌, true, false, List, [], ◌∷◌, ◌++◌, length, get_or, take, drop, sym, ap, subst, ◌∙◌, inl, inr, arith, length-append}
use Rattle.std.specs.List.{AllWithin}
use Rattle.std.specs.Prelude.{◌⊎◌, nat_lt, min, slice_index}
use Rattle.std.proofs.lemmas.{Grind.get_or_default_zero, Bool.cases_lt, Bool.ltb-true, Bool.ltb-false, Bool.lt-ltb}
use Rattle.std.proofs.lemmas.List.{get_or_append_left, get_or-take, get_or-drop, length-take, length-drop}
use Rattle.std.proofs.Math.{ListN.get_or-append, Seq.get_or-append_seam}
use Rattle.btf_raw.specs.{Header.HasNulEnds, Names.IsEnd, Names.NameAt}
use Rattle.btf_raw.proofs.Texts.{TextAt-end, TextAt-unique}
use Rattle.btf_types.specs.Reading.{text_from}
use Rattle.btf_types.proofs.{TableLemmas.TextSteps.text_there, CheckLemmas.Utf8Steps.text_end, CheckLemmas.Utf8Steps.end_of_text, CheckLemmas.Utf8Steps.byte_of_text}
use Rattle.btf_types.specs.tables.StringEnds.{IsAmong, AreLongEndsTo, AreLongEnds}

-- at most 64 bytes before an offset is a NUL, or the first byte of the section
abbrev pub HasNulNear : List ℕ → ℕ → Type 0
HasNulNear strings at = (at ≡ 0) ⊎ ((z : ℕ) × (z < at) × (at ≤ z + 64) × (slice_index strings z ≡ 0))

pub none_yet : (strings : List ℕ) → AreLongEndsTo strings [] 0
none_yet strings = record {
  inside = λ k h. absurd (omega (arith, h));
  nuls = λ k h. absurd (omega (arith, h));
  rising = λ j k h i. absurd (omega (arith, i));
  each = λ offset end low h i. absurd (omega (arith, low));
}

-- no 128-byte string ends within 64 bytes of a NUL
near : (strings : List ℕ) (at offset end : ℕ) → HasNulNear strings at → end < at + 64 → IsEnd strings offset end → offset + 128 ≤ end → end < at
near strings at offset end (inl e) h is long = absurd (omega arith)
near strings at offset end (inr (z, below, within, nul)) h is long =
    elim (cases_lt z end) [
      | inl lt ↦ absurd (is.before z (omega arith) lt nul)
      | inr le ↦ omega arith
    ]

-- therefore none is missed if a block has a NUL, or if the section ends
pub more_bytes : (strings ends : List ℕ) (at to : ℕ) → AreLongEndsTo strings ends at → HasNulNear strings at → at ≤ to → to ≤ at + 64 → AreLongEndsTo strings ends to
more_bytes strings ends at to are gap low high = record {
  inside = λ k h. let i = are.inside k h in omega arith;
  nuls = are.nuls;
  rising = are.rising;
  each = λ offset end below is long. are.each offset end (near strings at offset end gap (omega arith) is long) is long;
}

one_more : (ends : List ℕ) (end : ℕ) (P : ℕ → Type 0) → ((k : ℕ) → k < length ends → P (get_or ends k 0)) → P end → (k : ℕ) → k < length (ends ++ end ∷ []) → P (get_or (ends ++ end ∷ []) k 0)
one_more ends end P all last k h =
    elim (cases_lt k (length ends)) [
      | inl lt ↦ subst P (sym (get_or-append ends (end ∷ []) 0 k lt)) (all k lt)
      | inr le ↦
          let e : length ends ≡ k = omega (arith, length-append ends (end ∷ [])) in
          subst (λ (i : ℕ). P (get_or (ends ++ end ∷ []) i 0)) e (subst P (sym (get_or-append_seam ends end [] 0)) last)
    ]

rising_more : (strings ends : List ℕ) (at end : ℕ) → AreLongEndsTo strings ends at → at ≤ end → (j k : ℕ) → j ≤ k → k < length (ends ++ end ∷ []) → get_or (ends ++ end ∷ []) j 0 ≤ get_or (ends ++ end ∷ []) k 0
rising_more strings ends at end are le j k jk h =
    elim (cases_lt k (length ends)) [
      | inl lt ↦
          let here = get_or-append ends (end ∷ []) 0 j (omega arith) in
          let there = get_or-append ends (end ∷ []) 0 k lt in
          let rises = are.rising j k jk lt in
          omega arith
      | inr ge ↦
          let e : length ends ≡ k = omega (arith, length-append ends (end ∷ [])) in
          let last : get_or (ends ++ end ∷ []) k 0 ≡ end = subst (λ (i : ℕ). get_or (ends ++ end ∷ []) i 0 ≡ end) e (get_or-append_seam ends end [] 0) in
          let most : get_or (ends ++ end ∷ []) j 0 ≤ end =
          one_more ends end (λ x. x ≤ end) (λ i below. let inside = are.inside i below in omega arith) (omega arith) j (omega arith) in
          omega arith
    ]

among_more : (ends : List ℕ) (end x : ℕ) → IsAmong ends x → IsAmong (ends ++ end ∷ []) x
among_more ends end x (k, lt, e) = (k, omega (arith, length-append ends (end ∷ [])), get_or-append ends (end ∷ []) 0 k lt ∙ e)

-- the next NUL after an offset is one end more
pub one_end_more : (strings ends : List ℕ) (at end : ℕ) → AreLongEndsTo strings ends at → HasNulNear strings at → IsEnd strings at end → AreLongEndsTo strings (ends ++ end ∷ []) (end + 1)
one_end_more strings ends at end are gap is = record {
  inside = one_more ends end (λ x. x < end + 1) (λ k h. let i = are.inside k h in omega (arith, is.from)) (omega arith);
  nuls = one_more ends end (λ x. get_or strings x 0 ≡ 0) are.nuls is.nul;
  rising = rising_more strings ends at end are is.from;
  each = λ offset other below other_is long.
      elim (cases_lt other at) [
        | inl lt ↦ among_more ends end other (are.each offset other lt other_is long)
        | inr le ↦
            let same : end ≡ other = elim (cases_lt other end) [
              | inl lt ↦ absurd (is.before other le lt other_is.nul)
              | inr ge ↦ omega arith
            ] in
            (length ends, omega (arith, length-append ends (end ∷ [])), get_or-append_seam ends end [] 0 ∙ same)
      ];
}

pub nul_after : (strings : List ℕ) (at end : ℕ) → IsEnd strings at end → HasNulNear strings (end + 1)
nul_after strings at end is = inr (end, omega arith, omega arith, is.nul)

-- if the next bytes contain no NUL, the first of the ends from the offset on is the end
pub end_among : (strings ends : List ℕ) (offset end k : ℕ) → AreLongEnds strings ends → IsEnd strings offset end → offset + 128 ≤ end
    → AllWithin (λ x. x < offset) ends 0 k → AllWithin (λ x. offset ≤ x) ends k (length ends) → (k < length ends) × (get_or ends k 0 ≡ end)
end_among strings ends offset end k are is long passed left =
    let (j, inside, here) = are.each offset end is.inside is long in
    let high : k ≤ j = elim (cases_lt j k) [
      | inl lt ↦ let low : get_or ends j 0 < offset = passed j 0 (omega arith) lt in absurd (omega (arith, is.from))
      | inr le ↦ le
    ] in
    let from : offset ≤ get_or ends k 0 = left k 0 (omega arith) (omega arith) in
    let most : get_or ends k 0 ≤ get_or ends j 0 = are.rising k j high inside in
    let nul = are.nuls k (omega arith) in (
      omega arith,
      elim (cases_lt (get_or ends k 0) end) [
        | inl lt ↦ absurd (is.before (get_or ends k 0) from lt nul)
        | inr ge ↦ omega arith
      ],
    )

-- a byte of a part
part_byte : (strings : List ℕ) (off n i : ℕ) → i < n → get_or (take n (drop off strings)) i 0 ≡ get_or strings (off + i) 0
part_byte strings off n i h = get_or-take n (drop off strings) i 0 h ∙ get_or-drop off strings i 0

-- the first NUL of a part
pub first_in_part : (strings : List ℕ) (off n k : ℕ) → k < length (take n (drop off strings)) → get_or (take n (drop off strings)) k 0 ≡ 0
    → ((i : ℕ) → i < k → get_or (take n (drop off strings)) i 0 ≢ 0) → IsEnd strings off (off + k)
first_in_part strings off n k inside nul before =
    let low : k < n = omega (arith, length-take n (drop off strings)) in
    record {
      from = omega arith;
      inside = omega (arith, length-take n (drop off strings), length-drop off strings);
      nul = sym (part_byte strings off n k low) ∙ nul;
      before = λ i high lt e.
          let same : off + (i - off) ≡ i = omega arith in
          before (i - off) (omega arith) (part_byte strings off n (i - off) (omega arith) ∙ ap (λ (j : ℕ). get_or strings j 0) same ∙ e);
    }

pub none_in_part : (strings : List ℕ) (off to : ℕ) → to ≤ length strings → ((i : ℕ) → i < length (take (to - off) (drop off strings)) → get_or (take (to - off) (drop off strings)) i 0 ≢ 0)
    → (i : ℕ) → off ≤ i → i < to → get_or strings i 0 ≢ 0
none_in_part strings off to inside none i high low e =
    let same : off + (i - off) ≡ i = omega arith in
    let part : i - off < length (take (to - off) (drop off strings)) = omega (arith, length-take (to - off) (drop off strings), length-drop off strings) in
    none (i - off) part (part_byte strings off (to - off) (i - off) (omega arith) ∙ ap (λ (j : ℕ). get_or strings j 0) same ∙ e)

-- each string of a section with NUL ends has an end
end_there : (strings : List ℕ) (offset : ℕ) → HasNulEnds strings → offset < length strings → IsEnd strings offset (offset + length (text_from strings offset))
end_there strings offset ends h =
    let x = text_from strings offset in
    let t = text_there strings offset ends h in
    record {
      from = omega arith;
      inside = text_end strings offset x t;
      nul = end_of_text strings offset x t;
      before = λ i high low nul.
          let same : offset + (i - offset) ≡ i = omega arith in
          t.without_nul (i - offset) (omega arith)
          (sym (get_or_append_left x (0 ∷ t.after) 0 (i - offset) (omega arith)) ∙ sym (byte_of_text strings offset x t (i - offset)) ∙ rw same nul);
    }

-- if the next 128 bytes contain no NUL, the first of the ends from the offset on is the end
pub found_among : (strings ends : List ℕ) (offset near k : ℕ) → HasNulEnds strings → offset < length strings → AreLongEnds strings ends
    → near ≡ min (length strings) (offset + 128) → ((i : ℕ) → offset ≤ i → i < near → get_or strings i 0 ≢ 0)
    → AllWithin (λ x. nat_lt x offset ≡ true) ends 0 k → AllWithin (λ x. nat_lt x offset ≡ false) ends k (length ends)
    → (k < length ends) × IsEnd strings offset (get_or ends k 0)
found_among strings ends offset near k nuls inside are e none passed left =
    let end = offset + length (text_from strings offset) in
    let is = end_there strings offset nuls inside in
    let long : offset + 128 ≤ end = elim (cases_lt end near) [
      | inl lt ↦ absurd (none end is.from lt is.nul)
      | inr le ↦ let below = is.inside in omega arith
    ] in
    let found = end_among strings ends offset end k are is long
    (λ j d low high. ltb-true _ _ (passed j d low high))
    (λ j d low high. ltb-false _ _ (left j d low high)) in
    (found.0, subst (λ (x : ℕ). IsEnd strings offset x) (sym found.1) is)

-- the ends rise, so those before an offset come first
pub ends_part : (strings ends : List ℕ) (offset i j d : ℕ) → AreLongEnds strings ends → i ≤ j → j < length ends
    → nat_lt (get_or ends j d) offset ≡ true → nat_lt (get_or ends i d) offset ≡ true
ends_part strings ends offset i j d are low high h =
    let rises = are.rising i j low high in
    let here = get_or_default_zero ends i d (omega arith) in
    let there = get_or_default_zero ends j d high in
    let below = ltb-true _ _ h in
    lt-ltb _ _ (omega arith)

-- the bytes up to the end are the string
pub text_to_end : (strings : List ℕ) (offset end : ℕ) (text : List ℕ) → NameAt strings offset text → IsEnd strings offset end → take (end - offset) (drop offset strings) ≡ text
text_to_end strings offset end text there is = TextAt-unique strings offset (take (end - offset) (drop offset strings)) text (TextAt-end strings offset end is) there.text
