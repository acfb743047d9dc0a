-- The first fault of the fields: after records without one, the first of a record.
use Rattle.std.proofs.Common.{◌≡◌, ◌⊎◌, ℕ, zero, suc, ◌+◌, ◌*◌, ◌<◌, ◌≤◌, Option, Some, List, [], ◌∷◌, length, take, map, refl, ap, subst, ◌∙◌, inl, inr, length-append, arith}
use Rattle.std.specs.{Prelude.slice_get, Prelude.slice_index, List.concat}
use Rattle.std.proofs.lemmas.{Bool.cases_lt, List.length-map, Option.slice_get_within}
use Rattle.btf_raw.specs.{declared.cause.BtfCause.BtfCause, Cause.number_of, Cause.HasNone, Cause.LeastByOffset}
use Rattle.btf_types.specs.{declared.checks.section.Section.TheInside.Inside, Reading.frame_at, Sections.facts_in}
use Rattle.btf_types.specs.checks.FieldFaults.{WordFault, FieldFault, frame_facts}
use Rattle.btf_types.specs.checks.RecordFaults.{IsFaultless, LeastOfRecord}
use Rattle.btf_types.specs.checks.SectionParts.{IsSection, words_in}
use Rattle.btf_types.proofs.CheckLemmas.SectionSteps.{nth_frame, frame_get, starts_in}

-- the offsets at which the i-th list begins and ends in the concatenation
abbrev start : List (List ℕ) → ℕ → ℕ
start fs i = length (concat (take i fs))

pub apart : (fs : List (List ℕ)) (i k : ℕ) (f : List ℕ) → slice_get fs i ≡ Some f → i < k → start fs i + length f ≤ start fs k
apart [] i k f is h = absurd cc
apart (g ∷ fs) zero zero f is h = absurd (omega arith)
apart (g ∷ fs) zero (suc k) f is h =
    let same : g ≡ f = cc in
    rw (← same) (omega (arith, length-append g (concat (take k fs))))
apart (g ∷ fs) (suc i) zero f is h = absurd (omega arith)
apart (g ∷ fs) (suc i) (suc k) f is h =
    let rest = apart fs i k f is (omega arith) in
    omega (arith, rest, length-append g (concat (take i fs)), length-append g (concat (take k fs)))

some_is : (x y : List ℕ) (o : Option (List ℕ)) → o ≡ Some x → o ≡ Some y → x ≡ y
some_is x y o p q = cc

module _ (strings : List ℕ) (fs : List (List ℕ)) where
  pub first_field_fault : (i : ℕ) (f : List ℕ) (word : ℕ) (c : BtfCause) → slice_get fs i ≡ Some f
      → ((k : ℕ) (g : List ℕ) → k < i → slice_get fs k ≡ Some g → (j : ℕ) (d : BtfCause) → j < length g → ¬ WordFault strings (map frame_facts fs) g j d)
      → word < length f → WordFault strings (map frame_facts fs) f word c
      → ((j : ℕ) (d : BtfCause) → j < length f → WordFault strings (map frame_facts fs) f j d → (word < j) ⊎ ((word ≡ j) × (number_of c ≤ number_of d)))
      → LeastByOffset (FieldFault strings fs) (4 * (start fs i + word)) c
  first_field_fault i f word c is before inside holds least = record {
    holds = record { index = i; frame = f; word = word; frame_is = is; inside = inside; fault = holds; at_offset_is = refl };
    least = λ q d other. elim (cases_lt other.index i) [
      | inl earlier ↦ absurd (before other.index other.frame earlier other.frame_is other.word d other.inside other.fault)
      | inr le ↦ elim (cases_lt i other.index) [
        | inl later ↦
            let far = apart fs i other.index f is later in
            let at_offset = other.at_offset_is in
            inl (omega arith)
        | inr ge ↦
            let same : other.index ≡ i = omega arith in
            let frame : other.frame ≡ f = some_is other.frame f (slice_get fs i) (subst (λ (k : ℕ). slice_get fs k ≡ Some other.frame) same other.frame_is) is in
            let fault : WordFault strings (map frame_facts fs) f other.word d =
            subst (λ (g : List ℕ). WordFault strings (map frame_facts fs) g other.word d) frame other.fault in
            let there : other.word < length f = subst (λ (g : List ℕ). other.word < length g) frame other.inside in
            let at_offset : q ≡ 4 * (start fs i + other.word) = other.at_offset_is ∙ ap (λ (k : ℕ). 4 * (start fs k + other.word)) same in
            elim (least other.word d there fault) [
              | inl after ↦ inl (omega arith)
              | inr here ↦ inr (omega (arith, here.0), here.1)
            ]
      ]
    ];
  }

-- likewise for a section whose framing is valid
module _ (s : Inside) (valid : IsSection s) where
  faultless_before : (n : ℕ) → ((k : ℕ) → k < n → IsFaultless s.strings.now (facts_in (words_in s)) (nth_frame s k)) → (k : ℕ) (g : List ℕ) → k < length s.offsets.now → k < n → slice_get ((words_in s).frames) k ≡ Some g → IsFaultless s.strings.now (facts_in (words_in s)) g
  faultless_before n none k g there low is =
      subst (λ (x : List ℕ). IsFaultless s.strings.now (facts_in (words_in s)) x) (some_is (nth_frame s k) g (slice_get ((words_in s).frames) k) (frame_get s valid k there) is) (none k low)

  get_inside : (k : ℕ) (g : List ℕ) → slice_get ((words_in s).frames) k ≡ Some g → k < length s.offsets.now
  get_inside k g is = omega (arith, slice_get_within _ k g is, length-map s.offsets.now (frame_at s.order s.types.now))

  pub no_field_fault : ((k : ℕ) → k < length s.offsets.now → IsFaultless s.strings.now (facts_in (words_in s)) (nth_frame s k)) → HasNone (FieldFault s.strings.now ((words_in s).frames))
  no_field_fault none p c fault =
      let there = get_inside fault.index fault.frame fault.frame_is in
      faultless_before (length s.offsets.now) none fault.index fault.frame there there fault.frame_is fault.word c fault.inside fault.fault

  pub first_in_section : (i word : ℕ) (c : BtfCause) → i < length s.offsets.now
      → ((k : ℕ) → k < i → IsFaultless s.strings.now (facts_in (words_in s)) (nth_frame s k))
      → LeastOfRecord s.strings.now (facts_in (words_in s)) (nth_frame s i) word c
      → LeastByOffset (FieldFault s.strings.now ((words_in s).frames)) (slice_index s.offsets.now i + 4 * word) c
  first_in_section i word c there none least =
      let at_offset : slice_index s.offsets.now i + 4 * word ≡ 4 * (length (concat (take i ((words_in s).frames))) + word) = omega (arith, starts_in s valid i there) in
      rw at_offset
      (first_field_fault s.strings.now ((words_in s).frames) i (nth_frame s i) word c (frame_get s valid i there)
      (λ k g low is j d inside fault. faultless_before i none k g (get_inside k g is) low is j d inside fault)
      least.inside least.holds least.least)

  -- one more record without a fault
  pub faultless_more : (i : ℕ) → ((k : ℕ) → k < i → IsFaultless s.strings.now (facts_in (words_in s)) (nth_frame s k)) → IsFaultless s.strings.now (facts_in (words_in s)) (nth_frame s i)
      → (k : ℕ) → k < i + 1 → IsFaultless s.strings.now (facts_in (words_in s)) (nth_frame s k)
  faultless_more i before here k low = elim (cases_lt k i) [
    | inl lt ↦ before k lt
    | inr le ↦ subst (λ (n : ℕ). IsFaultless s.strings.now (facts_in (words_in s)) (nth_frame s n)) (omega arith) here
  ]
