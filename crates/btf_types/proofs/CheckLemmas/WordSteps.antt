-- The first field of a record with a fault, after fields without one.
use Rattle.std.proofs.Common.{◌≡◌, ℕ, ◌≤◌, Option, None, Some, List, length, sym, subst, inl, inr, arith}
use Rattle.std.specs.Prelude.{MatchOption}
use Rattle.std.proofs.lemmas.Bool.{cases_lt}
use Rattle.btf_raw.specs.declared.cause.BtfCause.{BtfCause}
use Rattle.btf_types.specs.Sections.{SectionWords}
use Rattle.btf_types.specs.checks.RecordFaults.{FaultInWord, NoneWithin, IsFirstWithin, FirstWithin, IsFaultlessIn, IsLeastIn}

module _ (s : SectionWords) (f : List ℕ) where
  -- consecutive ranges of fields
  pub none_through : (from mid to : ℕ) → NoneWithin s f from mid → NoneWithin s f mid to → NoneWithin s f from to
  none_through from mid to before after j d past low fault = elim (cases_lt j mid) [
    | inl lt ↦ before j d past lt fault
    | inr le ↦ after j d le low fault
  ]

  -- the first field with a fault, if the fields before it have none
  pub first_after : (from mid end to word : ℕ) (c : BtfCause) → from ≤ mid → end ≤ to → NoneWithin s f from mid
      → IsFirstWithin s f mid end word c → IsFirstWithin s f from to word c
  first_after from mid end to word c low room before first = record {
    past = let past = first.past in omega arith;
    inside = let inside = first.inside in omega arith;
    before = none_through from mid word before first.before;
    least = first.least;
  }

  -- the first of all fields is the record's
  pub first_of_record : (word : ℕ) (c : BtfCause) → IsFirstWithin s f 0 (length f) word c → IsLeastIn s f word c
  first_of_record word c first = record {
    inside = first.inside;
    holds = first.least.holds;
    least = λ j d h fault. elim (cases_lt word j) [
      | inl later ↦ inl later
      | inr le ↦ elim (cases_lt j word) [
        | inl earlier ↦ absurd (first.before j d (omega arith) earlier fault)
        | inr same ↦
            let is : word ≡ j = omega arith in
            inr (is, first.least.least d (subst (λ (i : ℕ). FaultInWord s f i d) (sym is) fault))
      ]
    ];
  }

  -- the header has no fault: the first after it is the record's
  pub tail_of_record : (answer : Option (ℕ × BtfCause)) → NoneWithin s f 0 3 → FirstWithin s f 3 (length f) answer
      → MatchOption answer (IsFaultlessIn s f) (λ found. IsLeastIn s f found.0 found.1)
  tail_of_record None header tail = λ j d low. none_through 0 3 (length f) header tail j d (omega arith) low
  tail_of_record (Some found) header tail =
      let end = length f in
      first_of_record found.0 found.1 (first_after 0 3 end end found.0 found.1 (omega arith) (omega arith) header tail)

-- what the search cites of the first faulty field
pub ruleset first_of_words = (first_after, first_of_record, tail_of_record)
