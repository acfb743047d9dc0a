-- The fields of a record by their roles: the first with a fault, and where the record ends.
use Rattle.std.proofs.Common.{◌≡◌, ◌≢◌, ◌⊎◌, ℕ, ◌+◌, ◌*◌, ◌<◌, ◌≤◌, Option, None, Some, MatchOption, IsSomeAnd, refl, inl, inr, List, length, sym, ◌∙◌, subst, arith}
use Rattle.std.specs.Prelude.{IsTrue}
use Rattle.std.proofs.lemmas.Bool.{cases_lt}
use Rattle.btf_raw.specs.{declared.cause.BtfCause.BtfCause, Frames.IsFrame, Frames.kind, Frames.vlen}
use Rattle.btf_raw.specs.KindNumbers.{INT, ARRAY, STRUCT, UNION, ENUM, FUNC_PROTO, VAR, DATASEC, DECL_TAG, ENUM64}
use Rattle.btf_raw.specs.Kinds.{is_struct, tail_words, fixed_words, item_words}
use Rattle.btf_types.specs.{Sections.SectionWords, checks.RecordFaults.FaultInWord, checks.RecordFaults.NoneWithin, checks.RecordFaults.IsFirstWithin, checks.RecordFaults.FirstWithin}
use Rattle.btf_types.specs.checks.{Numbers.TypeFacts, Numbers.LeastCause, Numbers.NoCause, Numbers.IsLeastOf, NameFaults.NamedTypeFault}
use Rattle.btf_types.proofs.KindCases.{kind_is, KindIs, IsInt, IsArray, IsStruct, IsUnion, IsEnum, IsFuncProto, IsVar, IsDatasec, IsDeclTag, IsEnum64}
use Rattle.btf_types.proofs.CheckLemmas.Roles.{Role, Free, HasRole}
use Rattle.btf_types.proofs.CheckLemmas.WordSteps.{none_through}
use Rattle.btf_types.proofs.CheckLemmas.RoleSteps.{FaultInRole, checked, one_word, struct_size, struct_fixed}

no_tail : {κ : ℕ} → KindIs κ → (v : ℕ) → κ ≢ INT → κ ≢ ARRAY → κ ≢ STRUCT → κ ≢ UNION → κ ≢ ENUM → κ ≢ FUNC_PROTO → κ ≢ VAR → κ ≢ DATASEC → κ ≢ DECL_TAG → κ ≢ ENUM64
    → 3 + tail_words κ v ≡ 3
unfolding tail_words fixed_words item_words
no_tail IsInt v int array struct union enum proto var datasec tag enum64 = absurd (int refl)
no_tail IsArray v int array struct union enum proto var datasec tag enum64 = absurd (array refl)
no_tail IsStruct v int array struct union enum proto var datasec tag enum64 = absurd (struct refl)
no_tail IsUnion v int array struct union enum proto var datasec tag enum64 = absurd (union refl)
no_tail IsEnum v int array struct union enum proto var datasec tag enum64 = absurd (enum refl)
no_tail IsFuncProto v int array struct union enum proto var datasec tag enum64 = absurd (proto refl)
no_tail IsVar v int array struct union enum proto var datasec tag enum64 = absurd (var refl)
no_tail IsDatasec v int array struct union enum proto var datasec tag enum64 = absurd (datasec refl)
no_tail IsDeclTag v int array struct union enum proto var datasec tag enum64 = absurd (tag refl)
no_tail IsEnum64 v int array struct union enum proto var datasec tag enum64 = absurd (enum64 refl)
no_tail known v int array struct union enum proto var datasec tag enum64 = omega arith

module _ (s : SectionWords) {f : List ℕ} (is : IsFrame f) where
  -- no fields have no fault
  pub none_yet : (word : ℕ) → NoneWithin s f word word
  none_yet word j d past low fault = absurd (omega arith)

  -- a field with a fault is the first if the fields before it have none
  pub first_at : (from to j : ℕ) (role : Role) (c : BtfCause) → from ≤ j → j < to → to ≤ length f
      → NoneWithin s f from j → HasRole (kind f) j role → LeastCause (FaultInRole s f j role) c → IsFirstWithin s f from to j c
  first_at from to j role c past inside room before has held =
      record { past = past; inside = inside; before = before; least = checked s role (Some c) is (omega arith) has held }

  -- one more field without a fault
  pub none_at : (from j next : ℕ) (role : Role) → next ≡ j + 1 → j < length f
      → NoneWithin s f from j → HasRole (kind f) j role → NoCause (FaultInRole s f j role) → NoneWithin s f from next
  none_at from j next role next-is there before has held i d past low fault = elim (cases_lt i j) [
    | inl lt ↦ before i d past lt fault
    | inr le ↦ checked s role None is there has held d (subst (λ (n : ℕ). FaultInWord s f n d) (omega arith) fault)
  ]

  -- fields that may have any value have no fault
  pub free_within : (from to : ℕ) → to ≤ length f → ((j : ℕ) → from ≤ j → j < to → HasRole (kind f) j Free) → NoneWithin s f from to
  free_within from to room free j d past low fault = checked s Free None is (omega arith) (free j past low) (λ c h. h) d fault

  -- the answer for the last field that may have a fault, from that for its cause
  pub field_answer : {Post : BtfCause → ℕ × BtfCause → Type 0} (from to j : ℕ) (role : Role) (fault : Option BtfCause) (answer : Option (ℕ × BtfCause))
      → from ≤ j → j < to → to ≤ length f → NoneWithin s f from j → HasRole (kind f) j role → ((i : ℕ) → j + 1 ≤ i → i < to → HasRole (kind f) i Free)
      → IsLeastOf (FaultInRole s f j role) fault → MatchOption fault (answer ≡ None) (λ c. IsSomeAnd answer (Post c))
      → ((c : BtfCause) (found : ℕ × BtfCause) → Post c found → found ≡ (j, c)) → FirstWithin s f from to answer
  field_answer from to j role None answer past inside room before has free none made same =
      rw made (none_through s f from (j + 1) to (none_at from j (j + 1) role refl (omega arith) before has none) (free_within (j + 1) to room free))
  field_answer from to j role (Some c) None past inside room before has free least made same = absurd made
  field_answer from to j role (Some c) (Some found) past inside room before has free least made same =
      rw (same c found made) (first_at from to j role c past inside room before has least)

-- a type is checked against the kind of the record that refers to it
pub of_its_kind : (types : List TypeFacts) (κ k word : ℕ) (c : BtfCause) → κ ≡ k → LeastCause (NamedTypeFault types k word) c → LeastCause (NamedTypeFault types κ word) c
of_its_kind types κ k word c is least = subst (λ (i : ℕ). LeastCause (NamedTypeFault types i word) c) (sym is) least

-- ---- the end of a record

module _ {f : List ℕ} (is : IsFrame f) where
  pub members_end : IsTrue (is_struct (kind f)) → length f ≡ 3 + 3 * vlen f
  unfolding tail_words
  members_end struct = is.size ∙ rw (struct_fixed (kind f) struct, struct_size (kind f) struct) (omega arith)

  pub params_end : kind f ≡ FUNC_PROTO → length f ≡ 3 + 2 * vlen f
  unfolding tail_words fixed_words item_words
  params_end proto = is.size ∙ rw proto (omega arith)

  pub values_end : fixed_words (kind f) ≡ 0 → length f ≡ 3 + item_words (kind f) * vlen f
  unfolding tail_words
  values_end none = is.size ∙ rw none (omega arith)

  pub entries_end : kind f ≡ DATASEC → length f ≡ 3 + 3 * vlen f
  unfolding tail_words fixed_words item_words
  entries_end datasec = is.size ∙ rw datasec (omega arith)

  pub array_end : kind f ≡ ARRAY → length f ≡ 6
  unfolding tail_words fixed_words item_words
  array_end array = is.size ∙ rw array (omega arith)

  pub fourth_end : (kind f ≡ INT) ⊎ (kind f ≡ VAR) ⊎ (kind f ≡ DECL_TAG) → length f ≡ 4
  fourth_end one = is.size ∙ one_word (kind f) (vlen f) one

  -- a record of another kind ends after three fields
  pub rest_faultless : (s : SectionWords) → kind f ≢ INT → kind f ≢ ARRAY → kind f ≢ STRUCT → kind f ≢ UNION → kind f ≢ ENUM → kind f ≢ FUNC_PROTO
      → kind f ≢ VAR → kind f ≢ DATASEC → kind f ≢ DECL_TAG → kind f ≢ ENUM64 → NoneWithin s f 3 (length f)
  rest_faultless s int array struct union enum proto var datasec tag enum64 j d past low fault =
      let end : length f ≡ 3 = is.size ∙ no_tail (kind_is (kind f) is.info.kind) (vlen f) int array struct union enum proto var datasec tag enum64 in
      absurd (omega arith)

-- the size of a value of an enumeration
pub value_words : (f : List ℕ) → kind f ≡ ENUM → 2 ≡ item_words (kind f)
unfolding item_words
value_words f enum = rw enum refl

pub wide_value_words : (f : List ℕ) → kind f ≡ ENUM64 → 3 ≡ item_words (kind f)
unfolding item_words
wide_value_words f enum64 = rw enum64 refl

-- what the search cites of the fields after the first three
pub ruleset tails = (rest_faultless, array_end, fourth_end, none_yet, value_words, wide_value_words)
