use Rattle.std.proofs.Common.{rules, of_calls, ◌≡◌, ◌≢◌, ℕ, true, false, Option, List, [], ◌∷◌, length, refl, sym, subst, ◌∙◌}
use Rattle.std.specs.Prelude.{IsTrue, IsFalse}
use Rattle.btf_raw.specs.{KindNumbers.ARRAY, KindNumbers.FWD, Kinds.one_of, Kinds.has_target, Kinds.is_kind, Kinds.layout_of, declared.cause.BtfCause.BtfCause}
use Rattle.btf_raw.specs.declared.info.Third.{Third, TheVariants.Zero, TheVariants.TypeId, TheVariants.Size as OfSize}
use Rattle.btf_raw.specs.declared.cause.BtfCause.TheVariants.{NotZero, Size, Reference, TargetKind}
use Rattle.btf_types.specs.{Sections.facts_in, checks.NameFaults.NamedTypeFault}
use Rattle.btf_types.specs.checks.Numbers.{TypeFacts, type_at, size_fits, ThirdFault, IsLeastOf}
use Rattle.btf_types.proofs.{CheckLemmas.Checking.checked_same, KindCases.KindIs, KindCases.kind_is}
use Rattle.btf_types.proofs.KindCases.KindIs.{IsInt, IsStruct, IsUnion, IsEnum, IsDatasec, IsFloat, IsEnum64}
use Rattle.btf_types.proofs.checks.references.third_fault.Goals as goal

-- what the row of a kind says of its third field
abbrev ThirdRow : Third → ℕ → ℕ → ℕ → Type 0
ThirdRow Zero κ third vlen = (one_of (ARRAY ∷ FWD ∷ []) κ ≡ true) × (has_target κ ≡ false) × (size_fits κ third vlen ≡ true)
ThirdRow OfSize κ third vlen = (one_of (ARRAY ∷ FWD ∷ []) κ ≡ false) × (has_target κ ≡ false)
ThirdRow TypeId κ third vlen = (one_of (ARRAY ∷ FWD ∷ []) κ ≡ false) × (has_target κ ≡ true) × (size_fits κ third vlen ≡ true)

third_row : {κ : ℕ} → KindIs κ → (third vlen : ℕ) → ThirdRow ((layout_of κ).third) κ third vlen
unfolding layout_of has_target size_fits
third_row IsInt third vlen = (refl, refl)
third_row IsStruct third vlen = (refl, refl)
third_row IsUnion third vlen = (refl, refl)
third_row IsEnum third vlen = (refl, refl)
third_row IsDatasec third vlen = (refl, refl)
third_row IsFloat third vlen = (refl, refl)
third_row IsEnum64 third vlen = (refl, refl)
third_row known third vlen = (refl, refl, refl)

row_of : (κ third vlen : ℕ) (field : Third) → IsTrue (is_kind κ) → field ≡ (layout_of κ).third → ThirdRow field κ third vlen
row_of κ third vlen field known row = subst (λ (f : Third). ThirdRow f κ third vlen) (sym row) (third_row (kind_is κ known) third vlen)

-- what a cause says of a third field that is 0, a size or a type ID
abbrev FieldFault : Third → List TypeFacts → ℕ → ℕ → ℕ → BtfCause → Type 0
FieldFault Zero types κ third vlen NotZero = third ≢ 0
FieldFault OfSize types κ third vlen Size = IsFalse (size_fits κ third vlen)
FieldFault TypeId types κ third vlen c = NamedTypeFault types κ third c
FieldFault field types κ third vlen _ = ⊥

module _ (types : List TypeFacts) (κ third vlen : ℕ) where
  there : (field : Third) → ThirdRow field κ third vlen → (c : BtfCause) → FieldFault field types κ third vlen c
      → ThirdFault κ third vlen (length types) ((type_at types third).kind) c
  there Zero row NotZero h = (row.0, h)
  there OfSize row Size h = h
  there TypeId row Reference h = (row.1, h)
  there TypeId row TargetKind h = (row.1, h.0, h.1)
  there field row c h = absurd h

  back : (field : Third) → ThirdRow field κ third vlen → (c : BtfCause) → ThirdFault κ third vlen (length types) ((type_at types third).kind) c
      → FieldFault field types κ third vlen c
  back Zero row NotZero h = h.1
  back OfSize row Size h = h
  back TypeId row Reference h = h.1
  back TypeId row TargetKind h = (h.1, h.2)
  back field row NotZero h = let no = row.0 in absurd cc
  back field row Size h = let fits = row.2 in absurd cc
  back field row Reference h = let no = row.1 in absurd cc
  back field row TargetKind h = let no = row.1 in absurd cc
  back field row c h = absurd h

  by_row : (field : Third) (r : Option BtfCause) → ThirdRow field κ third vlen → IsLeastOf (FieldFault field types κ third vlen) r
      → IsLeastOf (ThirdFault κ third vlen (length types) ((type_at types third).kind)) r
  by_row field r row held = checked_same (FieldFault field types κ third vlen) (ThirdFault κ third vlen (length types) ((type_at types third).kind)) r (there field row) (back field row) held

pub returns-in-Zero : goal.returns-in-Zero
returns-in-Zero c =
    by_row (facts_in c.args.section.now) c.args.kind c.args.third c.args.vlen Zero c.then_some.result
    (row_of c.args.kind c.args.third c.args.vlen Zero c.requires.kind (sym c.in-Zero.is ∙ c.requires.field)) (search (rules, of_calls))

pub returns-in-Size : goal.returns-in-Size
returns-in-Size c =
    by_row (facts_in c.args.section.now) c.args.kind c.args.third c.args.vlen OfSize c.then_some-in-Size.result
    (row_of c.args.kind c.args.third c.args.vlen OfSize c.requires.kind (sym c.in-Size.is ∙ c.requires.field)) (search (rules, of_calls))

pub returns-in-TypeId : goal.returns-in-TypeId
returns-in-TypeId c =
    by_row (facts_in c.args.section.now) c.args.kind c.args.third c.args.vlen TypeId c.named_type_fault.result
    (row_of c.args.kind c.args.third c.args.vlen TypeId c.requires.kind (sym c.in-TypeId.is ∙ c.requires.field)) c.named_type_fault.ensures
