-- The faults of a name field.
use Rattle.std.proofs.Common.{◌≡◌, ℕ, ◌<◌, ◌≤◌, Bool, true, false, Option, List, length, refl, ap, subst, inl, inr, arith}
use Rattle.std.specs.Prelude.{◌↔◌, ◌==◌, IsFalse, IsTrue, IsUtf8, slice_index}
use Rattle.std.proofs.lemmas.Bool.{cases_lt, eqb-true, eqb-false}
use Rattle.btf_raw.specs.{declared.cause.BtfCause.BtfCause, Cause.number_of, Names.TextAt, Header.HasNulEnds, Kinds.needs_name, Kinds.has_no_name, Kinds.layout_of}
use Rattle.btf_raw.specs.declared.info.Naming.{Naming, TheVariants.Needed, TheVariants.Unnamed}
use Rattle.btf_raw.specs.declared.cause.BtfCause.TheVariants.{NameRange, NameUtf8, NameMissing, NameUnwanted}
use Rattle.btf_types.specs.checks.{Numbers.NoCause, Numbers.LeastCause, Numbers.IsLeastOf, NameFaults.NameFault, NameFaults.ItemNameFault}
use Rattle.btf_types.specs.Reading.{text_from}
use Rattle.btf_types.proofs.{TableLemmas.TextSteps.text_there, CheckLemmas.Checking.checked_same, CheckLemmas.Utf8Steps.empty_byte, CheckLemmas.Utf8Steps.empty_text}

-- what a cause says of a record's own name if its offset is valid, given whether the name is empty
abbrev pub OwnNameFault : ℕ → Bool → BtfCause → Type 0
OwnNameFault kind empty NameMissing = IsTrue (needs_name kind) × IsTrue empty
OwnNameFault kind empty NameUnwanted = IsTrue (has_no_name kind) × IsFalse empty
OwnNameFault kind empty _ = ⊥

-- the same, given what the row of the kind says of names
abbrev pub NamingFault : Naming → Bool → BtfCause → Type 0
NamingFault Needed empty NameMissing = IsTrue empty
NamingFault Unnamed empty NameUnwanted = IsFalse empty
NamingFault naming empty _ = ⊥

needs_by_row : (kind : ℕ) (naming : Naming) → (layout_of kind).name ≡ naming → needs_name kind ≡ elim naming [ Needed ↦ true | _ ↦ false ]
unfolding needs_name
needs_by_row kind naming row = ap (λ (n : Naming). elim n [ Needed ↦ true | _ ↦ false ]) row

lacks_by_row : (kind : ℕ) (naming : Naming) → (layout_of kind).name ≡ naming → has_no_name kind ≡ elim naming [ Unnamed ↦ true | _ ↦ false ]
unfolding has_no_name
lacks_by_row kind naming row = ap (λ (n : Naming). elim n [ Unnamed ↦ true | _ ↦ false ]) row

naming_to_own : (kind : ℕ) (naming : Naming) (empty : Bool) → (layout_of kind).name ≡ naming → (c : BtfCause) → NamingFault naming empty c → OwnNameFault kind empty c
naming_to_own kind Needed empty row NameMissing fault = (needs_by_row kind Needed row, fault)
naming_to_own kind Unnamed empty row NameUnwanted fault = (lacks_by_row kind Unnamed row, fault)
naming_to_own kind naming empty row c fault = absurd fault

own_to_naming : (kind : ℕ) (naming : Naming) (empty : Bool) → (layout_of kind).name ≡ naming → (c : BtfCause) → OwnNameFault kind empty c → NamingFault naming empty c
own_to_naming kind Needed empty row NameMissing fault = fault.1
own_to_naming kind Unnamed empty row NameUnwanted fault = fault.1
own_to_naming kind naming empty row NameMissing fault = let no = needs_by_row kind naming row in absurd cc
own_to_naming kind naming empty row NameUnwanted fault = let no = lacks_by_row kind naming row in absurd cc
own_to_naming kind naming empty row c fault = absurd fault

-- the name of an item, if its string isn't UTF-8 and if it is
pub utf8_fault : (strings : List ℕ) (offset : ℕ) → HasNulEnds strings → offset < length strings
    → ((text : List ℕ) → TextAt strings offset text → (false ≡ true) ↔ IsUtf8 text) → LeastCause (ItemNameFault strings offset) NameUtf8
utf8_fault strings offset ends low checked =
    let text = text_from strings offset in
    let there = text_there strings offset ends low in
    record { holds = (text, there, λ utf8. false_is_no ((checked text there).1 utf8)); least = least }
  where
    false_is_no : false ≡ true → ⊥
    false_is_no e = cc

    least : (other : BtfCause) → ItemNameFault strings offset other → number_of NameUtf8 ≤ number_of other
    least NameRange fault = absurd (omega arith)
    least NameUtf8 fault = omega arith
    least c fault = absurd fault

pub no_item_fault : (strings : List ℕ) (offset : ℕ) → offset < length strings
    → ((text : List ℕ) → TextAt strings offset text → (true ≡ true) ↔ IsUtf8 text) → NoCause (ItemNameFault strings offset)
no_item_fault strings offset low checked NameRange fault = omega arith
no_item_fault strings offset low checked NameUtf8 fault = fault.2 ((checked fault.0 fault.1).0 refl)
no_item_fault strings offset low checked c fault = absurd fault

-- a record's own name has the faults of an item's, and its own
pub item_to_name : (strings : List ℕ) (kind offset : ℕ) (c : BtfCause) → LeastCause (ItemNameFault strings offset) c → LeastCause (NameFault strings kind offset) c
item_to_name strings kind offset c least = record { holds = up c least.holds; least = λ d h. under c d least.holds least.least h }
  where
    up : (d : BtfCause) → ItemNameFault strings offset d → NameFault strings kind offset d
    up NameRange fault = fault
    up NameUtf8 fault = fault
    up d fault = absurd fault

    low : (d : BtfCause) → ItemNameFault strings offset d → number_of d ≤ 20
    low NameRange fault = omega arith
    low NameUtf8 fault = omega arith
    low d fault = absurd fault

    under : (e d : BtfCause) → ItemNameFault strings offset e → ((o : BtfCause) → ItemNameFault strings offset o → number_of e ≤ number_of o) → NameFault strings kind offset d → number_of e ≤ number_of d
    under e NameRange here least fault = least NameRange fault
    under e NameUtf8 here least fault = least NameUtf8 fault
    under e NameMissing here least fault = let few = low e here in omega arith
    under e NameUnwanted here least fault = let few = low e here in omega arith
    under e d here least fault = absurd fault

module _ (strings : List ℕ) (kind offset : ℕ) (ends : HasNulEnds strings) (none : NoCause (ItemNameFault strings offset)) where
  own_to_name : (c : BtfCause) → offset < length strings → OwnNameFault kind (slice_index strings offset == 0) c → NameFault strings kind offset c
  own_to_name NameMissing low fault =
      let there = text_there strings offset ends low in
      (fault.0, subst (λ (x : List ℕ). TextAt strings offset x) (empty_text strings offset (text_from strings offset) there (eqb-true (slice_index strings offset) 0 fault.1)) there)
  own_to_name NameUnwanted low fault =
      let there = text_there strings offset ends low in
      (fault.0, text_from strings offset, there, λ e. eqb-false (slice_index strings offset) 0 fault.1 (empty_byte strings offset (subst (λ (x : List ℕ). TextAt strings offset x) e there)))
  own_to_name c low fault = absurd fault

  name_to_own : (c : BtfCause) → NameFault strings kind offset c → OwnNameFault kind (slice_index strings offset == 0) c
  name_to_own NameRange fault = absurd (none NameRange fault)
  name_to_own NameUtf8 fault = absurd (none NameUtf8 fault)
  name_to_own NameMissing fault = (fault.0, ap (λ (i : ℕ). i == 0) (empty_byte strings offset fault.1))
  name_to_own NameUnwanted fault = (fault.0, not_empty (slice_index strings offset == 0) refl)
    where
      not_empty : (b : Bool) → (slice_index strings offset == 0) ≡ b → IsFalse b
      not_empty false e = refl
      not_empty true e = absurd (fault.3 (empty_text strings offset fault.1 fault.2 (eqb-true (slice_index strings offset) 0 e)))
  name_to_own c fault = absurd fault

pub in_range : (strings : List ℕ) (offset : ℕ) → NoCause (ItemNameFault strings offset) → offset < length strings
in_range strings offset none = elim (cases_lt offset (length strings)) [ inl lt ↦ lt | inr le ↦ absurd (none NameRange le) ]

-- the answer for a record's own name, from that for whether it is empty
pub name_checked : (strings : List ℕ) (kind : ℕ) (naming : Naming) (offset : ℕ) (r : Option BtfCause) → (layout_of kind).name ≡ naming → HasNulEnds strings
    → NoCause (ItemNameFault strings offset) → IsLeastOf (NamingFault naming (slice_index strings offset == 0)) r → IsLeastOf (NameFault strings kind offset) r
name_checked strings kind naming offset r row ends none own =
    let empty : Bool = slice_index strings offset == 0 in
    checked_same (NamingFault naming empty) (NameFault strings kind offset) r
    (λ d h. own_to_name strings kind offset ends none d (in_range strings offset none) (naming_to_own kind naming empty row d h))
    (λ d h. own_to_naming kind naming empty row d (name_to_own strings kind offset ends none d h)) own
