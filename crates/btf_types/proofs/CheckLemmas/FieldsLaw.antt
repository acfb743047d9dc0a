-- The fields of a section have no fault if its frames encode valid records.
use Rattle.std.proofs.Common.{◌≡◌, ℕ, zero, suc, Some, List, [], ◌∷◌, map, refl, sym, subst}
use Rattle.std.specs.{Prelude.slice_get, List.All, List.AllZip}
use Rattle.std.proofs.lemmas.List.Elements.{All-head, All-tail}
use Rattle.btf_raw.specs.Cause.{HasNone}
use Rattle.btf_types.specs.{Values.TypeRecord, Encoding.Encodes, Valid.IsValidRecord, Valid.IsValid, Valid.facts}
use Rattle.btf_types.specs.checks.{Numbers.TypeFacts, FieldFaults.FieldFault, FieldFaults.WordFault, FieldFaults.frame_facts}
use Rattle.btf_types.proofs.FaultlessLemmas.EncodedFaultless.{encoded_faultless, encoded_facts}

facts_encoded : (strings : List ℕ) (types : List TypeFacts) (v : List TypeRecord) (fs : List (List ℕ)) → All (IsValidRecord types) v → AllZip (Encodes strings) v fs → facts v ≡ map frame_facts fs
facts_encoded strings types [] [] valid encoded = refl
facts_encoded strings types [] (f ∷ fs) valid encoded = absurd encoded
facts_encoded strings types (r ∷ v) [] valid encoded = absurd encoded
facts_encoded strings types (r ∷ v) (f ∷ fs) valid encoded =
    let first = encoded_facts strings types r f (All-head (IsValidRecord types) r v valid) encoded.0 in
    let rest = facts_encoded strings types v fs (All-tail (IsValidRecord types) r v valid) encoded.1 in
    cc

-- the record that a frame of the list encodes
record EncodedThere (strings : List ℕ) (types : List TypeFacts) (f : List ℕ) : Type 0 where
  value : TypeRecord
  valid : IsValidRecord types value
  encodes : Encodes strings value f

encoded_there : (strings : List ℕ) (types : List TypeFacts) (v : List TypeRecord) (fs : List (List ℕ)) (i : ℕ) (f : List ℕ) → All (IsValidRecord types) v → AllZip (Encodes strings) v fs → slice_get fs i ≡ Some f → EncodedThere strings types f
encoded_there strings types v [] i f valid encoded is = absurd cc
encoded_there strings types [] (g ∷ fs) i f valid encoded is = absurd encoded
encoded_there strings types (r ∷ v) (g ∷ fs) zero f valid encoded is =
    let same : g ≡ f = cc in
    record { value = r; valid = All-head (IsValidRecord types) r v valid; encodes = subst (λ (h : List ℕ). Encodes strings r h) same encoded.0 }
encoded_there strings types (r ∷ v) (g ∷ fs) (suc i) f valid encoded is = encoded_there strings types v fs i f (All-tail (IsValidRecord types) r v valid) encoded.1 is

pub fields_have_none : (strings : List ℕ) (v : List TypeRecord) (fs : List (List ℕ)) → AllZip (Encodes strings) v fs → IsValid v → HasNone (FieldFault strings fs)
fields_have_none strings v fs encoded valid p c fault =
    let there = encoded_there strings (facts v) v fs fault.index fault.frame valid.each encoded fault.frame_is in
    let same = facts_encoded strings (facts v) v fs valid.each encoded in
    encoded_faultless strings (facts v) there.value fault.frame there.valid there.encodes fault.word c
    (subst (λ (ts : List TypeFacts). WordFault strings ts fault.frame fault.word c) (sym same) fault.fault)
