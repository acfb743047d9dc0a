-- The offsets of the names that records are sorted by.
use Rattle.std.proofs.Common.{◌≡◌, ℕ, ◌+◌, ◌<◌, ◌≤◌, ◌==◌, ◌&&◌, ◌||◌, Bool, true, false, List, [], ◌∷◌, ◌++◌, length, inl, inr, refl, sym, ap, subst, ◌∙◌, length-append, arith}
use Rattle.std.specs.Prelude.{slice_index, nat_le}
use Rattle.std.specs.{List.Contains}
use Rattle.std.proofs.lemmas.Bool.{cases_Bool, cases_eq, false≢true}
use Rattle.std.proofs.lemmas.List.Elements.{All-nil, All-push, All-contains, Contains-push, Contains-append_left}
use Rattle.btf_raw.specs.KindNumbers.{FWD, VAR, TYPE_TAG}
use Rattle.btf_raw.specs.Frames.{name_word, kind}
use Rattle.btf_types.specs.Sections.{SectionWords}
use Rattle.bpf_object.specs.TypeOrder.{frame_of, layer, is_sorted}
use Rattle.bpf_object.specs.private.NameRanks.{RankedNames, AreNoted}
use Rattle.bpf_object.specs.private.TypeSteps.{may_be_sorted, AreNameOffsets, AreRanked}

pub offsets_none : (s : SectionWords) → AreNameOffsets s 0 []
offsets_none s = record {
  inside = All-nil (λ off. off < length s.strings);
  few = omega arith;
  each = λ id some le _. absurd (omega (arith, some, le));
}

module _ (s : SectionWords) (n : ℕ) (offsets f : List ℕ) (are : AreNameOffsets s n offsets) (is : frame_of s (n + 1) ≡ f) where
  next : (more : List ℕ) → ((off : ℕ) → Contains offsets off → Contains more off) → (may_be_sorted (kind f) ≡ true → Contains more (name_word f))
      → (id : ℕ) → 0 < id → id ≤ n + 1 → may_be_sorted (kind (frame_of s id)) ≡ true → Contains more (name_word (frame_of s id))
  next more keeps last id some le may = elim (cases_eq id (n + 1)) [
    | inl e ↦
        let here : frame_of s id ≡ f = ap (frame_of s) e ∙ is in
        subst (λ (g : List ℕ). Contains more (name_word g)) (sym here) (last (subst (λ (g : List ℕ). may_be_sorted (kind g) ≡ true) here may))
    | inr other ↦ keeps (name_word (frame_of s id)) (are.each id some (omega (arith, le, other)) may)
  ]

  pub offsets_pushed : name_word f < length s.strings → AreNameOffsets s (n + 1) (offsets ++ name_word f ∷ [])
  offsets_pushed there =
      let few = are.few in
      record {
        inside = All-push (λ off. off < length s.strings) offsets (name_word f) are.inside there;
        few = omega (arith, few, length-append offsets (name_word f ∷ []));
        each = next (offsets ++ name_word f ∷ []) (λ off. Contains-append_left offsets (name_word f ∷ []) off) (λ _. Contains-push offsets (name_word f));
      }

  pub offsets_kept : may_be_sorted (kind f) ≡ false → AreNameOffsets s (n + 1) offsets
  offsets_kept not_named =
      let few = are.few in
      record {
        inside = are.inside;
        few = omega (arith, few);
        each = next offsets (λ off there. there) (λ may. absurd (false≢true (sym not_named ∙ may)));
      }

may_from_sorted : (v w t l : Bool) → (v || (w || (t && l))) ≡ true → (v || (w || t)) ≡ true
may_from_sorted true w t l is = refl
may_from_sorted false true t l is = refl
may_from_sorted false false true l is = refl
may_from_sorted false false false l is = is

pub names_ranked : (s : SectionWords) (offsets : List ℕ) (names : RankedNames) → AreNameOffsets s (length s.frames) offsets → AreNoted names offsets → AreRanked s names
names_ranked s offsets names are noted id some le = elim (cases_Bool (is_sorted s id)) [
  | inl sorted ↦
      let k = kind (frame_of s id) in
      let may = may_from_sorted (k == VAR) (k == FWD) (k == TYPE_TAG) (nat_le (layer s id) (length s.frames)) sorted in
      let known = All-contains (λ (off : ℕ). 0 < slice_index names.ranks off) offsets (name_word (frame_of s id)) noted.each (are.each id some le may) in
      rw sorted known
  | inr other ↦ rw other noted.empty
]
