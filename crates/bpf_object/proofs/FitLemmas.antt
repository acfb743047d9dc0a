-- Whether .BTF and .BTF.ext of an object fit, from those that are written.
use Rattle.std.proofs.Common.{◌≡◌, ℕ, ◌<◌, ◌≤◌, ◌==◌, ◌&&◌, true, false, not, Some, None, inr, List, [], ◌∷◌, ◌++◌, length, refl, sym, ap, ◌∙◌, subst, length-append, arith}
use Rattle.std.specs.List.{All, Contains, flat_map}
use Rattle.std.proofs.lemmas.List.{length-map}
use Rattle.std.proofs.lemmas.List.Elements.{All-nil, All-cons}
use Rattle.std.specs.declared.vec.Vec.{Vec}
use Rattle.btf_raw.specs.Header.{header}
use Rattle.btf_types.specs.{Sections.SectionWords, Sections.records_in, tables.TableInvariant.IsTable}
use Rattle.bpf_canon.specs.btf.strings.{NamesByOffset.NamesByOffset, NamesByOffset.texts_by_offset, DistinctNames.distinct_table}
use Rattle.bpf_canon.specs.btf.write.NameOffsets.{all_offsets}
use Rattle.bpf_canon.proofs.BtfLemmas.CanonicalEncodes.{All-front, All-back}
use Rattle.bpf_canon.proofs.BtfLemmas.Write.SectionFiles.{each_noted}
use Rattle.bpf_object.specs.declared.{extension.Part.Part, source.Source.Source}
use Rattle.bpf_object.specs.declared.extension.Part.TheVariants.{Functions, Relocations}
use Rattle.bpf_object.specs.Canonical.{types_bytes, btf_bytes, extension_bytes, offset_of, types_strings, has_extension}
use Rattle.bpf_object.specs.Denotes.{object_types, btf_fits}
use Rattle.bpf_object.specs.Extension.{Section, groups}
use Rattle.bpf_object.specs.Groups.{function_group, relocation_group}
use Rattle.bpf_object.specs.Objects.{ObjectTypes}
use Rattle.bpf_object.specs.private.NotedStrings.{HasStrings, text_offset}
use Rattle.bpf_object.specs.Sources.{section}
use Rattle.bpf_object.specs.private.WrittenGroups.{group_offsets, groups_offsets, written_extension}
use Rattle.bpf_object.specs.private.WrittenTypes.{both_offsets, both_names, written_btf, AreTooLong, AreWritten}
use Rattle.bpf_object.proofs.ReadBackTests.{most_test}
use Rattle.bpf_object.proofs.OffsetLemmas.{placed_is, btf_is}
use Rattle.bpf_object.proofs.WrittenExtension.{extension_is}

-- ---- the strings of groups are among the noted ones

pub all_in : {A : Type 0} (P : ℕ → Type 0) (f : A → List ℕ) (xs : List A) → All P (flat_map f xs) → All (λ x. All P (f x)) xs
all_in P f [] each = All-nil (λ x. All P (f x))
all_in P f (x ∷ xs) each =
    All-cons (λ x. All P (f x)) x xs (All-front P (f x) (flat_map f xs) each) (all_in P f xs (All-back P (f x) (flat_map f xs) each))

module _ (s : SectionWords) (x : Source) (names : NamesByOffset) (same : x.strings.now ≡ s.strings) (are : names ≡ both_names s (section x)) where
  each_there : All (Contains names.offsets) (both_offsets s (section x))
  each_there =
      subst (λ (n : NamesByOffset). All (Contains n.offsets) (both_offsets s (section x))) (sym are) (each_noted (both_offsets s (section x)))

  pub names_there : All (Contains names.offsets) (all_offsets s.frames)
  names_there = All-front (Contains names.offsets) (all_offsets s.frames) _ each_there

  pub strings_are : names.strings ≡ x.strings.now
  strings_are = ap (λ (n : NamesByOffset). n.strings) are ∙ sym same

  have_strings : (p : Part) (gs : List ℕ) → All (Contains names.offsets) (groups_offsets (section x) p gs) → All (HasStrings names x p) gs
  have_strings p gs each k d lt = record { strings = strings_are; noted = all_in (Contains names.offsets) (group_offsets (section x) p) gs each k d lt }

  pub function_strings_there : All (HasStrings names x Functions) (groups (section x) Functions)
  function_strings_there =
      have_strings Functions (groups (section x) Functions)
      (All-front (Contains names.offsets) (groups_offsets (section x) Functions (groups (section x) Functions)) _
      (All-back (Contains names.offsets) (all_offsets s.frames) _ each_there))

  pub relocation_strings_there : All (HasStrings names x Relocations) (groups (section x) Relocations)
  relocation_strings_there =
      have_strings Relocations (groups (section x) Relocations)
      (All-back (Contains names.offsets) (groups_offsets (section x) Functions (groups (section x) Functions)) _
      (All-back (Contains names.offsets) (all_offsets s.frames) _ each_there))

-- ---- what fits

module _ (s : SectionWords) (x : Section) (new : ℕ → ℕ) (same : s.strings ≡ x.strings) (table : IsTable s) (names : NamesByOffset) (are : names ≡ both_names s x) where
  abbrev t : ObjectTypes
  t = object_types new s x

  abbrev extension : List ℕ
  extension = extension_bytes x.order (offset_of (types_strings t)) t

  -- .BTF
  same_btf : written_btf x.order s names ≡ btf_bytes x.order t
  same_btf = ap (written_btf x.order s) are ∙ btf_is s x new same table x.order

  pub long_btf : (limit : ℕ) → limit < length (written_btf x.order s names) → limit < length (btf_bytes x.order t)
  long_btf limit lt = subst (λ (b : List ℕ). limit < length b) same_btf lt

  pub long_table : (limit : ℕ) → limit < length (distinct_table (texts_by_offset names)) → limit < length (btf_bytes x.order t)
  long_table limit lt =
      let types = types_bytes x.order (text_offset names) (records_in s) in
      let strings = distinct_table (texts_by_offset names) in
      let whole = length-append (header x.order 24 0 (length types) (length types) (length strings) ++ types) strings in
      long_btf limit (omega (arith, lt, whole))

  fits_btf : length (written_btf x.order s names) ≤ 15728640 → btf_fits x.order t ≡ true
  fits_btf le = most_test (length (btf_bytes x.order t)) 15728640 (subst (λ (b : List ℕ). length b ≤ 15728640) same_btf le)

  -- .BTF.ext of these groups
  module _ (fs rs : List ℕ) (functions : fs ≡ groups x Functions) (relocations : rs ≡ groups x Relocations) where
    has_is : has_extension t ≡ not (length fs == 0 && length rs == 0)
    has_is = rw (functions, relocations, length-map (groups x Functions) (function_group new x), length-map (groups x Relocations) (relocation_group new x)) refl

    same_extension : written_extension x new (text_offset names) fs rs ≡ extension
    same_extension =
        rw (functions, relocations, are) (extension_is s x new (text_offset (both_names s x)))
        ∙ ap (λ (p : List ℕ → ℕ). extension_bytes x.order p t) (placed_is s x new same table)

    pub long_extension : (limit : ℕ) → not (length fs == 0 && length rs == 0) ≡ true → limit < length (written_extension x new (text_offset names) fs rs)
        → AreTooLong limit x.order t
    long_extension limit some lt = inr (has_is ∙ some, subst (λ (b : List ℕ). limit < length b) same_extension lt)

    pub without_extension : {A : Type 0} (types : Vec ℕ A) → not (length fs == 0 && length rs == 0) ≡ false → length (written_btf x.order s names) ≤ 15728640
        → types.items ≡ written_btf x.order s names → AreWritten x.order t (record { types = types; extension = None })
    without_extension types none le is =
        let has : has_extension t ≡ false = has_is ∙ none in
        record { fit = fits_btf le; types = is ∙ same_btf; extension = rw has refl }

    pub with_extension : {A : Type 0} (types bytes : Vec ℕ A) → not (length fs == 0 && length rs == 0) ≡ true → length (written_btf x.order s names) ≤ 15728640
        → types.items ≡ written_btf x.order s names → bytes.items ≡ written_extension x new (text_offset names) fs rs
        → AreWritten x.order t (record { types = types; extension = Some bytes })
    with_extension types bytes some le is whole =
        let has : has_extension t ≡ true = has_is ∙ some in
        record { fit = fits_btf le; types = is ∙ same_btf; extension = rw has (ap Some (whole ∙ same_extension)) }
