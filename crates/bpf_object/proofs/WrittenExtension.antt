-- .BTF.ext that is written from its groups is that of its object.
use Rattle.std.proofs.Common.{◌≡◌, ℕ, zero, suc, List, [], ◌∷◌, ◌++◌, length, map, refl, sym, ap, ◌∙◌, ◌+◌, length-append, append-nil, arith}
use Rattle.std.specs.List.{flat_map}
use Rattle.std.proofs.lemmas.List.{Concat.flat_map-append}
use Rattle.bpf_words.specs.Words.{word32}
use Rattle.bpf_words.proofs.WordLemmas.{length-word16, length-word32}
use Rattle.bpf_words.specs.declared.Order.{Order}
use Rattle.btf_types.specs.Sections.{SectionWords}
use Rattle.bpf_object.specs.declared.extension.Part.{Part, TheVariants.Functions, TheVariants.Lines, TheVariants.Relocations}
use Rattle.bpf_object.specs.Canonical.{group_bytes, part_bytes, function_bytes, line_bytes, relocation_bytes, functions_part, lines_part, relocations_part, extension_header, extension_of, extension_bytes}
use Rattle.bpf_object.specs.Denotes.{object_types}
use Rattle.bpf_object.specs.Extension.{Section, group_count, groups, record_size}
use Rattle.bpf_object.specs.Groups.{function_at, relocation_at, renewed_function, renewed_relocation}
use Rattle.bpf_object.specs.Kept.{listed}
use Rattle.bpf_object.specs.Lines.{name_of}
use Rattle.bpf_object.specs.Objects.{Group}
use Rattle.bpf_object.specs.private.WrittenGroups.{record_bytes, records_bytes, group_bytes_at, groups_bytes, written_part, written_extension}
use Rattle.bpf_object.proofs.KeptLemmas.{all, length-all}

-- the header has 32 bytes
length_header : (o : Order) (functions lines relocations : ℕ) → length (extension_header o functions lines relocations) ≡ 32
length_header o functions lines relocations = grind (arith, length-append, length-word16, length-word32)

pub length_extension : (o : Order) (functions lines relocations : List ℕ)
    → length (extension_of o functions lines relocations) ≡ 32 + (length functions + length lines + length relocations)
length_extension o functions lines relocations =
    length-append (extension_header o (length functions) (length lines) (length relocations)) (functions ++ lines ++ relocations)
    ∙ rw (length_header o (length functions) (length lines) (length relocations), length-append (functions ++ lines) relocations, length-append functions lines)
    refl

-- the bytes of groups are those of these values
module _ {R : Type 0} (x : Section) (new : ℕ → ℕ) (place : List ℕ → ℕ) (p : Part) (at : ℕ → ℕ → R) (bytes : R → List ℕ) (same : (g k : ℕ) → record_bytes x new place p g k ≡ bytes (at g k)) where
  group_of : ℕ → Group R
  group_of g = record { section = name_of x g; records = listed all (at g) (group_count x g) }

  records_are : (g n : ℕ) → records_bytes x new place p g n ≡ flat_map bytes (listed all (at g) n)
  records_are g zero = refl
  records_are g (suc n) =
      ap (λ (t : List ℕ). t ++ record_bytes x new place p g n) (records_are g n)
      ∙ ap (λ (t : List ℕ). flat_map bytes (listed all (at g) n) ++ t) (same g n ∙ sym (append-nil (bytes (at g n))))
      ∙ sym (flat_map-append bytes (listed all (at g) n) (at g n ∷ []))

  group_is : (g : ℕ) → group_bytes_at x new place p g ≡ group_bytes x.order place bytes (group_of g)
  unfolding group_of
  group_is g =
      let name = word32 x.order (place (name_of x g)) in
      ap (λ (t : List ℕ). name ++ word32 x.order (group_count x g) ++ t) (records_are g (group_count x g))
      ∙ ap (λ (n : ℕ). name ++ word32 x.order n ++ flat_map bytes (listed all (at g) (group_count x g))) (sym (length-all (at g) (group_count x g)))

  groups_are : (gs : List ℕ) → groups_bytes x new place p gs ≡ flat_map (group_bytes x.order place bytes) (map group_of gs)
  groups_are [] = refl
  groups_are (g ∷ gs) =
      ap (λ (t : List ℕ). t ++ groups_bytes x new place p gs) (group_is g)
      ∙ ap (λ (t : List ℕ). group_bytes x.order place bytes (group_of g) ++ t) (groups_are gs)

  part_is : (gs : List ℕ) → written_part x new place p gs ≡ part_bytes x.order (record_size p) (group_bytes x.order place bytes) (map group_of gs)
  part_is [] = refl
  part_is (g ∷ gs) = ap (λ (t : List ℕ). word32 x.order (record_size p) ++ t) (groups_are (g ∷ gs))

module _ (s : SectionWords) (x : Section) (new : ℕ → ℕ) (place : List ℕ → ℕ) where
  functions_are : written_part x new place Functions (groups x Functions) ≡ functions_part x.order place (object_types new s x)
  unfolding group_of
  functions_are = part_is x new place Functions (λ g k. renewed_function new (function_at x g k)) (function_bytes x.order) (λ g k. refl) (groups x Functions)

  lines_are : written_part x new place Lines (groups x Functions) ≡ lines_part x.order place (object_types new s x)
  unfolding group_of
  lines_are = part_is x new place Lines (λ g k. renewed_function new (function_at x g k)) (line_bytes x.order) (λ g k. refl) (groups x Functions)

  relocations_are : written_part x new place Relocations (groups x Relocations) ≡ relocations_part x.order place (object_types new s x)
  unfolding group_of
  relocations_are =
      part_is x new place Relocations (λ g k. renewed_relocation new (relocation_at x g k)) (relocation_bytes x.order place) (λ g k. refl) (groups x Relocations)

  pub extension_is : written_extension x new place (groups x Functions) (groups x Relocations) ≡ extension_bytes x.order place (object_types new s x)
  extension_is =
      ap (λ (t : List ℕ). extension_of x.order t (written_part x new place Lines (groups x Functions)) (written_part x new place Relocations (groups x Relocations)))
      functions_are
      ∙ ap (λ (t : List ℕ). extension_of x.order (functions_part x.order place (object_types new s x)) t (written_part x new place Relocations (groups x Relocations)))
      lines_are
      ∙ ap (extension_of x.order (functions_part x.order place (object_types new s x)) (lines_part x.order place (object_types new s x))) relocations_are
