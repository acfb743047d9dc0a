-- The sections .BTF and .BTF.ext of a canonical file are those of its object.
use Rattle.std.proofs.Common.{◌≡◌, ℕ, suc, ◌+◌, ◌<◌, false, true, List, Some, None, length, refl, ap, ◌∙◌, arith}
use Rattle.bpf_elf.specs.declared.kinds.Kind.{Kind}
use Rattle.bpf_elf.specs.declared.kinds.Kind.TheVariants.{Types, Extension}
use Rattle.bpf_elf.specs.Numbers as number
use Rattle.bpf_elf.specs.Sections.{content, section_of}
use Rattle.bpf_object.specs.Objects.{ObjectTypes, Object}
use Rattle.bpf_object.specs.Canonical.{offset_of, has_extension, types_strings, btf_bytes, extension_bytes, canonical}
use Rattle.bpf_object.proofs.ReadBackSections.{content_is}
use Rattle.bpf_object.proofs.ReadBackKinds.{written_section, next, section_of_is}
use Rattle.bpf_object.proofs.CanonValid.{ValidObject, IsSmall}
use Rattle.bpf_object.proofs.CanonRows.{section_rows, row_count, canonical_is, own_kind, own_count, row_count_is, no_types, no_extension, no_extension_of, types_kind, types_content, extension_kind_is, extension_content, extension_below}
use Rattle.bpf_object.proofs.CanonFields.{is_writable}
use Rattle.bpf_object.proofs.CanonSections.{own_found, none_found}
use Rattle.bpf_object.proofs.CanonReads.{count_back}

-- a file has a section of a kind with these bytes
pub record HasSectionOf (b : List ℕ) (k : Kind) (bytes : List ℕ) : Type 0 where
  pub some : 0 < section_of b k (number.count b)
  pub there : section_of b k (number.count b) < number.count b
  pub bytes_are : content b (section_of b k (number.count b)) ≡ bytes

module _ (x : Object) (valid : ValidObject x) (small : IsSmall x) where
  section_back : (k : Kind) → section_of (canonical x) k (number.count (canonical x)) ≡ written_section (section_rows x) (row_count x) k (row_count x + 1)
  section_back k =
      ap (λ (n : ℕ). section_of (canonical x) k n) (count_back x valid small)
      ∙ section_of_is (canonical x) x.order x.flags (section_rows x) (row_count x) (canonical_is x) (is_writable x small valid) k (row_count x + 1) (omega arith)

  own_section_back : (k : ℕ) → k < own_count x → (w : Kind) → own_kind x k ≡ w → (bytes : List ℕ) → (section_rows x (length x.sections + k)).content ≡ bytes
      → HasSectionOf (canonical x) w bytes
  own_section_back k lt w is bytes are =
      let at : section_of (canonical x) w (number.count (canonical x)) ≡ suc (length x.sections + k) = section_back w ∙ own_found x valid k lt w is in
      let count = count_back x valid small in
      record {
        some = omega (arith, at);
        there = omega (arith, at, lt, count, row_count_is x);
        bytes_are =
            ap (λ (i : ℕ). content (canonical x) i) (at ∙ next (length x.sections + k))
            ∙ content_is (canonical x) x.order x.flags (section_rows x) (row_count x) (canonical_is x) (is_writable x small valid) (length x.sections + k) (omega (arith, lt, row_count_is x)) ∙ are;
      }

  -- .BTF
  pub types_back : (t : ObjectTypes) → x.types ≡ Some t → HasSectionOf (canonical x) Types (btf_bytes x.order t)
  types_back t is = own_section_back 0 (omega arith) Types (types_kind x t is) (btf_bytes x.order t) (types_content x t is)

  pub no_types_back : x.types ≡ None → section_of (canonical x) Types (number.count (canonical x)) ≡ 0
  no_types_back is = section_back Types ∙ none_found x valid Types refl refl (no_types x is)

  -- .BTF.ext
  pub extension_back : (t : ObjectTypes) → x.types ≡ Some t → has_extension t ≡ true
      → HasSectionOf (canonical x) Extension (extension_bytes x.order (offset_of (types_strings t)) t)
  extension_back t is has =
      own_section_back 1 (omega (arith, extension_below x t is has)) Extension (extension_kind_is x t is has) (extension_bytes x.order (offset_of (types_strings t)) t)
      (extension_content x t is has)

  pub no_extension_back : x.types ≡ None → section_of (canonical x) Extension (number.count (canonical x)) ≡ 0
  no_extension_back is = section_back Extension ∙ none_found x valid Extension refl refl (no_extension x is)

  pub no_extension_of_back : (t : ObjectTypes) → x.types ≡ Some t → has_extension t ≡ false → section_of (canonical x) Extension (number.count (canonical x)) ≡ 0
  no_extension_of_back t is none = section_back Extension ∙ none_found x valid Extension refl refl (no_extension_of x t is none)
