-- The file of a list of sections is that of their numbers.
use Rattle.std.proofs.Common.{◌≡◌, ℕ, zero, suc, ◌+◌, ◌≤◌, List, [], ◌∷◌, ◌++◌, length, take, replicate, refl, sym, ap, ◌∙◌, add-one, append-nil, append_assoc, arith}
use Rattle.std.specs.Prelude.{slice_index_or}
use Rattle.std.proofs.lemmas.List.{take_more, take_all}
use Rattle.bpf_words.specs.declared.Order.{Order}
use Rattle.bpf_object.specs.private.Fields.{encode}
use Rattle.bpf_object.specs.File as old
use Rattle.bpf_object.specs.File.{WrittenSection, ident, file_type, file_table, section_header, content_offset, no_section}
use Rattle.bpf_object.specs.private.FileOf.{header_fields, section_fields, padded, contents, headers, file_of}
use Rattle.bpf_object.proofs.FileWriterLemmas.{contents_push, headers_push}

header_same : (o : Order) (flags table count : ℕ) → file_type o ++ file_table o flags table count ≡ encode o (header_fields flags table count)
header_same o flags table count = simp (append_assoc, append-nil)

row_same : (o : Order) (s : WrittenSection) (at : ℕ) → section_header o s at ≡ encode o (section_fields s at)
row_same o s at = simp (append_assoc, append-nil)

module _ (ss : List WrittenSection) where
  at : ℕ → WrittenSection
  at k = slice_index_or ss k no_section

  more : (n : ℕ) → suc n ≤ length ss → take (suc n) ss ≡ take n ss ++ at n ∷ []
  unfolding at
  more n le = ap (λ (k : ℕ). take k ss) (sym (add-one n)) ∙ take_more ss n no_section (omega (arith, le))

  -- those of the first n sections
  contents_first : (n : ℕ) → n ≤ length ss → old.contents at n ≡ contents (take n ss)
  unfolding at
  contents_first zero le = refl
  contents_first (suc n) le =
      ap (λ (t : List ℕ). t ++ padded (at n).content) (contents_first n (omega (arith, le))) ∙ sym (contents_push (take n ss) (at n))
      ∙ ap contents (sym (more n le))

  headers_first : (o : Order) (n : ℕ) → n ≤ length ss → old.section_headers o at n ≡ replicate 64 0 ++ headers o 64 (take n ss)
  unfolding at
  headers_first o zero le = sym (append-nil (replicate 64 0))
  headers_first o (suc n) le =
      ap (λ (t : List ℕ). t ++ section_header o (at n) (content_offset at n)) (headers_first o n (omega (arith, le)))
      ∙ append_assoc (replicate 64 0) (headers o 64 (take n ss)) (section_header o (at n) (content_offset at n))
      ∙ ap (λ (t : List ℕ). replicate 64 0 ++ (headers o 64 (take n ss) ++ t)) (row_same o (at n) (content_offset at n) ∙ ap (λ (c : List ℕ). encode o (section_fields (at n) (64 + length c))) (contents_first n (omega (arith, le))))
      ∙ ap (λ (t : List ℕ). replicate 64 0 ++ t) (sym (headers_push o 64 (take n ss) (at n)) ∙ ap (headers o 64) (sym (more n le)))

  all : take (length ss) ss ≡ ss
  all = take_all (length ss) ss (omega arith)

  pub file_same : (o : Order) (flags : ℕ) → old.file_of o flags (λ k. slice_index_or ss k no_section) (length ss) ≡ file_of o flags ss
  unfolding at
  file_same o flags =
      let held : old.contents at (length ss) ≡ contents ss = contents_first (length ss) (omega arith) ∙ ap contents all in
      let table : old.section_headers o at (length ss) ≡ replicate 64 0 ++ headers o 64 ss = headers_first o (length ss) (omega arith) ∙ ap (λ (l : List WrittenSection). replicate 64 0 ++ headers o 64 l) all in
      ap (λ (c : List ℕ). (ident o ++ (file_type o ++ file_table o flags (64 + length c) (length ss + 1))) ++ (c ++ old.section_headers o at (length ss))) held
      ∙ ap (λ (t : List ℕ). (ident o ++ (file_type o ++ file_table o flags (64 + length (contents ss)) (length ss + 1))) ++ (contents ss ++ t)) table
      ∙ ap (λ (t : List ℕ). (ident o ++ t) ++ (contents ss ++ (replicate 64 0 ++ headers o 64 ss))) (header_same o flags (64 + length (contents ss)) (length ss + 1))
