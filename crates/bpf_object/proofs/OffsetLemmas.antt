-- The strings of .BTF that are noted are those of the canonical file, so they have the same offsets.
use Rattle.std.proofs.Common.{◌≡◌, ℕ, zero, suc, List, [], ◌∷◌, ◌++◌, map, refl, sym, ap, ◌∙◌, append_assoc, append-nil}
use Rattle.std.specs.List.{flat_map}
use Rattle.std.proofs.lemmas.List.{map-append}
use Rattle.bpf_elf.specs.Names.{string_at}
use Rattle.bpf_words.specs.declared.Order.{Order}
use Rattle.btf_types.specs.{Names.kept, Names.names, Names.table_of, Names.offset_within, Reading.text_from, Sections.SectionWords, Sections.records_in, tables.TableInvariant.IsTable}
use Rattle.bpf_canon.specs.btf.strings.{NamesByOffset.texts_by_offset, DistinctNames.distinct_offset, DistinctNames.distinct_table}
use Rattle.bpf_canon.specs.btf.write.NameOffsets.{all_offsets}
use Rattle.bpf_canon.proofs.BtfLemmas.Strings.FirstUseSteps.{same_push, kept_first_uses}
use Rattle.bpf_canon.proofs.BtfLemmas.Write.RecordNames.{kept_at_offsets}
use Rattle.bpf_object.specs.declared.extension.Part.TheVariants.{Functions, Relocations}
use Rattle.bpf_object.specs.Canonical.{strings_of, offset_of, function_strings, relocation_strings, extension_strings, types_strings, types_bytes, btf_of, btf_bytes}
use Rattle.bpf_object.specs.Denotes.{object_types}
use Rattle.bpf_object.specs.Extension.{Section, group_count, group_name, groups}
use Rattle.bpf_object.specs.Groups.{access_off, relocation_at, renewed_relocation, function_group, relocation_group, function_groups}
use Rattle.bpf_object.specs.Kept.{listed}
use Rattle.bpf_object.specs.Lines.{name_of}
use Rattle.bpf_object.specs.private.NotedStrings.{text_offset}
use Rattle.bpf_object.specs.private.WrittenGroups.{groups_offsets, group_offsets}
use Rattle.bpf_object.specs.private.WrittenTypes.{both_offsets, both_names, written_btf}
use Rattle.bpf_object.proofs.KeptLemmas.{all}
use Rattle.bpf_object.proofs.ReadBackStrings.{string_is_text}

-- ---- lists of strings of which the same are kept

same_more : (xs ys zs : List (List ℕ)) → kept xs ≡ kept ys → kept (xs ++ zs) ≡ kept (ys ++ zs)
same_more xs ys [] e = rw (append-nil xs, append-nil ys) e
same_more xs ys (z ∷ zs) e =
    ap kept (sym (append_assoc xs (z ∷ []) zs)) ∙ same_more (xs ++ z ∷ []) (ys ++ z ∷ []) zs (same_push xs ys z e)
    ∙ ap kept (append_assoc ys (z ∷ []) zs)

among : List (List ℕ) → List ℕ → ℕ
among ks [] = 0
among ks (c ∷ cs) = offset_within ks (c ∷ cs)

pub same_offsets : (xs ys : List (List ℕ)) → kept xs ≡ kept ys → distinct_offset xs ≡ offset_of ys
unfolding among
same_offsets xs ys e = ap among e

-- ---- the strings of groups

-- a string of each of the first n numbers
listed_texts : {A : Type 0} (text : ℕ → List ℕ) (off : ℕ → ℕ) (value : ℕ → A) (access : A → List ℕ) (n : ℕ) → ((k : ℕ) → text (off k) ≡ access (value k))
    → map text (listed all off n) ≡ map access (listed all value n)
listed_texts text off value access zero same = refl
listed_texts text off value access (suc n) same =
    map-append text (listed all off n) (off n ∷ []) ∙ rw (listed_texts text off value access n same, same n) refl
    ∙ sym (map-append access (listed all value n) (value n ∷ []))

module _ (x : Section) (new : ℕ → ℕ) where
  text : ℕ → List ℕ
  text = text_from x.strings

  read : (off : ℕ) → text off ≡ string_at x.strings off
  unfolding text
  read off = sym (string_is_text x.strings off)

  function_texts : (gs : List ℕ) → map text (groups_offsets x Functions gs) ≡ flat_map function_strings (map (function_group new x) gs)
  function_texts [] = refl
  function_texts (g ∷ gs) = rw (read (group_name x g)) (ap (λ (t : List (List ℕ)). name_of x g ∷ t) (function_texts gs))

  group_texts : (g : ℕ) → map text (group_offsets x Relocations g) ≡ relocation_strings (relocation_group new x g)
  group_texts g =
      let accesses = listed_texts text (access_off x g) (λ k. renewed_relocation new (relocation_at x g k)) (λ r. r.access) (group_count x g) (λ k. read (access_off x g k)) in
      rw (read (group_name x g)) (ap (λ (t : List (List ℕ)). name_of x g ∷ t) accesses)

  relocation_texts : (gs : List ℕ) → map text (groups_offsets x Relocations gs) ≡ flat_map relocation_strings (map (relocation_group new x) gs)
  relocation_texts [] = refl
  relocation_texts (g ∷ gs) =
      map-append text (group_offsets x Relocations g) (groups_offsets x Relocations gs)
      ∙ ap (λ (t : List (List ℕ)). t ++ map text (groups_offsets x Relocations gs)) (group_texts g)
      ∙ ap (λ (t : List (List ℕ)). relocation_strings (relocation_group new x g) ++ t) (relocation_texts gs)

-- ---- all strings

module _ (s : SectionWords) (x : Section) (new : ℕ → ℕ) (same : s.strings ≡ x.strings) (table : IsTable s) where
  extension_texts : map (text_from x.strings) (groups_offsets x Functions (groups x Functions) ++ groups_offsets x Relocations (groups x Relocations))
      ≡ extension_strings (object_types new s x)
  unfolding text
  extension_texts =
      map-append (text_from x.strings) (groups_offsets x Functions (groups x Functions)) (groups_offsets x Relocations (groups x Relocations))
      ∙ ap (λ (t : List (List ℕ)). t ++ map (text_from x.strings) (groups_offsets x Relocations (groups x Relocations))) (function_texts x new (groups x Functions))
      ∙ ap (λ (t : List (List ℕ)). flat_map function_strings (function_groups new x) ++ t) (relocation_texts x new (groups x Relocations))

  kept_offsets : kept (map (text_from s.strings) (both_offsets s x)) ≡ kept (types_strings (object_types new s x))
  kept_offsets =
      let more = groups_offsets x Functions (groups x Functions) ++ groups_offsets x Relocations (groups x Relocations) in
      ap kept (map-append (text_from s.strings) (all_offsets s.frames) more)
      ∙ same_more (map (text_from s.strings) (all_offsets s.frames)) (names (records_in s)) (map (text_from s.strings) more)
      (kept_at_offsets s.strings s.frames table.ends table.each table.encoded)
      ∙ ap (λ (t : List (List ℕ)). kept (names (records_in s) ++ t)) (ap (λ (l : List ℕ). map (text_from l) more) same ∙ extension_texts)

  -- the same strings are kept
  kept_placed : kept (texts_by_offset (both_names s x)) ≡ kept (types_strings (object_types new s x))
  kept_placed = kept_first_uses (text_from s.strings) (both_offsets s x) ∙ kept_offsets

  -- so they have the same offsets
  pub placed_is : text_offset (both_names s x) ≡ offset_of (types_strings (object_types new s x))
  placed_is = same_offsets (texts_by_offset (both_names s x)) (types_strings (object_types new s x)) kept_placed

  -- in the same table
  pub table_is : distinct_table (texts_by_offset (both_names s x)) ≡ strings_of (types_strings (object_types new s x))
  table_is = ap table_of kept_placed

  pub btf_is : (o : Order) → written_btf o s (both_names s x) ≡ btf_bytes o (object_types new s x)
  btf_is o =
      ap (λ (p : List ℕ → ℕ). btf_of o (types_bytes o p (records_in s)) (distinct_table (texts_by_offset (both_names s x)))) placed_is
      ∙ ap (btf_of o (types_bytes o (offset_of (types_strings (object_types new s x))) (records_in s))) table_is
