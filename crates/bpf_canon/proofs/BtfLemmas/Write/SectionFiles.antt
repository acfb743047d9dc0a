-- What the sections of a table say of the canonical bytes of its records.
use Rattle.std.proofs.Common.{◌≡◌, ℕ, ◌≤◌, List, [], ◌++◌, length, map, get_or, refl, sym, ap, ◌∙◌, arith}
use Rattle.std.specs.List.{All, Contains}
use Rattle.std.proofs.lemmas.List.Elements.{All-from_get_or}
use Rattle.bpf_words.specs.declared.Order.{Order}
use Rattle.btf_raw.specs.{Header.header, Header.TYPES_LIMIT, Header.STRINGS_LIMIT, Frames.section_of}
use Rattle.btf_types.specs.{Values.TypeRecord, Valid.facts, Sections.SectionWords, Sections.records_in, tables.TableInvariant.IsTable}
use Rattle.btf_types.specs.{Names.names, Names.kept, Names.table_of, Reading.text_from}
use Rattle.btf_types.specs.strings.SharedNames.{hosts_of, shared_among, shared_table, shared_offset}
use Rattle.btf_types.proofs.Members.{Has-get_or}
use Rattle.bpf_canon.specs.btf.CanonicalBtf.{canonical, canonical_types, record_words}
use Rattle.bpf_canon.specs.btf.{strings.FirstUses.noted_all, write.NameOffsets.all_offsets}
use Rattle.bpf_canon.proofs.BtfLemmas.CanonicalFiles.{types_size, canonical_size}
use Rattle.bpf_canon.proofs.BtfLemmas.Strings.FirstUseSteps.{kept_first_uses, noted_all_there}
use Rattle.bpf_canon.proofs.BtfLemmas.Write.{RecordNames.kept_at_offsets, WriteSteps.written}

-- each noted offset is present
pub each_noted : (offs : List ℕ) → All (Contains (noted_all [] offs)) offs
each_noted offs = All-from_get_or (Contains (noted_all [] offs)) offs 0 (λ i low. noted_all_there [] offs (get_or offs i 0) (Has-get_or offs i 0 low))

module _ (s : SectionWords) (table : IsTable s) where
  abbrev pub its : List TypeRecord
  its = records_in s

  -- the noted offsets determine the kept names
  pub kept_uses : kept (map (text_from s.strings) (noted_all [] (all_offsets s.frames))) ≡ kept (names its)
  kept_uses = grind (arith, kept_first_uses, kept_at_offsets)

  -- canonical records have the same length
  pub types_same : (from to : Order) (types : List ℕ) → types ≡ section_of from s.frames → length types ≡ length (canonical_types to its)
  types_same from to types whole =
      ap length whole ∙ types_size from s.strings (facts its) its s.frames table.valid.each table.encoded ∙ sym (canonical_size to its table.valid)

  pub types_low : (from : Order) (types : List ℕ) → types ≡ section_of from s.frames → length types ≤ TYPES_LIMIT
  types_low from types whole = omega (arith, types_same from from types whole, canonical_size from its table.valid, table.valid.size)

  pub table_low : (xs : List (List ℕ)) → kept xs ≡ kept (names its) → length (shared_table xs) ≤ STRINGS_LIMIT
  table_low xs same = omega (arith, ap (λ ks. length (table_of (hosts_of ks))) same, table.valid.texts)

  pub sections_written : (from to : Order) (types : List ℕ) (xs : List (List ℕ)) (front more whole : List ℕ) (t u : ℕ) → types ≡ section_of from s.frames → kept xs ≡ kept (names its)
      → t ≡ length types → u ≡ length (shared_table xs) → front ≡ header to 24 0 t t u
      → more ≡ front ++ section_of to (map (record_words (shared_offset xs)) its) → whole ≡ more ++ shared_table xs → whole ≡ canonical to its
  sections_written from to types xs front more whole t u section same tl ul e1 e2 e3 =
      let written_types = section_of to (map (record_words (shared_offset xs)) its) in
      let long : length written_types ≡ length (canonical_types to its) = ap (λ ks. length (section_of to (map (record_words (shared_among ks)) its))) same in
      written to its (kept xs) written_types front more whole t u same refl (tl ∙ types_same from to types section ∙ sym long) ul e1 e2 e3

-- what the search cites of the names and the types of a section
pub ruleset section_steps = (kept_uses, table_low, types_low)
