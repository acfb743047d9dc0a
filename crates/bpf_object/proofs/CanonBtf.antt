-- The .BTF of valid records, with a string table without shared bytes, denotes them.
use Rattle.std.proofs.Common.{◌≡◌, ℕ, ◌≤◌, ◌≢◌, List, [], ◌∷◌, ◌++◌, length, get_or, map, inl, refl, sym, ap, subst, ◌∙◌, append-nil, arith}
use Rattle.std.specs.List.{All, AllZip}
use Rattle.std.proofs.lemmas.List.Elements.{All-nil, All-cons, All-head, All-tail}
use Rattle.bpf_words.specs.declared.Order.{Order}
use Rattle.btf_raw.specs.{Header.Cut, Header.TYPES_LIMIT, Header.STRINGS_LIMIT, Names.NameAt}
use Rattle.btf_raw.specs.Frames.{IsFrame, section_of}
use Rattle.btf_raw.proofs.{Cuts.cut_unique, Frames.frames_cancel}
use Rattle.btf_types.specs.{Values.TypeRecord, Denotes.Denotes, Denotes.HoldsSections, Sections.SectionWords, Sections.records_in, Encoding.Encodes}
use Rattle.btf_types.specs.{Names.IsName, Names.kept, Names.names}
use Rattle.btf_types.specs.Valid.{IsValid, IsValidRecord, facts}
use Rattle.btf_types.specs.checks.Numbers.{TypeFacts}
use Rattle.btf_types.proofs.{Denoting.frames_of, Denoting.denotes_unique, Denoting.nothing_is_no_frame, Encoded.encoded_frame, TableLemmas.TableSteps.frames_denote}
use Rattle.btf_types.proofs.{CheckLemmas.FieldsLaw.fields_have_none, FaultlessLemmas.Faultless.frames_encode, FaultlessLemmas.Faultless.frames_valid}
use Rattle.btf_types.proofs.{Members.Has, Members.Has-get_or, StringLemmas.Texts.Has-kept, StringLemmas.Texts.text_at_offset, StringLemmas.Texts.empty_at_zero}
use Rattle.bpf_canon.specs.btf.CanonicalBtf.{record_words}
use Rattle.bpf_canon.proofs.BtfLemmas.{CanonicalEncodes.records_encode, CanonicalEncodes.all_names, CanonicalFiles.types_size}
use Rattle.bpf_object.specs.Canonical.{strings_of, offset_of, types_bytes, btf_of}
use Rattle.bpf_object.proofs.ReadBackStrings.{table_ends}

-- ---- the frames of a file

-- they encode its records
pub held_encode : (b : List ℕ) (s : SectionWords) → HoldsSections b s → AllZip (Encodes s.strings) (records_in s) s.frames
held_encode b s held =
    let d = held.denotes in
    let cut = cut_unique b d.order s.order d.types d.strings (section_of s.order s.frames) s.strings d.cut held.cut in
    let one = frames_of d.order d.strings (facts (records_in s)) (records_in s) d.encodings d.valid.each d.encoded in
    let sections : section_of s.order one.frames ++ [] ≡ section_of s.order s.frames ++ [] =
    rw (append-nil, append-nil) (ap (λ (o : Order). section_of o one.frames) (sym cut.order) ∙ sym one.bytes ∙ sym d.whole ∙ cut.types) in
    let frames = frames_cancel s.order one.frames s.frames [] [] one.each held.each (nothing_is_no_frame s.order) (nothing_is_no_frame s.order) sections in
    subst (λ (fs : List (List ℕ)). AllZip (Encodes s.strings) (records_in s) fs) frames.frames
    (subst (λ (strings : List ℕ). AllZip (Encodes strings) (records_in s) one.frames) cut.strings one.encoded)

-- what encodes valid records is a list of frames
are_frames : (strings : List ℕ) (types : List TypeFacts) (v : List TypeRecord) (fs : List (List ℕ)) → All (IsValidRecord types) v → AllZip (Encodes strings) v fs → All IsFrame fs
are_frames strings types [] [] valid s = All-nil IsFrame
are_frames strings types [] (f ∷ fs) valid s = absurd s
are_frames strings types (r ∷ v) [] valid s = absurd s
are_frames strings types (r ∷ v) (f ∷ fs) valid s =
    All-cons IsFrame f fs (encoded_frame strings types r f (All-head (IsValidRecord types) r v valid) s.0)
    (are_frames strings types v fs (All-tail (IsValidRecord types) r v valid) s.1)

-- ---- names

-- a name is at its offset
pub name_at : (xs : List (List ℕ)) (name : List ℕ) → Has xs name → IsName name → NameAt (strings_of xs) (offset_of xs name) name
name_at xs [] has is = record { text = empty_at_zero (kept xs); utf8 = is.utf8 }
name_at xs (c ∷ cs) has is = record { text = text_at_offset (kept xs) (c ∷ cs) (Has-kept xs c cs has) is.without_nul; utf8 = is.utf8 }

-- ---- the section

-- the header, the records and the strings of a .BTF
pub cut_of : (o : Order) (types strings : List ℕ) → length types ≤ TYPES_LIMIT → length strings ≤ STRINGS_LIMIT → length strings ≢ 0 → Cut (btf_of o types strings) o types strings
cut_of o types strings few short some = record {
  header_len = 24;
  at_least = omega arith;
  at_most = omega arith;
  types_fit = few;
  some_strings = omega (arith, some);
  strings_fit = short;
  parts = inl refl;
}

-- the words of a .BTF whose names are among these strings
abbrev pub words_of : Order → List (List ℕ) → List TypeRecord → SectionWords
words_of o xs v = record { order = o; strings = strings_of xs; frames = map (record_words (offset_of xs)) v }

module _ (o : Order) (xs : List (List ℕ)) (v : List TypeRecord) (valid : IsValid v) (has : (name : List ℕ) → Has (names v) name → Has xs name) (short : length (strings_of xs) ≤ STRINGS_LIMIT) where
  abbrev frames : List (List ℕ)
  frames = map (record_words (offset_of xs)) v

  names_there : All (λ n. NameAt (strings_of xs) (offset_of xs n) n) (names v)
  names_there i d lt = name_at xs (get_or (names v) i d) (has (get_or (names v) i d) (Has-get_or (names v) i d lt)) (all_names (facts v) v valid.each i d lt)

  pub words_encode : AllZip (Encodes (strings_of xs)) v frames
  words_encode = records_encode (strings_of xs) (offset_of xs) (facts v) v short valid.each names_there

  pub each_frame : All IsFrame frames
  each_frame = are_frames (strings_of xs) (facts v) v frames valid.each words_encode

  pub types_few : length (types_bytes o (offset_of xs) v) ≤ TYPES_LIMIT
  types_few = let size = valid.size in omega (arith, size, types_size o (strings_of xs) (facts v) v frames valid.each words_encode)

  cut : Cut (btf_of o (types_bytes o (offset_of xs) v) (strings_of xs)) o (types_bytes o (offset_of xs) v) (strings_of xs)
  cut = cut_of o (types_bytes o (offset_of xs) v) (strings_of xs) types_few short (λ e. omega (arith, e))

  pub btf_denotes : Denotes (btf_of o (types_bytes o (offset_of xs) v) (strings_of xs)) v
  btf_denotes =
      frames_denote (btf_of o (types_bytes o (offset_of xs) v) (strings_of xs)) o (types_bytes o (offset_of xs) v) (strings_of xs) v frames cut (table_ends (kept xs))
      (record { each = each_frame; whole = refl }) words_encode valid

  -- what the frames decode to
  decoded_denotes : Denotes (btf_of o (types_bytes o (offset_of xs) v) (strings_of xs)) (records_in (words_of o xs v))
  decoded_denotes =
      let ends = table_ends (kept xs) in
      let none = fields_have_none (strings_of xs) v frames words_encode valid in
      frames_denote (btf_of o (types_bytes o (offset_of xs) v) (strings_of xs)) o (types_bytes o (offset_of xs) v) (strings_of xs) (records_in (words_of o xs v)) frames cut ends
      (record { each = each_frame; whole = refl })
      (frames_encode (strings_of xs) frames ends each_frame none) (frames_valid (strings_of xs) frames ends each_frame none o short types_few)

  pub records_back : records_in (words_of o xs v) ≡ v
  records_back = denotes_unique (btf_of o (types_bytes o (offset_of xs) v) (strings_of xs)) (records_in (words_of o xs v)) v decoded_denotes btf_denotes

  pub holds_words : HoldsSections (btf_of o (types_bytes o (offset_of xs) v) (strings_of xs)) (words_of o xs v)
  holds_words = record { cut = cut; each = each_frame; denotes = decoded_denotes }
