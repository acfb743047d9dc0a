-- The .BTF of a canonical file is accepted, and holds the types of its object.
use Rattle.std.proofs.Common.{◌≡◌, ℕ, zero, suc, ◌<◌, ◌≤◌, ◌==◌, Bool, true, List, [], ◌∷◌, ◌++◌, Option, Some, None, length, get_or, map, refl, sym, ap, subst, ◌∙◌, lit<, append_assoc, length-append, arith}
use Rattle.std.specs.{List.AllZip, List.flat_map}
use Rattle.std.proofs.lemmas.Bool.{leb-true}
use Rattle.std.proofs.lemmas.List.{get_or-map, length-map}
use Rattle.bpf_words.specs.{declared.Order.Order, declared.Order.TheVariants.Little, declared.Order.TheVariants.Big, Words.word32_at}
use Rattle.bpf_elf.specs.Rules.{AllHold, each}
use Rattle.bpf_elf.proofs.RuleLemmas.{both_hold}
use Rattle.btf_raw.specs.Header.{header, TYPES_LIMIT, STRINGS_LIMIT}
use Rattle.btf_raw.specs.Frames.{IsFrame}
use Rattle.btf_raw.proofs.Cuts.{header_word, five_fit}
use Rattle.btf_types.specs.{Values.TypeRecord, Denotes.HoldsSections, Valid.IsValid, Valid.facts, Names.names, Names.head_name, Names.record_names, Reading.record_of, Encoding.Encodes, Encoding.kind_number, Sections.SectionWords}
use Rattle.btf_types.proofs.{Lists.zip_at, Members.Has}
use Rattle.bpf_canon.specs.btf.CanonicalBtf.{record_words}
use Rattle.bpf_object.specs.Objects.{ObjectTypes, Object}
use Rattle.bpf_object.specs.Canonical.{strings_of, offset_of, types_strings, extension_strings, types_bytes, btf_of, btf_bytes, canonical}
use Rattle.bpf_object.specs.Denotes.{types_of, btf_fits, types_fit}
use Rattle.bpf_object.specs.{Types.TypesSection, Types.is_order, Types.form_rules, Types.record_rules, Types.records_start, Types.record_offset, Types.rules_of, Types.name_rules, Types.all_rules, TypesFaults.KeepsTypes}
use Rattle.bpf_object.proofs.{ReadBackKinds.all_hold, ReadBackTests.equal_test, ReadBackTests.most_test}
use Rattle.bpf_object.proofs.CanonValid.{ValidObject, IsSmall}
use Rattle.bpf_object.proofs.CanonNames.{has_left, has_right}
use Rattle.bpf_object.proofs.CanonReads.{order_back}
use Rattle.bpf_object.proofs.CanonTypes.{types_back}
use Rattle.bpf_object.proofs.CanonBtf.{words_of, words_encode, each_frame, types_few, records_back, holds_words}
use Rattle.bpf_object.proofs.CanonBtfRules.{no_record, AreFree, are_named, record_kept}
use Rattle.bpf_object.proofs.NameRules.{AreApartIn, apart_among, kind_in, name_in, names_kept}

-- ---- the header

same_order_test : (o : Order) → is_order o o ≡ true
same_order_test Little = refl
same_order_test Big = refl

-- type_off
type_off_is : (o : Order) (types strings : List ℕ) → length types ≤ TYPES_LIMIT → length strings ≤ STRINGS_LIMIT → word32_at o (btf_of o types strings) 8 ≡ 0
type_off_is o types strings few short =
    let h = header o 24 0 (length types) (length types) (length strings) in
    let fit = five_fit 24 0 (length types) (length types) (length strings) (omega arith) (omega arith) (omega arith) (omega arith) (omega arith) in
    ap (λ (b : List ℕ). word32_at o b 8) (append_assoc h types strings)
    ∙ header_word o 24 0 (length types) (length types) (length strings) 1 (types ++ strings) fit (lit< tt)

strings_length : (o : Order) (types strings : List ℕ) → length strings ≤ length (btf_of o types strings)
strings_length o types strings =
    let h = header o 24 0 (length types) (length types) (length strings) in
    omega (arith, length-append (h ++ types) strings)

-- ---- the records

pub has_flat : {X Y : Type 0} (f : X → List Y) (xs : List X) (k : ℕ) (d : X) (y : Y) → k < length xs → Has (f (get_or xs k d)) y → Has (flat_map f xs) y
has_flat f [] k d y lt h = absurd (omega (arith, lt))
has_flat f (x ∷ xs) zero d y lt h = has_left (f x) (flat_map f xs) y h
has_flat f (x ∷ xs) (suc k) d y lt h = has_right (f x) (flat_map f xs) y (has_flat f xs k d y (omega (arith, lt)) h)

module _ (o : Order) (xs : List (List ℕ)) (v : List TypeRecord) (valid : IsValid v) (has : (name : List ℕ) → Has (names v) name → Has xs name) (short : length (strings_of xs) ≤ STRINGS_LIMIT)
    (free : AreFree v) where
  abbrev frames : List (List ℕ)
  frames = map (record_words (offset_of xs)) v

  frame_is : (k : ℕ) → k < length v → get_or frames k [] ≡ record_words (offset_of xs) (get_or v k no_record)
  frame_is k lt = get_or-map (record_words (offset_of xs)) v k no_record [] lt

  there : (k : ℕ) → k < length v → k < length frames
  there k lt = omega (arith, lt, length-map v (record_words (offset_of xs)))

  decoded : (k : ℕ) → k < length v → record_of (strings_of xs) (get_or frames k []) ≡ get_or v k no_record
  decoded k lt =
      sym (get_or-map (record_of (strings_of xs)) frames k [] no_record (there k lt)) ∙ ap (λ (w : List TypeRecord). get_or w k no_record) (records_back o xs v valid has short)

  record_holds : (pos k : ℕ) → k < length v → AllHold (record_rules (strings_of xs) pos (get_or frames k []))
  record_holds pos k lt =
      let r = get_or v k no_record in
      let is = frame_is k lt in
      let encodes : Encodes (strings_of xs) r (record_words (offset_of xs) r) =
      subst (λ (f : List ℕ). Encodes (strings_of xs) r f) is (zip_at (Encodes (strings_of xs)) v frames k no_record [] (words_encode o xs v valid has short) lt) in
      let frame : IsFrame (record_words (offset_of xs) r) = subst (λ (f : List ℕ). IsFrame f) is (each_frame o xs v valid has short k [] (there k lt)) in
      let back : record_of (strings_of xs) (record_words (offset_of xs) r) ≡ r = ap (λ (f : List ℕ). record_of (strings_of xs) f) (sym is) ∙ decoded k lt in
      subst (λ (f : List ℕ). AllHold (record_rules (strings_of xs) pos f)) (sym is)
      (record_kept xs (facts v) r (valid.each k no_record lt) (λ name h. has name (has_flat record_names v k no_record name lt h)) encodes frame back (free.reserved k lt) (free.short k lt) pos)

  frames_apart : AreApartIn (words_of o xs v)
  frames_apart =
      apart_among (length v) (length frames) (λ k. kind_number (get_or v k no_record).head) (kind_in (words_of o xs v)) (λ k. head_name (get_or v k no_record).head) (name_in (words_of o xs v)) free.apart
      (λ k lt.
      let low : k < length v = omega (arith, lt, length-map v (record_words (offset_of xs))) in
      let named = are_named (strings_of xs) (facts v) v frames valid.each (words_encode o xs v valid has short) k low in
      record { to = k; there = low; kind_is = named.0; name_is = named.1 })

  -- a section with these bytes
  pub keeps_types : (x : TypesSection) → x.order ≡ o → x.bytes ≡ btf_of o (types_bytes o (offset_of xs) v) (strings_of xs) → length x.bytes ≤ 15728640 → KeepsTypes x (words_of o xs v)
  keeps_types x order bytes fit =
      let s = words_of o xs v in
      let start = records_start x s in
      let types = types_bytes o (offset_of xs) v in
      let ordered : is_order o x.order ≡ true = ap (λ (p : Order). is_order o p) order ∙ same_order_test o in
      let off : (word32_at o x.bytes 8 == 0) ≡ true =
      equal_test (word32_at o x.bytes 8) 0 (ap (λ (b : List ℕ). word32_at o b 8) bytes ∙ type_off_is o types (strings_of xs) (types_few o xs v valid has short) short) in
      record {
        size = rw (most_test (length x.bytes) 15728640 fit) refl;
        sections = subst (λ (b : List ℕ). HoldsSections b s) (sym bytes) (holds_words o xs v valid has short);
        rules =
            both_hold (form_rules x s) (all_rules start s) (rw (ordered, off) refl)
            (both_hold (each (length frames) (rules_of start s)) (each (length frames) (name_rules start s))
            (all_hold (length frames) (rules_of start s) (λ k lt. record_holds (record_offset start s k) k (omega (arith, lt, length-map v (record_words (offset_of xs))))))
            (all_hold (length frames) (name_rules start s) (names_kept s start frames_apart)));
      }

-- ---- the canonical file

-- what types_fit says
abbrev fits : Order → Option ObjectTypes → Bool
fits o None = true
fits o (Some t) = btf_fits o t

pub small_types : (x : Object) (t : ObjectTypes) → x.types ≡ Some t → types_fit x ≡ true → length (btf_bytes x.order t) ≤ 15728640
small_types x t is fit = leb-true _ _ (subst (λ (q : Option ObjectTypes). fits x.order q ≡ true) is fit)

-- the words of its .BTF
abbrev pub canonical_words : Order → ObjectTypes → SectionWords
canonical_words o t = words_of o (types_strings t) t.records

module _ (x : Object) (valid : ValidObject x) (small : IsSmall x) (t : ObjectTypes) (is : x.types ≡ Some t) (few : length (btf_bytes x.order t) ≤ 15728640) (records : IsValid t.records) where
  pub names_there : (name : List ℕ) → Has (names t.records) name → Has (types_strings t) name
  names_there name h = has_left (names t.records) (extension_strings t) name h

  pub strings_short : length (strings_of (types_strings t)) ≤ STRINGS_LIMIT
  strings_short =
      omega (arith, few, strings_length x.order (types_bytes x.order (offset_of (types_strings t)) t.records) (strings_of (types_strings t)))

  pub canonical_records : map (record_of (strings_of (types_strings t))) (canonical_words x.order t).frames ≡ t.records
  canonical_records = records_back x.order (types_strings t) t.records records names_there strings_short

  pub canonical_types_kept : AreFree t.records → KeepsTypes (types_of (canonical x)) (canonical_words x.order t)
  canonical_types_kept free =
      let here = types_back x valid small t is in
      keeps_types x.order (types_strings t) t.records records names_there strings_short free (types_of (canonical x)) (order_back x valid small) here.bytes_are
      (omega (arith, few, ap length here.bytes_are))

  -- the frames of its .BTF encode the records
  pub canonical_encode : AllZip (Encodes (strings_of (types_strings t))) t.records (canonical_words x.order t).frames
  canonical_encode = words_encode x.order (types_strings t) t.records records names_there strings_short
