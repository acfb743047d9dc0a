-- The .BTF of a canonical file keeps the further rules on its records.
use Rattle.std.proofs.Common.{◌≡◌, ℕ, zero, suc, None, ◌+◌, ◌*◌, ◌<◌, ◌==◌, ◌&&◌, ◌||◌, Bool, true, false, not, List, [], ◌∷◌, ◌++◌, length, get_or, inl, inr, refl, sym, ap, subst, ◌∙◌, append_assoc, arith}
use Rattle.std.specs.{Prelude.nat_le, Prelude.slice_index, List.All, List.AllZip, List.flat_map}
use Rattle.std.proofs.lemmas.Bool.{cases_Bool, ne_eqb, or_right, not-true}
use Rattle.std.proofs.lemmas.List.{get_or_at, get_or-append-add, Elements.All-head, Elements.All-tail}
use Rattle.bpf_elf.specs.Kinds.{is_reserved}
use Rattle.bpf_elf.specs.Names.{string_at}
use Rattle.bpf_elf.specs.Rules.{AllHold, each, rule, broken}
use Rattle.bpf_elf.proofs.RuleLemmas.{both_hold, first_hold, rest_hold, each_holds}
use Rattle.btf_raw.specs.KindNumbers.{FWD, FUNC, VAR, DATASEC, TYPE_TAG}
use Rattle.btf_raw.specs.{Heads.bit, Kinds.one_of, Kinds.is_struct, Kinds.item_words, Kinds.has_item_names, Names.IsWithoutNul, Names.TextAt}
use Rattle.btf_raw.specs.Frames.{IsFrame, kind, vlen, flag, name_word}
use Rattle.btf_types.specs.Values.{TypeHead, KPtr, KStruct, KUnion, KEnum, KFuncProto, KDatasec, KEnum64, TypeItem, Member, EnumValue, Value64, Param, Entry, TypeRecord}
use Rattle.btf_types.specs.{Names.IsName, Names.kept, Names.head_name, Names.item_name as name_of_item, Names.record_names, Reading.record_of, Valid.ItemOf, Valid.IsValidRecord, Valid.has_bit_fields}
use Rattle.btf_types.specs.Encoding.{Encodes, kind_number, head_tail, record_vlen}
use Rattle.btf_types.specs.checks.{Numbers.TypeFacts, FieldFaults.width}
use Rattle.btf_types.specs.Sections.{SectionWords}
use Rattle.btf_types.proofs.{Lists.zip_at, Members.Has, Encoded.numbers, Encoded.info_parts, Encoded.kind_below, Encoded.vlen_below, Encoded.flag_below, EncodedItems.nothing, EncodedItems.no_tail, EncodedItems.counted}
use Rattle.btf_types.proofs.{CheckLemmas.RoleSteps.named_words, FaultlessLemmas.FaultlessRecords.bit_fields_there, StringLemmas.Texts.Has-kept, StringLemmas.Texts.text_at_offset}
use Rattle.bpf_canon.specs.btf.CanonicalBtf.{canonical_flag, words_of_item, record_words}
use Rattle.bpf_canon.proofs.BtfLemmas.CanonicalEncodes.{flag_encodes}
use Rattle.bpf_object.specs.declared.fault.ObjectCause.TheVariants as cause
use Rattle.bpf_object.specs.Canonical.{strings_of, offset_of}
use Rattle.bpf_object.specs.Types.{TypesSection, form_rules, leads_to_name, has_long_name, is_reserved_section, is_flagged, head_rules, item_name, item_rules, named_items, record_rules, records_start, record_offset, rules_of, name_rules, all_rules}
use Rattle.bpf_object.specs.{TypesFaults.KeepsTypes, Lines.any_of}
use Rattle.bpf_object.proofs.{CanonNames.has_mapped, CanonRules.rule_holds, NameRules.AreApart, ReadBackKinds.all_hold, ReadBackStrings.string_read, RecordLemmas.HasItem, RecordLemmas.item_there, RecordLemmas.some_width}

-- ---- names

-- what holds of all elements holds of one
pub all_has : {X : Type 0} (P : X → Type 0) (xs : List X) (x : X) → All P xs → Has xs x → P x
all_has P [] x all h = absurd h
all_has P (y ∷ ys) x all (inl e) = subst P e (All-head P y ys all)
all_has P (y ∷ ys) x all (inr h) = all_has P ys x (All-tail P y ys all) h

first_byte : (strings : List ℕ) (off c : ℕ) (cs : List ℕ) → TextAt strings off (c ∷ cs) → slice_index strings off ≡ c
first_byte strings off c cs t =
    ap (λ (s : List ℕ). slice_index s off) (t.is_there ∙ append_assoc t.before (c ∷ cs) (0 ∷ t.after)) ∙ get_or_at t.before c (cs ++ 0 ∷ t.after) 0 off t.at_offset

some_byte : (off c : ℕ) → ¬ (c ≡ 0) → (off == 0 || not (c == 0)) ≡ true
some_byte off c other = or_right (off == 0) (not (c == 0)) (ap not (ne_eqb c 0 other))

-- the offset of a name leads to it
pub offset_leads : (xs : List (List ℕ)) (name : List ℕ) → Has xs name → IsWithoutNul name → leads_to_name (strings_of xs) (offset_of xs name) ≡ true
offset_leads xs [] has none = refl
offset_leads xs (c ∷ cs) has none =
    let off = offset_of xs (c ∷ cs) in
    let byte = first_byte (strings_of xs) off c cs (text_at_offset (kept xs) (c ∷ cs) (Has-kept xs c cs has) none) in
    ap (λ (d : ℕ). off == 0 || not (d == 0)) byte ∙ some_byte off c (none 0 (omega arith))

-- ---- sections of reserved names

abbrev pub is_reserved_record : TypeRecord → Bool
is_reserved_record r = kind_number r.head == DATASEC && is_reserved (head_name r.head)

-- the name of a record
pub name_read : (strings : List ℕ) (types : List TypeFacts) (r : TypeRecord) (f : List ℕ) → IsValidRecord types r → Encodes strings r f → string_at strings (name_word f) ≡ head_name r.head
name_read strings types r f valid s =
    ap (λ (off : ℕ). string_at strings off) (numbers strings types r f valid s).name ∙ string_read strings s.name_offset (head_name r.head) s.name.text

pub reserved_is : (strings : List ℕ) (types : List TypeFacts) (r : TypeRecord) (f : List ℕ) → IsValidRecord types r → Encodes strings r f
    → is_reserved_section strings f ≡ is_reserved_record r
reserved_is strings types r f valid s =
    ap (λ (k : ℕ). k == DATASEC && is_reserved (string_at strings (name_word f))) (numbers strings types r f valid s).kind
    ∙ ap (λ (x : List ℕ). kind_number r.head == DATASEC && is_reserved x) (name_read strings types r f valid s)

-- ---- long names

abbrev pub is_long : ℕ → List ℕ → Bool
is_long k name = one_of (FWD ∷ FUNC ∷ VAR ∷ TYPE_TAG ∷ []) k && not (nat_le (length name) 1024)

abbrev pub is_long_record : TypeRecord → Bool
is_long_record r = is_long (kind_number r.head) (head_name r.head)

long_is : (strings : List ℕ) (types : List TypeFacts) (r : TypeRecord) (f : List ℕ) → IsValidRecord types r → Encodes strings r f → has_long_name strings f ≡ is_long_record r
long_is strings types r f valid s =
    ap (λ (k : ℕ). is_long k (string_at strings (name_word f))) (numbers strings types r f valid s).kind
    ∙ ap (is_long (kind_number r.head)) (name_read strings types r f valid s)

-- ---- kind_flag

struct_flag : (h : TypeHead) (b : Bool) → is_struct (kind_number h) ≡ true → canonical_flag h b ≡ bit b
struct_flag (KStruct name size) b is = refl
struct_flag (KUnion name size) b is = refl
struct_flag h b is = absurd cc

not_struct : (x y z : Bool) → x ≡ false → not (x && (not y && not z)) ≡ true
not_struct x y z e = rw e refl

no_flag : (x y z : Bool) → y ≡ true → not (x && (not y && not z)) ≡ true
no_flag true y z e = rw e refl
no_flag false y z e = refl

has_widths : (x y z : Bool) → z ≡ true → not (x && (not y && not z)) ≡ true
has_widths true true z e = refl
has_widths true false z e = rw e refl
has_widths false y z e = refl

-- ---- items

item_length : (place : List ℕ → ℕ) (h : TypeHead) (x : TypeItem) → ItemOf h x → length (words_of_item place x) ≡ item_words (kind_number h)
unfolding item_words
item_length place (KStruct name size) (Member n target bit_offset width) of = refl
item_length place (KUnion name size) (Member n target bit_offset width) of = refl
item_length place (KEnum name signed size) (EnumValue n value) of = refl
item_length place (KFuncProto target) (Param n t) of = refl
item_length place (KDatasec name size) (Entry target offset bytes) of = refl
item_length place (KEnum64 name signed size) (Value64 n value) of = refl
item_length place h x of = absurd of

-- the first word of an item is the offset of its name
item_first : (place : List ℕ → ℕ) (h : TypeHead) (x : TypeItem) (rest : List ℕ) → ItemOf h x → has_item_names (kind_number h) ≡ true
    → get_or (words_of_item place x ++ rest) 0 0 ≡ place (name_of_item x)
unfolding has_item_names
item_first place (KStruct name size) (Member n target bit_offset width) rest of has = refl
item_first place (KUnion name size) (Member n target bit_offset width) rest of has = refl
item_first place (KEnum name signed size) (EnumValue n value) rest of has = refl
item_first place (KFuncProto target) (Param n t) rest of has = refl
item_first place (KDatasec name size) (Entry target offset bytes) rest of has = absurd cc
item_first place (KEnum64 name signed size) (Value64 n value) rest of has = refl
item_first place h x rest of has = absurd of

item_place : (place : List ℕ → ℕ) (h : TypeHead) (xs : List TypeItem) (k : ℕ) → All (ItemOf h) xs → has_item_names (kind_number h) ≡ true → k < length xs
    → get_or (flat_map (words_of_item place) xs) (item_words (kind_number h) * k) 0 ≡ place (name_of_item (get_or xs k nothing))
item_place place h [] k of has lt = absurd (omega (arith, lt))
item_place place h (x ∷ xs) zero of has lt =
    let at : item_words (kind_number h) * 0 ≡ 0 = omega arith in
    rw at (item_first place h x (flat_map (words_of_item place) xs) (All-head (ItemOf h) x xs of) has)
item_place place h (x ∷ xs) (suc k) of has lt =
    let size = item_length place h x (All-head (ItemOf h) x xs of) in
    let at : item_words (kind_number h) * suc k ≡ length (words_of_item place x) + item_words (kind_number h) * k = grind arith in
    rw at (get_or-append-add (words_of_item place x) (flat_map (words_of_item place) xs) (item_words (kind_number h) * k) 0)
    ∙ item_place place h xs k (All-tail (ItemOf h) x xs of) has (omega (arith, lt))

-- ---- a record

module _ (xs : List (List ℕ)) (types : List TypeFacts) (r : TypeRecord) (valid : IsValidRecord types r) (has : (name : List ℕ) → Has (record_names r) name → Has xs name)
    (s : Encodes (strings_of xs) r (record_words (offset_of xs) r)) (frame : IsFrame (record_words (offset_of xs) r)) (back : record_of (strings_of xs) (record_words (offset_of xs) r) ≡ r)
    (free : is_reserved_record r ≡ false) (short : is_long_record r ≡ false) (pos : ℕ) where
  abbrev f : List ℕ
  f = record_words (offset_of xs) r

  named : (name : List ℕ) → Has (record_names r) name → leads_to_name (strings_of xs) (offset_of xs name) ≡ true
  named name there = offset_leads xs name (has name there) (all_has IsName (record_names r) name valid.names there).without_nul

  kind_is : kind f ≡ kind_number r.head
  kind_is = (numbers (strings_of xs) types r f valid s).kind

  flag_is : flag f ≡ canonical_flag r.head (has_bit_fields r)
  flag_is =
      let its = canonical_flag r.head (has_bit_fields r) in
      (info_parts (kind_number r.head) (record_vlen r) its (kind_below r.head) (vlen_below r.head r.items valid.items_fit)
      (flag_below r.head its (flag_encodes r.head (has_bit_fields r)))).flag

  not_flagged : not (is_flagged f) ≡ true
  not_flagged =
      let any = any_of (vlen f) (λ k. not (width f (5 + 3 * k) == 0)) in
      elim (cases_Bool (is_struct (kind f))) [
        | inr other ↦ not_struct (is_struct (kind f)) (flag f == 0) any other
        | inl struct ↦ elim (cases_Bool (has_bit_fields r)) [
          | inl some ↦
              has_widths (is_struct (kind f)) (flag f == 0) any
              (some_width f struct (bit_fields_there (strings_of xs) f frame (ap has_bit_fields back ∙ some)))
          | inr none ↦
              let zero_flag : flag f ≡ 0 = flag_is ∙ struct_flag r.head (has_bit_fields r) (ap is_struct (sym kind_is) ∙ struct) ∙ ap bit none in
              no_flag (is_struct (kind f)) (flag f == 0) any (ap (λ (n : ℕ). n == 0) zero_flag)
        ]
      ]

  head_kept : AllHold (head_rules (strings_of xs) pos f)
  head_kept =
      let leads : leads_to_name (strings_of xs) (name_word f) ≡ true = named (head_name r.head) (inl refl) in
      let other : not (is_reserved_section (strings_of xs) f) ≡ true = ap not (reserved_is (strings_of xs) types r f valid s ∙ free) in
      let few : not (has_long_name (strings_of xs) f) ≡ true = ap not (long_is (strings_of xs) types r f valid s ∙ short) in
      rw (leads, few, other, not_flagged) refl

  named_kind : (k : ℕ) → HasItem f k → has_item_names (kind_number r.head) ≡ true
  named_kind k it = ap has_item_names (sym kind_is) ∙ it.has

  item_inside : (k : ℕ) → HasItem f k → k < length r.items
  item_inside k it =
      let low = it.low in
      let vlen_is = (numbers (strings_of xs) types r f valid s).vlen in
      omega (arith, low, vlen_is, counted r.head r.items (named_words (kind_number r.head) (named_kind k it)))

  item_word : (k : ℕ) → k < named_items f → slice_index f (item_name f k) ≡ offset_of xs (name_of_item (get_or r.items k nothing))
  item_word k lt =
      let it = item_there f k lt in
      let its : item_words (kind f) ≡ item_words (kind_number r.head) = ap item_words kind_is in
      let some : 0 < item_words (kind_number r.head) = named_words (kind_number r.head) (named_kind k it) in
      let j = item_words (kind_number r.head) * k in
      let at : item_name f k ≡ suc (suc (suc j)) = rw its (omega arith) in
      let rest : head_tail r.head ++ flat_map (words_of_item (offset_of xs)) r.items ≡ flat_map (words_of_item (offset_of xs)) r.items = rw (no_tail r.head some) refl in
      ap (λ (i : ℕ). slice_index f i) at ∙ ap (λ (t : List ℕ). get_or t j 0) rest
      ∙ item_place (offset_of xs) r.head r.items k valid.items_of (named_kind k it) (item_inside k it)

  item_kept : (k : ℕ) → k < named_items f → AllHold (item_rules (strings_of xs) pos f k)
  item_kept k lt =
      let leads : leads_to_name (strings_of xs) (slice_index f (item_name f k)) ≡ true =
      ap (λ (off : ℕ). leads_to_name (strings_of xs) off) (item_word k lt) ∙ named (name_of_item (get_or r.items k nothing))
      (inr (has_mapped name_of_item r.items k nothing (item_inside k (item_there f k lt)))) in
      rw leads refl

  pub record_kept : AllHold (record_rules (strings_of xs) pos f)
  record_kept = both_hold (head_rules (strings_of xs) pos f) (each (named_items f) (item_rules (strings_of xs) pos f)) head_kept (all_hold (named_items f) (item_rules (strings_of xs) pos f) item_kept)

-- ---- all records

abbrev pub no_record : TypeRecord
no_record = record { head = KPtr 0; items = [] }

-- no DATASEC has a reserved name, and no other record one that is taken, or too long
pub record AreFree (v : List TypeRecord) : Type 0 where
  pub reserved : (k : ℕ) → k < length v → is_reserved_record (get_or v k no_record) ≡ false
  pub short : (k : ℕ) → k < length v → is_long_record (get_or v k no_record) ≡ false
  pub apart : AreApart (length v) (λ k. kind_number (get_or v k no_record).head) (λ k. head_name (get_or v k no_record).head)

-- the kinds and names of records, in words that encode them
pub are_named : (strings : List ℕ) (types : List TypeFacts) (v : List TypeRecord) (fs : List (List ℕ)) → All (IsValidRecord types) v → AllZip (Encodes strings) v fs → (k : ℕ) → k < length v
    → (kind (get_or fs k []) ≡ kind_number (get_or v k no_record).head) × (string_at strings (name_word (get_or fs k [])) ≡ head_name (get_or v k no_record).head)
are_named strings types v fs valid s k lt =
    let r = get_or v k no_record in
    let f = get_or fs k [] in
    let encodes = zip_at (Encodes strings) v fs k no_record [] s lt in
    ((numbers strings types r f (valid k no_record lt) encodes).kind, name_read strings types r f (valid k no_record lt) encodes)

-- the rules on a record of a file that keeps all
head_holds : (x : TypesSection) (s : SectionWords) → KeepsTypes x s → (k : ℕ) → k < length s.frames
    → AllHold (head_rules s.strings (record_offset (records_start x s) s k) (get_or s.frames k []))
head_holds x s keeps k there =
    let f = get_or s.frames k [] in
    let pos = record_offset (records_start x s) s k in
    let start = records_start x s in
    let records = first_hold (each (length s.frames) (rules_of start s)) (each (length s.frames) (name_rules start s)) (rest_hold (form_rules x s) (all_rules start s) keeps.rules) in
    let rules = each_holds (length s.frames) k (rules_of start s) there records in
    first_hold (head_rules s.strings pos f) (each (named_items f) (item_rules s.strings pos f)) rules

-- no DATASEC of such a file has a reserved name
pub frame_free : (x : TypesSection) (s : SectionWords) → KeepsTypes x s → (k : ℕ) → k < length s.frames → is_reserved_section s.strings (get_or s.frames k []) ≡ false
frame_free x s keeps k there =
    let head = head_holds x s keeps k there in
    not-true (is_reserved_section s.strings (get_or s.frames k [])) (rule_holds _ _ _ (rule_holds _ _ _ (rule_holds _ _ _ head).1).1).0

-- and no record has a name that is too long
pub frame_short : (x : TypesSection) (s : SectionWords) → KeepsTypes x s → (k : ℕ) → k < length s.frames → has_long_name s.strings (get_or s.frames k []) ≡ false
frame_short x s keeps k there = not-true (has_long_name s.strings (get_or s.frames k [])) (rule_holds _ _ _ (rule_holds _ _ _ (head_holds x s keeps k there)).1).0

-- nor a kind_flag without meaning
pub frame_plain : (x : TypesSection) (s : SectionWords) → KeepsTypes x s → (k : ℕ) → k < length s.frames → is_flagged (get_or s.frames k []) ≡ false
frame_plain x s keeps k there =
    let f = get_or s.frames k [] in
    let pos = record_offset (records_start x s) s k in
    let others =
    rule cause.TypesName pos (leads_to_name s.strings (name_word f))
    ∷ rule cause.TypesName pos (not (has_long_name s.strings f))
    ∷ rule cause.TypesSection pos (not (is_reserved_section s.strings f))
    ∷ [] in
    let last = rest_hold others (rule cause.TypesFlag (pos + 4) (not (is_flagged f)) ∷ []) (head_holds x s keeps k there) in
    not-true (is_flagged f) (rule_holds (not (is_flagged f)) (broken cause.TypesFlag (pos + 4)) None last).0
