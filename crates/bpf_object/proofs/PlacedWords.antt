-- The record of a frame, with new offsets of its names, has its other fields as they are.
use Rattle.std.proofs.Common.{◌≡◌, ◌≢◌, ◌⊎◌, ℕ, zero, suc, ◌+◌, ◌-◌, ◌*◌, ◌/◌, ◌%◌, ◌<◌, ◌≤◌, ◌==◌, ◌&&◌, Bool, true, false, not, List, [], ◌∷◌, ◌++◌, length, take, drop, get_or, inl, inr, refl, sym, ap, subst, ◌∙◌, length-drop, append_assoc, div-add-mod', mul_comm, arith}
use Rattle.std.specs.Prelude.{slice_index}
use Rattle.std.specs.List.{All}
use Rattle.std.proofs.lemmas.Bool.{and_parts, cases_Bool, cases_lt, eqb-true, eqb-false}
use Rattle.std.proofs.lemmas.List.{get_or-drop, Concat.flat_map-append}
use Rattle.bpf_words.specs.{declared.Order.Order, Words.word32}
use Rattle.btf_raw.specs.{Kinds.is_struct, Kinds.item_words, Kinds.has_item_names, Kinds.fixed_words, Kinds.tail_words}
use Rattle.btf_raw.specs.Frames.{IsFrame, kind, vlen, flag, info_word, bytes_of}
use Rattle.btf_types.specs.{Encoding.Encodes, Encoding.head_third, Names.head_name, Reading.record_of, Reading.text_from, Reading.tabulate, Valid.has_bit_fields, Values.TypeRecord}
use Rattle.btf_types.specs.checks.{RecordFaults.BitFieldsAre}
use Rattle.btf_types.proofs.{FaultlessLemmas.FaultlessRecords.bit_fields_there, KindCases.KindIs, KindCases.named_kind}
use Rattle.btf_types.proofs.KindCases.{IsStruct, IsUnion, IsEnum, IsFuncProto, IsEnum64}
use Rattle.bpf_canon.specs.btf.{CanonicalBtf.record_words, write.BtfWords.record_info}
use Rattle.bpf_canon.proofs.BtfLemmas.Write.RecordNames.{HasNamedItems, head_name_is, item_is, named_total, own_offset}
use Rattle.bpf_canon.proofs.BtfLemmas.Write.RecordWords.{bit_fields_same, info_of_others, info_unmarked, info_wide, items_few, unmarked_record, items_to, named_item_more, item_size, rest_words, items_are_tail, record_tail}
use Rattle.bpf_object.specs.Types.{is_flagged}
use Rattle.bpf_object.specs.private.WrittenRecords.{is_name_word, placed_word, IsWritable}
use Rattle.bpf_object.proofs.{ReadBackTests.most_test, ReadBackTests.over_test, RecordLemmas.flagged_is, RenewedWords.name_no_type}
use Rattle.bpf_object.proofs.RenewedFrames.{no_type_0, words_again, renewed_at, renewed_other, renewed_kind}
use Rattle.bpf_object.specs.TypeOrder.{is_type_word, renewed_word, renewed_frame}
use Rattle.bpf_canon.specs.btf.write.NameOffsets.{name_offsets}

-- ---- which fields are names

module _ (k j : ℕ) where
  after_three : 3 ≤ j → is_name_word k j ≡ (has_item_names k && (j - 3) % item_words k == 0)
  after_three from = rw (most_test 3 j from) refl

  no_names : 3 ≤ j → has_item_names k ≡ false → is_name_word k j ≡ false
  no_names from none = after_three from ∙ rw none refl

  names_at : 3 ≤ j → (size m : ℕ) → has_item_names k ≡ true → item_words k ≡ size → (j - 3) % size ≡ m → is_name_word k j ≡ (m == 0)
  names_at from size m has is at = after_three from ∙ rw (has, is, at) refl

  pub before_three : j < 3 → is_name_word k j ≡ (j == 0)
  before_three lt = rw (over_test 3 j lt) refl

-- which item it is of
record IsOfItem (k j : ℕ) : Type 0 where
  named : has_item_names k ≡ true
  index : ℕ
  at : j ≡ 3 + item_words k * index

item_found : (k j : ℕ) → 3 ≤ j → is_name_word k j ≡ true → IsOfItem k j
item_found k j from is =
    let both = and_parts (has_item_names k) ((j - 3) % item_words k == 0) (sym (after_three k j from) ∙ is) in
    let size = item_words k in
    let none : (j - 3) % size ≡ 0 = eqb-true ((j - 3) % size) 0 both.1 in
    let whole : (j - 3) / size * size + (j - 3) % size ≡ j - 3 = div-add-mod' (j - 3) size in
    let turned : (j - 3) / size * size ≡ size * ((j - 3) / size) = mul_comm ((j - 3) / size) size in
    record { named = both.0; index = (j - 3) / size; at = omega (arith, from, none, whole, turned) }

-- a name is no type
name_is_no_type : (k j : ℕ) → is_name_word k j ≡ true → is_type_word k j ≡ false
name_is_no_type k j is = elim (cases_lt j 3) [
  | inl before ↦
      let first : j ≡ 0 = eqb-true j 0 (sym (before_three k j before) ∙ is) in
      ap (is_type_word k) first ∙ no_type_0 k
  | inr from ↦ let it = item_found k j from is in name_no_type k j it.index (named_kind k it.named) it.named (omega (arith, it.at))
]

-- ---- info

-- kind_flag is what it is in canonical BTF
info_kept : (strings f : List ℕ) → IsFrame f → Encodes strings (record_of strings f) f → is_flagged f ≡ false → info_word f ≡ record_info (record_of strings f)
info_kept strings f frame encoded plain =
    let r = record_of strings f in
    let few = items_few strings f in
    elim (cases_Bool (flag f == 0)) [
      | inl none ↦ let is : flag f ≡ 0 = eqb-true (flag f) 0 none in info_unmarked strings f r few encoded is (unmarked_record strings f frame is)
      | inr some ↦
          let set : flag f ≢ 0 = eqb-false (flag f) 0 some in
          elim (cases_Bool (is_struct (kind f))) [
            | inr other ↦ info_of_others strings f r few encoded other
            | inl struct ↦
                let told : BitFieldsAre f (has_bit_fields r) =
                record {
                  some = bit_fields_there strings f frame;
                  none = λ h. bit_fields_same strings f true frame struct set (record { some = λ _. h; none = λ _. refl });
                } in
                info_wide strings f r few encoded struct set (not_not (has_bit_fields r) (flagged_is f (has_bit_fields r) struct set told ∙ plain))
          ]
    ]
  where
    not_not : (b : Bool) → not b ≡ false → b ≡ true
    not_not true e = refl
    not_not false e = absurd cc

-- ---- lists of words

no_fixed : {k : ℕ} → (n : ℕ) → KindIs k → has_item_names k ≡ true → tail_words k n ≡ item_words k * n
unfolding has_item_names item_words tail_words fixed_words
no_fixed n IsStruct has = omega arith
no_fixed n IsUnion has = omega arith
no_fixed n IsEnum has = omega arith
no_fixed n IsFuncProto has = omega arith
no_fixed n IsEnum64 has = omega arith
no_fixed n other has = absurd cc

-- items with names follow the first three fields
named_tail : (k n : ℕ) → has_item_names k ≡ true → tail_words k n ≡ item_words k * n
named_tail k n has = no_fixed n (named_kind k has) has

tabulate_front : (g : ℕ → ℕ) (m : ℕ) → tabulate g (3 + m) ≡ g 0 ∷ g 1 ∷ g 2 ∷ tabulate (λ j. g (3 + j)) m
tabulate_front g zero = refl
tabulate_front g (suc m) =
    let next : 3 + suc m ≡ suc (3 + m) = omega arith in
    ap (tabulate g) next ∙ ap (λ (t : List ℕ). t ++ g (3 + m) ∷ []) (tabulate_front g m)

two_more : (g : ℕ → ℕ) (m : ℕ) → tabulate g (m + 2) ≡ tabulate g m ++ g m ∷ g (m + 1) ∷ []
two_more g m =
    let last : m + 2 ≡ suc (suc m) = omega arith in
    let next : m + 1 ≡ suc m = omega arith in
    rw (last, next) (append_assoc (tabulate g m) (g m ∷ []) (g (suc m) ∷ []))

three_more : (g : ℕ → ℕ) (m : ℕ) → tabulate g (m + 3) ≡ tabulate g m ++ g m ∷ g (m + 1) ∷ g (m + 2) ∷ []
three_more g m =
    let last : m + 3 ≡ suc (m + 2) = omega arith in
    ap (tabulate g) last ∙ ap (λ (t : List ℕ). t ++ g (m + 2) ∷ []) (two_more g m) ∙ append_assoc (tabulate g m) (g m ∷ g (m + 1) ∷ []) (g (m + 2) ∷ [])

-- ---- a record

module _ (o : Order) (place : List ℕ → ℕ) (strings f : List ℕ) (is : IsWritable strings f) where
  abbrev k : ℕ
  k = kind f

  abbrev r : TypeRecord
  r = record_of strings f

  abbrev word : ℕ → ℕ
  word = placed_word place strings f

  abbrev after : ℕ → ℕ
  after j = word (3 + j)

  word_name : (j : ℕ) → is_name_word k j ≡ true → word j ≡ place (text_from strings (slice_index f j))
  word_name j e = rw e refl

  word_other : (j : ℕ) → is_name_word k j ≡ false → word j ≡ slice_index f j
  word_other j e = rw e refl

  -- an item
  abbrev item : ℕ → ℕ → List ℕ
  item size j = take size (place (text_from strings (slice_index f (3 + j))) ∷ slice_index f (4 + j) ∷ slice_index f (5 + j) ∷ [])

  pair_words : (n : ℕ) → HasNamedItems f 2 (vlen f) → tabulate after (2 * suc n) ≡ tabulate after (2 * n) ++ item 2 (2 * n)
  pair_words n items =
      let m = 2 * n in
      let whole : 2 * suc n ≡ m + 2 = omega arith in
      let first : after m ≡ place (text_from strings (slice_index f (3 + m))) = word_name (3 + m) (names_at k (3 + m) (omega arith) 2 0 items.named items.words (omega arith)) in
      let second : after (m + 1) ≡ slice_index f (4 + m) =
      word_other (3 + (m + 1)) (names_at k (3 + (m + 1)) (omega arith) 2 1 items.named items.words (omega arith)) ∙ ap (slice_index f) (omega arith) in
      ap (tabulate after) whole ∙ two_more after m ∙ (λ i. tabulate after m ++ first i ∷ second i ∷ [])

  triple_words : (n : ℕ) → HasNamedItems f 3 (vlen f) → tabulate after (3 * suc n) ≡ tabulate after (3 * n) ++ item 3 (3 * n)
  triple_words n items =
      let m = 3 * n in
      let whole : 3 * suc n ≡ m + 3 = omega arith in
      let first : after m ≡ place (text_from strings (slice_index f (3 + m))) = word_name (3 + m) (names_at k (3 + m) (omega arith) 3 0 items.named items.words (omega arith)) in
      let second : after (m + 1) ≡ slice_index f (4 + m) =
      word_other (3 + (m + 1)) (names_at k (3 + (m + 1)) (omega arith) 3 1 items.named items.words (omega arith)) ∙ ap (slice_index f) (omega arith) in
      let third : after (m + 2) ≡ slice_index f (5 + m) =
      word_other (3 + (m + 2)) (names_at k (3 + (m + 2)) (omega arith) 3 2 items.named items.words (omega arith)) ∙ ap (slice_index f) (omega arith) in
      ap (tabulate after) whole ∙ three_more after m ∙ (λ i. tabulate after m ++ first i ∷ second i ∷ third i ∷ [])

  item_words_more : (size n : ℕ) → HasNamedItems f size (vlen f) → tabulate after (size * suc n) ≡ tabulate after (size * n) ++ item size (size * n)
  item_words_more size n items = elim (item_size f size (vlen f) is.frame items) [
    | inl two ↦ rw two (pair_words n (subst (λ (w : ℕ). HasNamedItems f w (vlen f)) two items))
    | inr three ↦ rw three (triple_words n (subst (λ (w : ℕ). HasNamedItems f w (vlen f)) three items))
  ]

  -- the fields of items with names
  named_words : (size n : ℕ) → HasNamedItems f size (vlen f) → bytes_of o (items_to place strings f n) ≡ bytes_of o (tabulate after (size * n))
  named_words size zero items = let none : size * 0 ≡ 0 = omega arith in rw none refl
  named_words size (suc n) items =
      let j = size * n in
      let next : n + 1 ≡ suc n = omega arith in
      let more : bytes_of o (items_to place strings f n) ++ bytes_of o (item size j) ≡ bytes_of o (items_to place strings f (n + 1)) =
      named_item_more o [] place strings f size (vlen f) n (slice_index f (3 + j)) (place (text_from strings (slice_index f (3 + j)))) (slice_index f (4 + j)) (slice_index f (5 + j))
      is.frame items refl refl refl refl in
      ap (λ (n : ℕ). bytes_of o (items_to place strings f n)) (sym next) ∙ sym more
      ∙ ap (λ (b : List ℕ). b ++ bytes_of o (item size j)) (named_words size n items)
      ∙ sym (ap (bytes_of o) (item_words_more size n items) ∙ flat_map-append (word32 o) (tabulate after j) (item size j))

  -- all fields after the first three
  tail_named : (m : ℕ) → length f ≡ 3 + m → has_item_names k ≡ true → bytes_of o (record_tail place r) ≡ bytes_of o (tabulate after m)
  tail_named m whole has =
      let size : item_words k * vlen f ≡ m = omega (arith, whole, is.frame.size, named_tail k (vlen f) has) in
      ap (bytes_of o) (sym (items_are_tail place strings f is.frame has))
      ∙ ap (λ (n : ℕ). bytes_of o (items_to place strings f n)) (named_total f is.frame has)
      ∙ named_words (item_words k) (vlen f) (record { named = has; words = refl; all = refl })
      ∙ ap (λ (n : ℕ). bytes_of o (tabulate after n)) size

  tail_nameless : (m : ℕ) → length f ≡ 3 + m → has_item_names k ≡ false → bytes_of o (record_tail place r) ≡ bytes_of o (tabulate after m)
  tail_nameless m whole none =
      let each : (j : ℕ) → after j ≡ get_or (drop 3 f) j 0 = λ j. word_other (3 + j) (no_names k (3 + j) (omega arith) none) ∙ sym (get_or-drop 3 f j 0) in
      ap (bytes_of o) (sym (rest_words place strings f is.frame is.encoded none) ∙ sym (words_again (drop 3 f) after m each (omega (arith, whole, length-drop 3 f))))

  tail_bytes : (m : ℕ) → length f ≡ 3 + m → bytes_of o (record_tail place r) ≡ bytes_of o (tabulate after m)
  tail_bytes m whole = elim (cases_Bool (has_item_names k)) [ inl has ↦ tail_named m whole has | inr none ↦ tail_nameless m whole none ]

  pub words_placed : bytes_of o (record_words place r) ≡ bytes_of o (tabulate word (length f))
  words_placed =
      let m = tail_words k (vlen f) in
      let name : place (head_name r.head) ≡ word 0 = ap place (head_name_is strings r f is.ends is.encoded) in
      let third : head_third r.head ≡ word 2 = sym (ap (λ (t : List ℕ). slice_index t 2) is.encoded.whole) in
      let info = sym (info_kept strings f is.frame is.encoded is.plain) in
      ap (λ (n : ℕ). bytes_of o (n ∷ record_info r ∷ head_third r.head ∷ record_tail place r)) name
      ∙ ap (λ (n : ℕ). bytes_of o (word 0 ∷ n ∷ head_third r.head ∷ record_tail place r)) info
      ∙ ap (λ (n : ℕ). bytes_of o (word 0 ∷ word 1 ∷ n ∷ record_tail place r)) third
      ∙ ap (λ (b : List ℕ). word32 o (word 0) ++ (word32 o (word 1) ++ (word32 o (word 2) ++ b))) (tail_bytes m is.frame.size)
      ∙ sym (ap (bytes_of o) (ap (tabulate word) is.frame.size ∙ tabulate_front word m))

-- ---- a record with new numbers

module _ (place : List ℕ → ℕ) (strings : List ℕ) (new : ℕ → ℕ) (f : List ℕ) where
  pub placed_name : (j : ℕ) → is_name_word (kind f) j ≡ true → place (text_from strings (slice_index f j)) ≡ placed_word place strings (renewed_frame new f) j
  placed_name j is =
      let same : slice_index (renewed_frame new f) j ≡ slice_index f j = renewed_other new f j (name_is_no_type (kind f) j is) in
      rw (renewed_kind new f, is, same) refl

  pub placed_other : (j : ℕ) → j < length f → is_name_word (kind f) j ≡ false → renewed_word new f j ≡ placed_word place strings (renewed_frame new f) j
  placed_other j lt other = rw (renewed_kind new f, other) (sym (renewed_at new f j lt))

-- the offset of a name is one of those of its record
pub name_among : (P : ℕ → Type 0) (f : List ℕ) (j : ℕ) → IsFrame f → j < length f → is_name_word (kind f) j ≡ true → All P (name_offsets f) → P (slice_index f j)
name_among P f j frame lt is each = elim (cases_lt j 3) [
  | inl before ↦
      let first : j ≡ 0 = eqb-true j 0 (sym (before_three (kind f) j before) ∙ is) in
      subst (λ (i : ℕ). P (slice_index f i)) (sym first) (own_offset P f each)
  | inr from ↦
      let it = item_found (kind f) j from is in
      let size = item_words (kind f) in
      let items : HasNamedItems f size (vlen f) = record { named = it.named; words = refl; all = refl } in
      let whole : length f ≡ 3 + size * vlen f = omega (arith, frame.size, named_tail (kind f) (vlen f) it.named) in
      item_is P f size (vlen f) it.index (slice_index f j) each items (below size it.index (vlen f) (item_size f size (vlen f) frame items) (omega (arith, whole, it.at, lt))) (ap (slice_index f) it.at)
]
  where
    below : (size i n : ℕ) → (size ≡ 2) ⊎ (size ≡ 3) → size * i < size * n → i < n
    below size i n (inl two) less = omega (arith, subst (λ (w : ℕ). w * i < w * n) two less)
    below size i n (inr three) less = omega (arith, subst (λ (w : ℕ). w * i < w * n) three less)
