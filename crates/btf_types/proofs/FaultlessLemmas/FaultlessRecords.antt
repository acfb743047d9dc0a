-- A frame without fault encodes the record that it reads as, and that record is valid.
use Rattle.std.proofs.Common.{◌≡◌, ◌≢◌, ℕ, zero, suc, ◌+◌, ◌*◌, ◌^◌, ◌<◌, ◌≤◌, Bool, true, false, List, ◌∷◌, ◌++◌, length, take, drop, refl, sym, subst, ◌∙◌, inl, inr, arith}
use Rattle.std.specs.Prelude.{IsTrue, IfSome, slice_index, ◌==◌, not, if◌then◌else◌}
use Rattle.std.specs.List.{All, concat}
use Rattle.std.proofs.lemmas.List.{take_all, length-drop}
use Rattle.btf_raw.specs.KindNumbers.{FUNC, DECL_TAG}
use Rattle.btf_raw.specs.{Header.HasNulEnds, Names.NameAt, Kinds.fixed_words, Kinds.item_words}
use Rattle.btf_raw.specs.Frames.{IsFrame, name_word, info_word, third_word, kind, vlen, flag}
use Rattle.btf_types.specs.{Values.TypeItem, Names.IsName, Names.head_name, Names.record_names}
use Rattle.btf_types.specs.Encoding.{kind_number, head_third, record_vlen, head_tail, info, ItemEncodes, Encodes, HeadInRange, ItemInRange}
use Rattle.btf_types.specs.checks.{Numbers.TypeFacts, Numbers.size_fits, RecordFaults.IsFaultless}
use Rattle.btf_types.specs.Valid.{TargetIsValid, MemberIsValid, ItemOf, item_targets, head_targets, has_bit_fields, has_width, facts_of, IsValidRecord, record_size}
use Rattle.btf_types.specs.checks.FieldFaults.{HasBitFields, frame_facts, width}
use Rattle.btf_types.specs.Reading.{text_from, component_of, head_of, item_from, item_of, item_total, record_of, tabulate}
use Rattle.btf_types.proofs.{Lists.length-tabulate, StringLemmas.EncodedNames.record_names_there, CheckLemmas.RecordSteps.array_end}
use Rattle.btf_types.proofs.KindCases.{KindIs, IsInt, IsArray, IsVar, IsDeclTag, IsStruct, IsUnion, IsEnum, IsFuncProto, IsDatasec, IsEnum64}
use Rattle.btf_types.proofs.FaultlessLemmas.FaultlessHeads.{words_after, count_of, kind_of_head, name_of_head, named_head, third_of_head, flag_of_head, tail_of_head, vlen_of_head, range_of_head, targets_of_head, valid_head, size_of_count, offset_of_head, bits_of_head, count_is, room_of_items}
use Rattle.btf_types.proofs.FaultlessLemmas.FaultlessWords.{known, room, info_is, flag_low, vlen_low, name_is, needed, unwanted, zeroed, size_is, type_is, int_is, func_linkage, var_linkage, component_is}
use Rattle.btf_types.proofs.FaultlessLemmas.FaultlessItems.{ItemIsRight, item_right}
use Rattle.btf_types.proofs.TabulateSteps.{All-tabulate, AllZip-tabulate, any-tabulate, pieces, first_three, none_after, one_after, three_after}

all_after : (f : List ℕ) (n : ℕ) → length f ≡ 3 + n → drop 3 f ≡ take n (drop 3 f)
all_after f n e = sym (take_all n (drop 3 f) (omega (arith, length-drop 3 f)))

-- the fields after the first three: those of the head, then those of the items
whole_suffix : {k : ℕ} → KindIs k → (f : List ℕ) (v : ℕ) → length f ≡ 3 + (fixed_words k + item_words k * v)
    → drop 3 f ≡ words_after (fixed_words k) (slice_index f 3) (slice_index f 4) (slice_index f 5) ++ take (item_words k * count_of k v) (drop 3 f)
unfolding fixed_words item_words
whole_suffix IsInt f v e = one_after f (omega arith)
whole_suffix IsArray f v e = three_after f (omega arith)
whole_suffix IsVar f v e = one_after f (omega arith)
whole_suffix IsDeclTag f v e = one_after f (omega arith)
whole_suffix IsStruct f v e = all_after f (3 * v) (omega arith)
whole_suffix IsUnion f v e = all_after f (3 * v) (omega arith)
whole_suffix IsEnum f v e = all_after f (2 * v) (omega arith)
whole_suffix IsFuncProto f v e = all_after f (2 * v) (omega arith)
whole_suffix IsDatasec f v e = all_after f (3 * v) (omega arith)
whole_suffix IsEnum64 f v e = all_after f (3 * v) (omega arith)
whole_suffix known f v e = none_after f (omega arith)

count_low : (k v : ℕ) → count_of k v ≤ v
count_low k v = split (item_words k == 0)
  where
    split : (b : Bool) → (if b then 0 else v) ≤ v
    split true = omega arith
    split false = omega arith

some_width : (w : ℕ) → not (w == 0) ≡ true → w ≢ 0
some_width zero h e = absurd cc
some_width (suc w) h e = omega arith

module _ (strings : List ℕ) (frame : List ℕ) (is_frame : IsFrame frame) where
  -- a record with bit-fields has them in its frame
  wide : {k : ℕ} → KindIs k → kind frame ≡ k → (i j : ℕ) → j ≡ 3 + item_words (kind frame) * i → i < vlen frame → has_width (item_of strings frame j) ≡ true → HasBitFields frame
  unfolding item_from
  wide IsStruct e i j is low h = let opened = rw e at h in (j + 2, (rw e refl, i, (low, omega arith)), some_width (width frame (j + 2)) opened)
  wide IsUnion e i j is low h = let opened = rw e at h in (j + 2, (rw e refl, i, (low, omega arith)), some_width (width frame (j + 2)) opened)
  wide other e i j is low h = let opened = rw e at h in absurd cc

  pub bit_fields_there : IsTrue (has_bit_fields (record_of strings frame)) → HasBitFields frame
  bit_fields_there h =
      let found = any-tabulate has_width (λ i. item_of strings frame (3 + item_words (kind frame) * i)) (item_total frame) h in
      let low = count_low (kind frame) (vlen frame) in
      wide (known frame is_frame) refl found.0 (3 + item_words (kind frame) * found.0) refl (omega (arith, found.1)) found.2

module _ (strings : List ℕ) (types : List TypeFacts) (frame : List ℕ) (ends : HasNulEnds strings) (is_frame : IsFrame frame) (none : IsFaultless strings types frame) where
  abbrev name : List ℕ
  name = text_from strings (name_word frame)

  abbrev count : ℕ
  count = item_total frame

  three : 2 < length frame
  three = omega (arith, room frame is_frame)

  -- the head
  kind_same : kind_number (head_of frame name) ≡ kind frame
  kind_same = kind_of_head (known frame is_frame) name (third_word frame) (flag frame) (vlen frame) (slice_index frame 3) (slice_index frame 4) (slice_index frame 5)

  name_same : head_name (head_of frame name) ≡ name
  name_same = name_of_head (known frame is_frame) name (third_word frame) (flag frame) (vlen frame) (slice_index frame 3) (slice_index frame 4) (slice_index frame 5) (unwanted strings types frame ends is_frame none)

  third_same : head_third (head_of frame name) ≡ third_word frame
  third_same = third_of_head (known frame is_frame) name (third_word frame) (flag frame) (vlen frame) (slice_index frame 3) (slice_index frame 4) (slice_index frame 5) (zeroed strings types frame ends is_frame none)

  tail_same : head_tail (head_of frame name) ≡ words_after (fixed_words (kind frame)) (slice_index frame 3) (slice_index frame 4) (slice_index frame 5)
  tail_same = tail_of_head (known frame is_frame) name (third_word frame) (flag frame) (vlen frame) (slice_index frame 3) (slice_index frame 4) (slice_index frame 5) (int_is strings types frame ends is_frame none)
      (var_linkage strings types frame ends is_frame none)

  -- the items
  abbrev item_at : ℕ → TypeItem
  item_at i = item_of strings frame (3 + item_words (kind frame) * i)

  abbrev words_at : ℕ → List ℕ
  words_at i = take (item_words (kind frame)) (drop (3 + item_words (kind frame) * i) frame)

  length_items : length (tabulate item_at count) ≡ count
  length_items = length-tabulate item_at count

  right : (i : ℕ) → i < count → ItemIsRight strings types frame (has_bit_fields (record_of strings frame)) (head_of frame name) (item_at i) (words_at i)
  right i low = item_right strings types frame ends is_frame none (has_bit_fields (record_of strings frame)) (bit_fields_there strings frame is_frame) (known frame is_frame) refl name i low

  vlen_same : record_vlen (record_of strings frame) ≡ vlen frame
  vlen_same = vlen_of_head (known frame is_frame) name (third_word frame) (flag frame) (vlen frame) (slice_index frame 3) (slice_index frame 4) (slice_index frame 5)
      (tabulate item_at count) length_items is_frame.info.vlen (func_linkage strings types frame ends is_frame none)

  after_three : drop 3 frame ≡ head_tail (head_of frame name) ++ concat (tabulate words_at count)
  after_three =
      whole_suffix (known frame is_frame) frame (vlen frame) (room frame is_frame)
      ∙ rw (tail_same, pieces (item_words (kind frame)) count 3 frame) refl

  all_words : frame ≡ name_word frame ∷ info (kind_number (head_of frame name)) (record_vlen (record_of strings frame)) (flag frame) ∷ head_third (head_of frame name) ∷ (head_tail (head_of frame name) ++ concat (tabulate words_at count))
  all_words =
      let second : info_word frame ≡ info (kind_number (head_of frame name)) (record_vlen (record_of strings frame)) (flag frame) = rw (kind_same, vlen_same) (info_is frame is_frame) in
      let third : third_word frame ≡ head_third (head_of frame name) = sym third_same in
      let rest = after_three in
      first_three frame three ∙ cc

  -- the counts of other records make the component of a DECL_TAG a 16-bit number
  head_low : (kind frame ≡ DECL_TAG → IfSome (component_of (slice_index frame 3)) (λ c. c < 2 ^ 16)) → HeadInRange (head_of frame name)
  head_low component =
      range_of_head (known frame is_frame) name (third_word frame) (flag frame) (vlen frame) (slice_index frame 3) (slice_index frame 4) (slice_index frame 5)
      (is_frame.words 2) (is_frame.words 3) (is_frame.words 4) (is_frame.words 5) component

  items_low : All ItemInRange (tabulate item_at count)
  items_low = All-tabulate ItemInRange item_at count (λ i low. (right i low).range)

  few_items : length (tabulate item_at count) < 2 ^ 16
  few_items = omega (arith, length_items, count_low (kind frame) (vlen frame), vlen_low frame is_frame)

  pub frame_encodes : (kind frame ≡ DECL_TAG → IfSome (component_of (slice_index frame 3)) (λ c. c < 2 ^ 16)) → Encodes strings (record_of strings frame) frame
  frame_encodes component = record {
    head_in_range = head_low component;
    items_in_range = items_low;
    items_fit = few_items;
    name_offset = name_word frame;
    flag = flag frame;
    item_words = tabulate words_at count;
    name = subst (λ (x : List ℕ). NameAt strings (name_word frame) x) (sym name_same) (name_is strings types frame ends is_frame none);
    flag_encodes = flag_of_head (known frame is_frame) name (third_word frame) (flag frame) (vlen frame) (slice_index frame 3) (slice_index frame 4) (slice_index frame 5) (flag_low frame is_frame) is_frame.info.flag;
    items = AllZip-tabulate (ItemEncodes strings (flag frame)) item_at words_at count (λ i low. (right i low).encodes);
    whole = all_words;
    fit = is_frame.words;
  }

  -- and that record is valid
  names_valid : (kind frame ≡ DECL_TAG → IfSome (component_of (slice_index frame 3)) (λ c. c < 2 ^ 16)) → All IsName (record_names (record_of strings frame))
  names_valid component i d low =
      let is_there = record_names_there strings (record_of strings frame) frame ends (frame_encodes component) i d low in
      record { utf8 = is_there.1.utf8; without_nul = is_there.1.text.without_nul }

  size_valid : IsTrue (size_fits (kind_number (head_of frame name)) (head_third (head_of frame name)) (length (tabulate item_at count)))
  size_valid = rw (kind_same, third_same) (size_of_count (known frame is_frame) (third_word frame) (vlen frame) (length (tabulate item_at count)) length_items (size_is strings types frame ends is_frame none))

  targets_valid : All (TargetIsValid types (kind_number (head_of frame name))) (head_targets (head_of frame name))
  targets_valid = rw kind_same
      (targets_of_head (known frame is_frame) (TargetIsValid types (kind frame)) name (third_word frame) (flag frame) (vlen frame) (slice_index frame 3) (slice_index frame 4) (slice_index frame 5)
      (λ has. type_is strings types frame ends is_frame none 2 three (inl (has, refl)))
      (λ array. type_is strings types frame ends is_frame none 3 (omega (arith, array_end is_frame array)) (inr (inl (array, inl refl))))
      (λ array. type_is strings types frame ends is_frame none 4 (omega (arith, array_end is_frame array)) (inr (inl (array, inr refl)))))

  item_targets_valid : All (λ item. All (TargetIsValid types (kind_number (head_of frame name))) (item_targets item)) (tabulate item_at count)
  item_targets_valid = rw kind_same (All-tabulate (λ item. All (TargetIsValid types (kind frame)) (item_targets item)) item_at count (λ i low. (right i low).targets))

  members_valid : All (MemberIsValid types (head_third (head_of frame name)) (has_bit_fields (record_of strings frame))) (tabulate item_at count)
  members_valid = rw third_same (All-tabulate (MemberIsValid types (third_word frame) (has_bit_fields (record_of strings frame))) item_at count (λ i low. (right i low).member))

  pub frame_valid : (kind frame ≡ DECL_TAG → IfSome (component_of (slice_index frame 3)) (λ c. c < 2 ^ 16)) → IsValidRecord types (record_of strings frame)
  frame_valid component = record {
    head_in_range = head_low component;
    items_in_range = items_low;
    items_of = All-tabulate (ItemOf (head_of frame name)) item_at count (λ i low. (right i low).of);
    items_fit = few_items;
    names = names_valid component;
    named = named_head (head_of frame name) (λ needs e. needed strings types frame ends is_frame none (rw kind_same at needs) (sym name_same ∙ e));
    size = size_valid;
    head_targets = targets_valid;
    item_targets = item_targets_valid;
    members = members_valid;
    head = valid_head (known frame is_frame) types name (third_word frame) (flag frame) (vlen frame) (slice_index frame 3) (slice_index frame 4) (slice_index frame 5) (int_is strings types frame ends is_frame none)
        (component_is strings types frame ends is_frame none);
  }

  -- what other records need of it, and its length
  pub facts_same : facts_of (record_of strings frame) ≡ frame_facts frame
  facts_same =
      let its_count : length (tabulate item_at count) ≡ (if kind frame == FUNC then 0 else vlen frame) = length_items ∙ count_is (known frame is_frame) (vlen frame) is_frame.info.vlen in
      let offset = offset_of_head (known frame is_frame) name (third_word frame) (flag frame) (vlen frame) (slice_index frame 3) (slice_index frame 4) (slice_index frame 5) in
      let bits = bits_of_head (known frame is_frame) name (third_word frame) (flag frame) (vlen frame) (slice_index frame 3) (slice_index frame 4) (slice_index frame 5) in
      rw (kind_same, its_count, third_same, offset, bits) refl

  pub size_same : record_size (record_of strings frame) ≡ 4 * length frame
  size_same =
      let items = room_of_items (known frame is_frame) (vlen frame) in
      rw (kind_same, length_items, items) (omega (arith, room frame is_frame))
