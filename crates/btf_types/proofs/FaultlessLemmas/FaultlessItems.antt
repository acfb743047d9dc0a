-- The items of a frame without fault: their fields encode them, and they are valid.
use Rattle.std.proofs.Common.{◌≡◌, ◌≢◌, ℕ, zero, suc, ◌+◌, ◌*◌, ◌/◌, ◌%◌, ◌^◌, ◌<◌, ◌≤◌, Bool, true, false, List, [], ◌∷◌, length, take, drop, refl, inl, inr, lit<, arith}
use Rattle.std.specs.Prelude.{IsTrue, slice_index, ◌==◌, if◌then◌else◌}
use Rattle.std.specs.List.{All}
use Rattle.std.proofs.lemmas.List.Elements.{All-nil, All-cons}
use Rattle.btf_raw.specs.KindNumbers.{STRUCT, UNION, ENUM, FUNC_PROTO, DATASEC, ENUM64}
use Rattle.btf_raw.specs.{Header.HasNulEnds, Names.NameAt, Kinds.item_words, Kinds.is_struct, Kinds.has_item_names}
use Rattle.btf_raw.specs.Frames.{IsFrame, third_word, kind, vlen, flag}
use Rattle.btf_types.specs.Values.{TypeHead, TypeItem, Member, EnumValue, Value64, Param, Entry}
use Rattle.btf_types.specs.{Encoding.MemberWord, Encoding.ItemEncodes, Encoding.ItemInRange, checks.Numbers.TypeFacts, checks.RecordFaults.IsFaultless}
use Rattle.btf_types.specs.Valid.{ItemOf, item_targets, TargetIsValid, MemberIsValid}
use Rattle.btf_types.specs.checks.FieldFaults.{IsTypeField, HasBitFields, bit_offset, width}
use Rattle.btf_types.specs.Reading.{text_from, head_from, head_of, item_from, item_of}
use Rattle.btf_types.proofs.KindCases.{KindIs, IsStruct, IsUnion, IsEnum, IsFuncProto, IsDatasec, IsEnum64}
use Rattle.btf_types.proofs.{FaultlessLemmas.FaultlessHeads.count_of, TabulateSteps.two_at, TabulateSteps.three_at}
use Rattle.btf_types.proofs.FaultlessLemmas.FaultlessWords.{item_ends, room, flag_low, type_is, item_name_is, member_int, member_place}

-- the fields encode the item, and it is one of a valid record with this head
pub record ItemIsRight (strings : List ℕ) (types : List TypeFacts) (frame : List ℕ) (bit_fields : Bool) (h : TypeHead) (x : TypeItem) (ws : List ℕ) : Type 0 where
  pub encodes : ItemEncodes strings (flag frame) x ws
  pub of : ItemOf h x
  pub range : ItemInRange x
  pub targets : All (TargetIsValid types (kind frame)) (item_targets x)
  pub member : MemberIsValid types (third_word frame) bit_fields x

-- the offset field of a member, for either kind_flag
pub member_word : (its_flag w : ℕ) → its_flag < 2 → MemberWord its_flag (if its_flag == 0 then w else w % 2 ^ 24) (if its_flag == 0 then 0 else w / 2 ^ 24) w
member_word zero w low = inl (refl, refl, refl)
member_word (suc zero) w low = inr (refl, omega arith, omega arith)
member_word (suc (suc n)) w low = absurd (omega arith)

member_offset_low : (its_flag w : ℕ) → w < 2 ^ 32 → (if its_flag == 0 then w else w % 2 ^ 24) < 2 ^ 32
member_offset_low zero w low = low
member_offset_low (suc n) w low = split ((suc n) == 0)
  where
    split : (b : Bool) → (if b then w else w % 2 ^ 24) < 2 ^ 32
    split true = low
    split false = omega arith

member_width_low : (its_flag w : ℕ) → w < 2 ^ 32 → (if its_flag == 0 then 0 else w / 2 ^ 24) < 2 ^ 8
member_width_low its_flag w low = split (its_flag == 0)
  where
    split : (b : Bool) → (if b then 0 else w / 2 ^ 24) < 2 ^ 8
    split true = lit< tt
    split false = omega arith

-- if some width isn't 0, each offset is below 2 ^ 24
narrow : (its_flag v w : ℕ) → ((if its_flag == 0 then 0 else v / 2 ^ 24) ≢ 0) → (if its_flag == 0 then w else w % 2 ^ 24) < 2 ^ 24
narrow its_flag v w some = split (its_flag == 0) some
  where
    split : (b : Bool) → ((if b then 0 else v / 2 ^ 24) ≢ 0) → (if b then w else w % 2 ^ 24) < 2 ^ 24
    split true some = absurd (some refl)
    split false some = omega arith

-- the number of items, if there are any
pub listed : (k i vlen : ℕ) → i < count_of k vlen → i < vlen
listed k i vlen low = split (item_words k == 0) low
  where
    split : (b : Bool) → i < (if b then 0 else vlen) → i < vlen
    split true h = absurd (omega arith)
    split false h = h

module _ (strings : List ℕ) (types : List TypeFacts) (frame : List ℕ) (ends : HasNulEnds strings) (is_frame : IsFrame frame) (none : IsFaultless strings types frame) where
  pub inside : (i m : ℕ) → i < vlen frame → m < item_words (kind frame) → 3 + item_words (kind frame) * i + m < length frame
  inside i m low word =
      let end = item_ends (item_words (kind frame)) i (vlen frame) m low word in
      let size = room frame is_frame in
      omega arith

  module _ (bit_fields : Bool) (some : IsTrue bit_fields → HasBitFields frame) where
    member_right : (h : TypeHead) (i j : ℕ) → j ≡ 3 + item_words (kind frame) * i → IsTrue (is_struct (kind frame)) → item_words (kind frame) ≡ 3 → IsTrue (has_item_names (kind frame))
        → ((n : List ℕ) (t o w : ℕ) → ItemOf h (Member n t o w)) → IsTypeField frame (j + 1) → i < vlen frame
        → ItemIsRight strings types frame bit_fields h (Member (text_from strings (slice_index frame j)) (slice_index frame (j + 1)) (bit_offset frame (j + 2)) (width frame (j + 2))) (slice_index frame j ∷ slice_index frame (j + 1) ∷ slice_index frame (j + 2) ∷ [])
    member_right h i j is struct words named of field low =
        let end = inside i 2 low (omega arith) in
        let name : NameAt strings (slice_index frame j) (text_from strings (slice_index frame j)) = rw is (item_name_is strings types frame ends is_frame none i named low (omega arith)) in
        let target = type_is strings types frame ends is_frame none (j + 1) (omega arith) field in
        record {
          encodes = (slice_index frame j, slice_index frame (j + 2), name, member_word (flag frame) (slice_index frame (j + 2)) (flag_low frame is_frame), refl);
          of = of _ _ _ _;
          range = (is_frame.words (j + 1), member_offset_low (flag frame) (slice_index frame (j + 2)) (is_frame.words (j + 2)), member_width_low (flag frame) (slice_index frame (j + 2)) (is_frame.words (j + 2)));
          targets = All-cons (TargetIsValid types (kind frame)) (slice_index frame (j + 1)) [] target (All-nil (TargetIsValid types (kind frame)));
          member = (
            member_place strings types frame ends is_frame none (j + 2) (omega arith) (struct, i, (low, omega arith)),
            λ has.
                let wide = some has in (
                  narrow (flag frame) (slice_index frame wide.0) (slice_index frame (j + 2)) wide.2,
                  member_int strings types frame ends is_frame none (j + 1) (omega arith) (struct, i, (low, omega arith)) wide,
                ),
          );
        }

    value_right : (h : TypeHead) (i j : ℕ) → j ≡ 3 + item_words (kind frame) * i → item_words (kind frame) ≡ 2 → IsTrue (has_item_names (kind frame))
        → ((n : List ℕ) (v : ℕ) → ItemOf h (EnumValue n v)) → i < vlen frame
        → ItemIsRight strings types frame bit_fields h (EnumValue (text_from strings (slice_index frame j)) (slice_index frame (j + 1))) (slice_index frame j ∷ slice_index frame (j + 1) ∷ [])
    value_right h i j is words named of low =
        let end = inside i 1 low (omega arith) in
        let name : NameAt strings (slice_index frame j) (text_from strings (slice_index frame j)) = rw is (item_name_is strings types frame ends is_frame none i named low (omega arith)) in
        record {
          encodes = (slice_index frame j, name, refl);
          of = of _ _;
          range = is_frame.words (j + 1);
          targets = All-nil (TargetIsValid types (kind frame));
          member = tt;
        }

    value64_right : (h : TypeHead) (i j : ℕ) → j ≡ 3 + item_words (kind frame) * i → item_words (kind frame) ≡ 3 → IsTrue (has_item_names (kind frame))
        → ((n : List ℕ) (v : ℕ) → ItemOf h (Value64 n v)) → i < vlen frame
        → ItemIsRight strings types frame bit_fields h (Value64 (text_from strings (slice_index frame j)) (slice_index frame (j + 1) + 2 ^ 32 * slice_index frame (j + 2))) (slice_index frame j ∷ slice_index frame (j + 1) ∷ slice_index frame (j + 2) ∷ [])
    value64_right h i j is words named of low =
        let end = inside i 2 low (omega arith) in
        let name : NameAt strings (slice_index frame j) (text_from strings (slice_index frame j)) = rw is (item_name_is strings types frame ends is_frame none i named low (omega arith)) in
        let first = is_frame.words (j + 1) in
        let second = is_frame.words (j + 2) in
        let value = slice_index frame (j + 1) + 2 ^ 32 * slice_index frame (j + 2) in
        let lower : value % 2 ^ 32 ≡ slice_index frame (j + 1) = omega arith in
        let upper : value / 2 ^ 32 ≡ slice_index frame (j + 2) = omega arith in
        record {
          encodes = (slice_index frame j, name, rw (lower, upper) refl);
          of = of _ _;
          range = omega arith;
          targets = All-nil (TargetIsValid types (kind frame));
          member = tt;
        }

    param_right : (h : TypeHead) (i j : ℕ) → j ≡ 3 + item_words (kind frame) * i → item_words (kind frame) ≡ 2 → IsTrue (has_item_names (kind frame))
        → ((n : List ℕ) (t : ℕ) → ItemOf h (Param n t)) → IsTypeField frame (j + 1) → i < vlen frame
        → ItemIsRight strings types frame bit_fields h (Param (text_from strings (slice_index frame j)) (slice_index frame (j + 1))) (slice_index frame j ∷ slice_index frame (j + 1) ∷ [])
    param_right h i j is words named of field low =
        let end = inside i 1 low (omega arith) in
        let name : NameAt strings (slice_index frame j) (text_from strings (slice_index frame j)) = rw is (item_name_is strings types frame ends is_frame none i named low (omega arith)) in
        let target = type_is strings types frame ends is_frame none (j + 1) (omega arith) field in
        record {
          encodes = (slice_index frame j, name, refl);
          of = of _ _;
          range = is_frame.words (j + 1);
          targets = All-cons (TargetIsValid types (kind frame)) (slice_index frame (j + 1)) [] target (All-nil (TargetIsValid types (kind frame)));
          member = tt;
        }

    entry_right : (h : TypeHead) (i j : ℕ) → j ≡ 3 + item_words (kind frame) * i → item_words (kind frame) ≡ 3
        → ((t o n : ℕ) → ItemOf h (Entry t o n)) → IsTypeField frame j → i < vlen frame
        → ItemIsRight strings types frame bit_fields h (Entry (slice_index frame j) (slice_index frame (j + 1)) (slice_index frame (j + 2))) (slice_index frame j ∷ slice_index frame (j + 1) ∷ slice_index frame (j + 2) ∷ [])
    entry_right h i j is words of field low =
        let end = inside i 2 low (omega arith) in
        let target = type_is strings types frame ends is_frame none j (omega arith) field in
        record {
          encodes = refl;
          of = of _ _ _;
          range = (is_frame.words j, is_frame.words (j + 1), is_frame.words (j + 2));
          targets = All-cons (TargetIsValid types (kind frame)) (slice_index frame j) [] target (All-nil (TargetIsValid types (kind frame)));
          member = tt;
        }

    -- the item of each kind
    abbrev IsRightAt : List ℕ → ℕ → Type 0
    IsRightAt name i = ItemIsRight strings types frame bit_fields (head_of frame name) (item_of strings frame (3 + item_words (kind frame) * i)) (take (item_words (kind frame)) (drop (3 + item_words (kind frame) * i) frame))

    two_room : (i : ℕ) → item_words (kind frame) ≡ 2 → i < vlen frame → 3 + 2 * i + 2 ≤ length frame
    two_room i words low = let end : 3 + 2 * i + 1 < length frame = rw words at (inside i 1 low (rw words (lit< tt))) in omega arith

    three_room : (i : ℕ) → item_words (kind frame) ≡ 3 → i < vlen frame → 3 + 3 * i + 3 ≤ length frame
    three_room i words low = let end : 3 + 3 * i + 2 < length frame = rw words at (inside i 2 low (rw words (lit< tt))) in omega arith

    pub item_right : {k : ℕ} → KindIs k → kind frame ≡ k → (name : List ℕ) (i : ℕ) → i < count_of k (vlen frame) → IsRightAt name i
    unfolding has_item_names item_words item_from head_from
    item_right IsStruct e name i count =
        let low = listed STRUCT i (vlen frame) count in
        let words : item_words (kind frame) ≡ 3 = rw e refl in
        rw (e, three_at frame (3 + 3 * i) (three_room i words low))
        (member_right _ i (3 + 3 * i) (rw words refl) (rw e refl) words (rw e refl) (λ n t o w. tt) (inr (inr (inl (rw e refl, i, (low, rw words refl))))) low)
    item_right IsUnion e name i count =
        let low = listed UNION i (vlen frame) count in
        let words : item_words (kind frame) ≡ 3 = rw e refl in
        rw (e, three_at frame (3 + 3 * i) (three_room i words low))
        (member_right _ i (3 + 3 * i) (rw words refl) (rw e refl) words (rw e refl) (λ n t o w. tt) (inr (inr (inl (rw e refl, i, (low, rw words refl))))) low)
    item_right IsEnum e name i count =
        let low = listed ENUM i (vlen frame) count in
        let words : item_words (kind frame) ≡ 2 = rw e refl in
        rw (e, two_at frame (3 + 2 * i) (two_room i words low))
        (value_right _ i (3 + 2 * i) (rw words refl) words (rw e refl) (λ n v. tt) low)
    item_right IsFuncProto e name i count =
        let low = listed FUNC_PROTO i (vlen frame) count in
        let words : item_words (kind frame) ≡ 2 = rw e refl in
        rw (e, two_at frame (3 + 2 * i) (two_room i words low))
        (param_right _ i (3 + 2 * i) (rw words refl) words (rw e refl) (λ n t. tt) (inr (inr (inl (rw e refl, i, (low, rw words refl))))) low)
    item_right IsDatasec e name i count =
        let low = listed DATASEC i (vlen frame) count in
        let words : item_words (kind frame) ≡ 3 = rw e refl in
        rw (e, three_at frame (3 + 3 * i) (three_room i words low))
        (entry_right _ i (3 + 3 * i) (rw words refl) words (λ t o n. tt) (inr (inr (inr (e, i, (low, rw words (omega arith)))))) low)
    item_right IsEnum64 e name i count =
        let low = listed ENUM64 i (vlen frame) count in
        let words : item_words (kind frame) ≡ 3 = rw e refl in
        rw (e, three_at frame (3 + 3 * i) (three_room i words low))
        (value64_right _ i (3 + 3 * i) (rw words refl) words (rw e refl) (λ n v. tt) low)
    item_right known e name i count = absurd (omega arith)
