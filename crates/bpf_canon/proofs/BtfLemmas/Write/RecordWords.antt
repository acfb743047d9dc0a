-- The 32-bit words of a record, from those of its frame.
use Rattle.std.proofs.Common.{◌≡◌, ◌≢◌, ◌⊎◌, ℕ, zero, suc, ◌+◌, ◌-◌, ◌*◌, ◌/◌, ◌%◌, ◌^◌, ◌<◌, ◌≤◌, Bool, true, false, not, Some, List, [], ◌∷◌, ◌++◌, length, map, take, drop, get_or, refl, sym, ap, ◌∙◌, inl, inr, append-nil, arith, rules}
use Rattle.std.proofs.lemmas.Grind.{common_steps}
use Rattle.std.specs.Prelude.{slice_index, slice_get, ◌==◌, ◌||◌, ⊤}
use Rattle.std.specs.List.{All, AllZip, concat, flat_map, list_any}
use Rattle.std.proofs.{lemmas.Bool.cases_eq, lemmas.Bool.ne_eqb, lemmas.Bool.or_left, lemmas.Bool.or_right}
use Rattle.std.proofs.lemmas.List.{get_or-drop, length-drop, map-append, Concat.flat_map-append, Elements.All-head, Elements.All-tail, Folds.list_any-append}
use Rattle.bpf_words.specs.{declared.Order.Order, Words.word32}
use Rattle.btf_raw.specs.{Header.HasNulEnds, Kinds.item_words, Kinds.kind_of, Kinds.has_item_names, Kinds.is_struct}
use Rattle.btf_raw.specs.Frames.{IsFrame, info_word, third_word, name_word, kind, vlen, flag, bytes_of, section_of}
use Rattle.btf_types.specs.Values.{TypeHead, TypeItem, Entry, TypeRecord}
use Rattle.btf_types.specs.{Names.head_name, checks.RecordFaults.BitFieldsAre, Valid.has_width, Valid.has_bit_fields}
use Rattle.btf_types.specs.Encoding.{kind_number, head_third, head_tail, FlagEncodes, record_vlen, info, ItemEncodes, Encodes}
use Rattle.btf_types.specs.Reading.{text_from, head_from, item_from, item_of, item_total, record_of, tabulate}
use Rattle.btf_types.proofs.KindCases.{KindIs, IsStruct, IsUnion, IsEnum, IsFuncProto, IsEnum64}
use Rattle.btf_types.proofs.FaultlessLemmas.{FaultlessRecords.bit_fields_there, FaultlessWords.known, FaultlessWords.room}
use Rattle.btf_types.proofs.Encoded.{info_parts, InfoParts, kind_below, vlen_below, flag_below}
use Rattle.btf_types.proofs.{TableLemmas.TableReads.count_there, TableLemmas.TextSteps.decided, TabulateSteps.All-tabulate}
use Rattle.bpf_canon.specs.btf.CanonicalBtf.{canonical_flag, words_of_item as words_of, record_words}
use Rattle.bpf_canon.specs.btf.write.BtfWords.{record_info}
use Rattle.bpf_canon.proofs.BtfLemmas.Names.NoteSteps.{one_more}
use Rattle.bpf_canon.proofs.BtfLemmas.Write.{RecordNames.HasNamedItems, RecordNames.head_name_is, WriteSteps.pushed_two}

-- the 32-bit words of a record's items, and all after the third
abbrev record_items : (List ℕ → ℕ) → TypeRecord → List ℕ
record_items text_offset r = flat_map (words_of text_offset) r.items

abbrev pub record_tail : (List ℕ → ℕ) → TypeRecord → List ℕ
record_tail text_offset r = head_tail r.head ++ record_items text_offset r

-- ---- whether a record has bit-fields

abbrev pub item_in : List ℕ → List ℕ → ℕ → TypeItem
item_in strings f k = item_of strings f (3 + item_words (kind f) * k)

any_later : {X : Type 0} (p : X → Bool) (f : ℕ → X) (n : ℕ) → list_any p (tabulate f (suc n)) ≡ (list_any p (tabulate f n) || (p (f n) || false))
any_later p f n = list_any-append p (tabulate f n) (f n ∷ [])

any_here : {X : Type 0} (p : X → Bool) (f : ℕ → X) (n k : ℕ) → k < n → p (f k) ≡ true → list_any p (tabulate f n) ≡ true
any_here p f zero k low h = absurd (omega arith)
any_here p f (suc n) k low h = any_later p f n ∙ elim (cases_eq k n) [
  | inl e ↦ or_right (list_any p (tabulate f n)) (p (f n) || false) (or_left (p (f n)) false (ap (λ (i : ℕ). p (f i)) (sym e) ∙ h))
  | inr other ↦ or_left (list_any p (tabulate f n)) (p (f n) || false) (any_here p f n k (omega arith) h)
]

none_here : {X : Type 0} (p : X → Bool) (f : ℕ → X) (n : ℕ) → ((k : ℕ) → p (f k) ≡ false) → list_any p (tabulate f n) ≡ false
none_here p f zero each = refl
none_here p f (suc n) each = any_later p f n ∙ rw (none_here p f n each, each n) refl

wide_member : {k : ℕ} → KindIs k → (name : List ℕ) (flag a b c : ℕ) → is_struct k ≡ true → flag ≢ 0 → has_width (item_from name k flag a b c) ≡ not (c / 2 ^ 24 == 0)
unfolding item_from
wide_member kind_is name flag a b c is some = grind arith

plain_item : {k : ℕ} → KindIs k → (name : List ℕ) (flag a b c : ℕ) → flag ≡ 0 → has_width (item_from name k flag a b c) ≡ false
unfolding item_from
plain_item kind_is name flag a b c none = grind arith

struct_words : {k : ℕ} → KindIs k → is_struct k ≡ true → item_words k ≡ 3
unfolding item_words
struct_words kind_is is = grind arith

module _ (strings f : List ℕ) (frame : IsFrame f) where
  unmarked : (n : ℕ) → flag f ≡ 0 → list_any has_width (tabulate (item_in strings f) n) ≡ false
  unmarked n none = none_here has_width (item_in strings f) n (λ k. plain_item (known f frame) _ (flag f) _ _ _ none)

  width_at : (k : ℕ) → is_struct (kind f) ≡ true → flag f ≢ 0 → has_width (item_in strings f k) ≡ not (slice_index f (5 + 3 * k) / 2 ^ 24 == 0)
  width_at k is some = grind (arith, struct_words, known, wide_member)

  pub width_found : (k n : ℕ) → is_struct (kind f) ≡ true → flag f ≢ 0 → k < n → slice_index f (5 + 3 * k) / 2 ^ 24 ≢ 0 → list_any has_width (tabulate (item_in strings f) n) ≡ true
  width_found k n is some low wide = any_here has_width (item_in strings f) n k low (width_at k is some ∙ ap not (ne_eqb (slice_index f (5 + 3 * k) / 2 ^ 24) 0 wide))

struct_total : (f : List ℕ) → IsFrame f → is_struct (kind f) ≡ true → item_total f ≡ vlen f
struct_total f frame is = rw (struct_words (known f frame) is) refl

-- what is found in the frame is so of the record
pub bit_fields_same : (strings f : List ℕ) (b : Bool) → IsFrame f → is_struct (kind f) ≡ true → flag f ≢ 0 → BitFieldsAre f b → has_bit_fields (record_of strings f) ≡ b
bit_fields_same strings f true frame is some are =
    let found = are.some refl in
    let at : found.0 ≡ 5 + 3 * found.1.1 = found.1.2.1 ∙ rw (struct_words (known f frame) is) (omega arith) in
    let wide : slice_index f found.0 / 2 ^ 24 ≢ 0 = rw (ne_eqb (flag f) 0 some) at found.2 in
    grind (arith, struct_total, width_found)
bit_fields_same strings f false frame is some are = grind (arith, bit_fields_there)

-- ---- info

other_flag : (h : TypeHead) (flag : ℕ) (b : Bool) → FlagEncodes h flag → is_struct (kind_number h) ≡ false → canonical_flag h b ≡ flag
other_flag h marked b e other = grind arith

cleared : (k v marked : ℕ) → k < 2 ^ 5 → v < 2 ^ 16 → marked ≡ 1 → info k v marked % 2 ^ 31 ≡ info k v 0
cleared k v marked hk hv one = omega arith

total_low : (f : List ℕ) → item_total f < 2 ^ 16
total_low f = elim (decided (item_words (kind f) == 0)) [ inl none ↦ rw none (omega arith) | inr some ↦ rw some (omega arith) ]

module _ (strings f : List ℕ) (r : TypeRecord) (few : length r.items < 2 ^ 16) (s : Encodes strings r f) where
  flag_low : s.flag < 2
  flag_low = flag_below r.head s.flag s.flag_encodes

  parts : InfoParts (info (kind_number r.head) (record_vlen r) s.flag) (kind_number r.head) (record_vlen r) s.flag
  parts = info_parts (kind_number r.head) (record_vlen r) s.flag (kind_below r.head) (vlen_below r.head r.items few) flag_low

  word : info_word f ≡ info (kind_number r.head) (record_vlen r) s.flag
  word = ap (λ (t : List ℕ). slice_index t 1) s.whole

  kind_same : kind f ≡ kind_number r.head
  kind_same = ap kind_of word ∙ (parts).kind

  kept_flag : canonical_flag r.head (has_bit_fields r) ≡ s.flag → info_word f ≡ record_info r
  kept_flag e = word ∙ ap (λ (b : ℕ). info (kind_number r.head) (record_vlen r) b) (sym e)

  -- the flag of other kinds is part of the value
  pub info_of_others : is_struct (kind f) ≡ false → info_word f ≡ record_info r
  info_of_others other = kept_flag (other_flag r.head s.flag (has_bit_fields r) s.flag_encodes (ap is_struct (sym kind_same) ∙ other))

  pub info_unmarked : flag f ≡ 0 → has_bit_fields r ≡ false → info_word f ≡ record_info r
  info_unmarked none plain = grind arith

  pub info_wide : is_struct (kind f) ≡ true → flag f ≢ 0 → has_bit_fields r ≡ true → info_word f ≡ record_info r
  info_wide is some wide = grind arith

  -- a flag that says nothing is cleared
  pub info_cleared : is_struct (kind f) ≡ true → flag f ≢ 0 → has_bit_fields r ≡ false → info_word f % 2 ^ 31 ≡ record_info r
  info_cleared is some none = grind arith

pub items_few : (strings f : List ℕ) → length (record_of strings f).items < 2 ^ 16
items_few strings f = omega (arith, count_there strings f, total_low f)

pub unmarked_record : (strings f : List ℕ) → IsFrame f → flag f ≡ 0 → has_bit_fields (record_of strings f) ≡ false
unmarked_record strings f frame none = unmarked strings f frame (item_total f) none

-- ---- items that have names

named_item : {k : ℕ} → KindIs k → (text_offset : List ℕ → ℕ) (name : List ℕ) (flag a b c : ℕ) → has_item_names k ≡ true → b < 2 ^ 32
    → words_of text_offset (item_from name k flag a b c) ≡ take (item_words k) (text_offset name ∷ b ∷ c ∷ [])
unfolding has_item_names item_words item_from
named_item kind_is text_offset name flag a b c has low = grind arith

-- the bytes of one item more
item_more : (o : Order) (old : List ℕ) (text_offset : List ℕ → ℕ) (item : ℕ → TypeItem) (k : ℕ) (ws : List ℕ) → words_of text_offset (item k) ≡ ws
    → (old ++ bytes_of o (flat_map (words_of text_offset) (tabulate item k))) ++ bytes_of o ws ≡ old ++ bytes_of o (flat_map (words_of text_offset) (tabulate item (k + 1)))
item_more o old text_offset item k ws e = grind (arith, flat_map-append, pushed_two)

abbrev pub items_to : (List ℕ → ℕ) → List ℕ → List ℕ → ℕ → List ℕ
items_to text_offset strings f k = flat_map (words_of text_offset) (tabulate (item_in strings f) k)

pub named_item_more : (o : Order) (old : List ℕ) (text_offset : List ℕ → ℕ) (strings f : List ℕ) (size count k offset at b c : ℕ) → IsFrame f → HasNamedItems f size count
    → offset ≡ slice_index f (3 + size * k) → at ≡ text_offset (text_from strings offset) → b ≡ slice_index f (4 + size * k) → c ≡ slice_index f (5 + size * k)
    → (old ++ bytes_of o (items_to text_offset strings f k)) ++ bytes_of o (take size (at ∷ b ∷ c ∷ [])) ≡ old ++ bytes_of o (items_to text_offset strings f (k + 1))
named_item_more o old text_offset strings f size count k offset at b c frame items offset_is at_is b_is c_is =
    let j : 3 + item_words (kind f) * k ≡ 3 + size * k = rw items.words refl in
    let second : 3 + size * k + 1 ≡ 4 + size * k = omega arith in
    let third : 3 + size * k + 2 ≡ 5 + size * k = omega arith in
    let its : item_in strings f k ≡ item_from (text_from strings offset) (kind f) (flag f) offset b c = rw (j, second, third, offset_is, b_is, c_is) refl in
    let low : b < 2 ^ 32 = rw b_is (frame.words (4 + size * k)) in
    item_more o old text_offset (item_in strings f) k (take size (at ∷ b ∷ c ∷ []))
    (ap (words_of text_offset) its ∙ named_item (known f frame) text_offset (text_from strings offset) (flag f) offset b c items.named low
    ∙ ap (λ (n : ℕ). take n (text_offset (text_from strings offset) ∷ b ∷ c ∷ [])) items.words ∙ ap (λ (p : ℕ). take size (p ∷ b ∷ c ∷ [])) (sym at_is))

-- ---- the rest after the third word, if items have no names

abbrev IsEntry : TypeItem → Type 0
IsEntry (Entry target offset size) = ⊤
IsEntry _ = ⊥

entry_read : {k : ℕ} → KindIs k → (name : List ℕ) (flag a b c : ℕ) → has_item_names k ≡ false → IsEntry (item_from name k flag a b c)
unfolding has_item_names item_from
entry_read IsStruct name flag a b c none = absurd cc
entry_read IsUnion name flag a b c none = absurd cc
entry_read IsEnum name flag a b c none = absurd cc
entry_read IsFuncProto name flag a b c none = absurd cc
entry_read IsEnum64 name flag a b c none = absurd cc
entry_read known name flag a b c none = tt

entries_words : (text_offset : List ℕ → ℕ) (strings : List ℕ) (flag : ℕ) (xs : List TypeItem) (wss : List (List ℕ)) → All IsEntry xs → AllZip (ItemEncodes strings flag) xs wss
    → concat wss ≡ flat_map (words_of text_offset) xs
entries_words text_offset strings flag [] [] is s = refl
entries_words text_offset strings flag [] (ws ∷ wss) is s = absurd s
entries_words text_offset strings flag (x ∷ xs) [] is s = absurd s
entries_words text_offset strings flag (x ∷ xs) (ws ∷ wss) is s = grind (arith, All-head, (entries_words text_offset strings flag xs wss (All-tail IsEntry x xs is) s.1))

pub rest_words : (text_offset : List ℕ → ℕ) (strings f : List ℕ) → IsFrame f → Encodes strings (record_of strings f) f → has_item_names (kind f) ≡ false
    → drop 3 f ≡ record_tail text_offset (record_of strings f)
rest_words text_offset strings f frame s none =
    let r = record_of strings f in
    let entries : All IsEntry r.items = All-tabulate IsEntry (item_in strings f) (item_total f) (λ k low. entry_read (known f frame) _ (flag f) _ _ _ none) in
    ap (drop 3) s.whole ∙ ap (λ (t : List ℕ). head_tail r.head ++ t) (entries_words text_offset strings s.flag r.items s.item_words entries s.items)

pub rest_more : (o : Order) (old f : List ℕ) (k w : ℕ) → 3 + k < length f → w ≡ slice_index f (3 + k)
    → (old ++ bytes_of o (take k (drop 3 f))) ++ word32 o w ≡ old ++ bytes_of o (take (k + 1) (drop 3 f))
rest_more o old f k w low is =
    let next : k + 1 ≡ suc k = omega arith in
    let inside : k < length (drop 3 f) = omega (arith, length-drop 3 f) in
    let here : w ≡ get_or (drop 3 f) k 0 = is ∙ sym (get_or-drop 3 f k 0) in
    grind (arith, common_steps)

-- ---- a record

no_tail : {k : ℕ} → KindIs k → (name : List ℕ) (third flag vlen next fourth fifth : ℕ) → has_item_names k ≡ true → head_tail (head_from name k third flag vlen next fourth fifth) ≡ []
unfolding has_item_names head_from
no_tail kind_is name third flag vlen next fourth fifth has = search rules

pub items_are_tail : (text_offset : List ℕ → ℕ) (strings f : List ℕ) → IsFrame f → has_item_names (kind f) ≡ true
    → record_items text_offset (record_of strings f) ≡ record_tail text_offset (record_of strings f)
items_are_tail text_offset strings f frame has = grind (arith, no_tail, known)

-- the first three words, and what follows them
pub record_pushed : (o : Order) (old : List ℕ) (text_offset : List ℕ → ℕ) (strings f : List ℕ) (at info third : ℕ) → HasNulEnds strings → Encodes strings (record_of strings f) f
    → at ≡ text_offset (text_from strings (name_word f)) → info ≡ record_info (record_of strings f) → third ≡ third_word f
    → (old ++ bytes_of o (at ∷ info ∷ third ∷ [])) ++ bytes_of o (record_tail text_offset (record_of strings f)) ≡ old ++ bytes_of o (record_words text_offset (record_of strings f))
record_pushed o old text_offset strings f at info third ends s ate ie te =
    let r = record_of strings f in
    let name : at ≡ text_offset (head_name r.head) = ate ∙ ap text_offset (sym (head_name_is strings r f ends s)) in
    let size : third ≡ head_third r.head = te ∙ ap (λ (t : List ℕ). slice_index t 2) s.whole in
    grind (arith, common_steps)

-- ---- all records

pub record_more : (to : Order) (text_offset : List ℕ → ℕ) (strings : List ℕ) (frames : List (List ℕ)) (i : ℕ) (frame : List ℕ) → slice_get frames (i + 1 - 1) ≡ Some frame
    → section_of to (map (record_words text_offset) (map (record_of strings) (take i frames))) ++ bytes_of to (record_words text_offset (record_of strings frame))
    ≡ section_of to (map (record_words text_offset) (map (record_of strings) (take (i + 1) frames)))
record_more to text_offset strings frames i frame is =
    let words : List (List ℕ) → List (List ℕ) = λ fs. map (record_words text_offset) (map (record_of strings) fs) in
    let before = take i frames in
    let more : words (before ++ frame ∷ []) ≡ words before ++ record_words text_offset (record_of strings frame) ∷ [] = grind (arith, map-append) in
    sym (ap (λ (fs : List (List ℕ)). section_of to (words fs)) (one_more frames i frame is) ∙ ap (section_of to) more
    ∙ flat_map-append (bytes_of to) (words before) (record_words text_offset (record_of strings frame) ∷ [])
    ∙ ap (λ (t : List ℕ). section_of to (words before) ++ t) (append-nil (bytes_of to (record_words text_offset (record_of strings frame)))))

-- ---- capacity

two_or_three_words : {k : ℕ} → KindIs k → has_item_names k ≡ true → (item_words k ≡ 2) ⊎ (item_words k ≡ 3)
unfolding has_item_names item_words
two_or_three_words kind_is has = grind arith

pub item_size : (f : List ℕ) (size count : ℕ) → IsFrame f → HasNamedItems f size count → (size ≡ 2) ⊎ (size ≡ 3)
item_size f size count frame items = elim (two_or_three_words (known f frame) items.named) [ inl two ↦ inl (sym items.words ∙ two) | inr three ↦ inr (sym items.words ∙ three) ]

-- items are few and short, so that each begins at a small number
pub item_begins : (size k : ℕ) → (size ≡ 2) ⊎ (size ≡ 3) → k < 2 ^ 16 → 3 + size * k < 2 ^ 20
item_begins size k few low = grind arith

pub item_room : (f : List ℕ) (size count k : ℕ) → IsFrame f → HasNamedItems f size count → k < count → (2 ≤ size) × (3 + size * k + size ≤ length f)
item_room f size count k frame items low = grind (arith, room, (item_size f size count frame items))
