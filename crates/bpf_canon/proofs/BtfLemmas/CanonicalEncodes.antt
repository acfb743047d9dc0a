-- The canonical bytes of valid records encode them, with the string table as string section.
use Rattle.std.proofs.Common.{◌≡◌, ℕ, ◌^◌, ◌<◌, ◌≤◌, Bool, true, List, [], ◌∷◌, ◌++◌, length, map, refl, ap, lit<, arith, rules}
use Rattle.std.proofs.lemmas.Grind.{common_steps}
use Rattle.std.specs.List.{All, AllZip, concat, flat_map, list_any}
use Rattle.std.proofs.lemmas.Bool.{or_left, or_right}
use Rattle.std.proofs.lemmas.List.Elements.{All-nil, All-cons, All-head, All-tail, All-append}
use Rattle.btf_raw.specs.{Header.STRINGS_LIMIT, Names.NameAt}
use Rattle.btf_raw.proofs.{Texts.TextAt-inside, Frames.IsWords}
use Rattle.btf_types.specs.Values.{TypeHead, KStruct, TypeItem, Member, TypeRecord}
use Rattle.btf_types.specs.Names.{IsName, head_name, item_name, record_names}
use Rattle.btf_types.specs.{strings.StringTable.string_table, checks.Numbers.TypeFacts}
use Rattle.btf_types.specs.Encoding.{kind_number, head_third, FlagEncodes, record_vlen, info, head_tail, ItemEncodes, Encodes, HeadInRange, ItemInRange}
use Rattle.btf_types.specs.Valid.{ItemOf, has_width, has_bit_fields, MemberIsValid, IsValidRecord, IsValid}
use Rattle.btf_types.proofs.{Encoded.kind_below, Encoded.vlen_below, Encoded.flag_below, StringLemmas.TableLaws.shared_offsets}
use Rattle.bpf_canon.specs.btf.CanonicalBtf.{canonical_flag, words_of_item, record_words, canonical_frames}

-- ---- lists

pub All-front : {X : Type 0} (P : X → Type 0) (xs ys : List X) → All P (xs ++ ys) → All P xs
All-front P [] ys all = All-nil P
All-front P (x ∷ xs) ys all = All-cons P x xs (All-head P x (xs ++ ys) all) (All-front P xs ys (All-tail P x (xs ++ ys) all))

pub All-back : {X : Type 0} (P : X → Type 0) (xs ys : List X) → All P (xs ++ ys) → All P ys
All-back P [] ys all = all
All-back P (x ∷ xs) ys all = All-back P xs ys (All-tail P x (xs ++ ys) all)

IsWords-nil : IsWords []
IsWords-nil i = lit< tt

IsWords-cons : (w : ℕ) (ws : List ℕ) → w < 2 ^ 32 → IsWords ws → IsWords (w ∷ ws)
IsWords-cons w ws h all i = grind arith

IsWords-append : (xs ys : List ℕ) → IsWords xs → IsWords ys → IsWords (xs ++ ys)
IsWords-append xs ys all more = grind (arith, common_steps)

fits_one : (a : ℕ) → a < 2 ^ 32 → IsWords (a ∷ [])
fits_one a ha = IsWords-cons a [] ha IsWords-nil

fits_two : (a b : ℕ) → a < 2 ^ 32 → b < 2 ^ 32 → IsWords (a ∷ b ∷ [])
fits_two a b ha hb = IsWords-cons a (b ∷ []) ha (fits_one b hb)

fits_three : (a b c : ℕ) → a < 2 ^ 32 → b < 2 ^ 32 → c < 2 ^ 32 → IsWords (a ∷ b ∷ c ∷ [])
fits_three a b c ha hb hc = IsWords-cons a (b ∷ c ∷ []) ha (fits_two b c hb hc)

concat-map : {X : Type 0} (f : X → List ℕ) (xs : List X) → concat (map f xs) ≡ flat_map f xs
concat-map f [] = refl
concat-map f (x ∷ xs) = ap (λ (t : List ℕ). f x ++ t) (concat-map f xs)

-- ---- a head

pub flag_encodes : (h : TypeHead) (bit_fields : Bool) → FlagEncodes h (canonical_flag h bit_fields)
flag_encodes h bit_fields = grind arith

pub third_below : (h : TypeHead) → HeadInRange h → head_third h < 2 ^ 32
third_below h range = grind arith

tail_fits : (h : TypeHead) → HeadInRange h → IsWords (head_tail h)
tail_fits h range = grind arith

-- ---- an item

-- an item of a valid record, whose name is at its offset
pub record IsItemEncoded (strings : List ℕ) (text_offset : List ℕ → ℕ) (flag : ℕ) (x : TypeItem) : Type 0 where
  pub encodes : ItemEncodes strings flag x (words_of_item text_offset x)
  pub fits : IsWords (words_of_item text_offset x)

module _ (strings : List ℕ) (text_offset : List ℕ → ℕ) (types : List TypeFacts) (h : TypeHead) (size : ℕ) (b : Bool) (short : length strings ≤ STRINGS_LIMIT) where
  place_below : (x : List ℕ) → NameAt strings (text_offset x) x → text_offset x < 2 ^ 32
  place_below x at = omega (arith, short, TextAt-inside strings (text_offset x) x at.text)

  two_words : (name : List ℕ) (value : ℕ) → NameAt strings (text_offset name) name → value < 2 ^ 32 → IsWords (text_offset name ∷ value ∷ [])
  two_words name value at low = fits_two (text_offset name) value (place_below name at) low

item_is_encoded : (strings : List ℕ) (text_offset : List ℕ → ℕ) (types : List TypeFacts) (h : TypeHead) (size : ℕ) (b : Bool) → length strings ≤ STRINGS_LIMIT
    → (x : TypeItem) → ItemOf h x → ItemInRange x → MemberIsValid types size b x → (has_width x ≡ true → b ≡ true) → NameAt strings (text_offset (item_name x)) (item_name x)
    → IsItemEncoded strings text_offset (canonical_flag h b) x
item_is_encoded strings text_offset types (KStruct name size') size b short (Member n t o w) of range valid some at = grind (arith, common_steps)
item_is_encoded strings text_offset types h size b short x of range valid some at = grind (arith, common_steps)

-- ---- the items of a record

record AreItemsEncoded (strings : List ℕ) (text_offset : List ℕ → ℕ) (flag : ℕ) (xs : List TypeItem) : Type 0 where
  encodes : AllZip (ItemEncodes strings flag) xs (map (words_of_item text_offset) xs)
  fits : IsWords (flat_map (words_of_item text_offset) xs)

items_are_encoded : (strings : List ℕ) (text_offset : List ℕ → ℕ) (types : List TypeFacts) (h : TypeHead) (size : ℕ) (b : Bool) → length strings ≤ STRINGS_LIMIT
    → (xs : List TypeItem) → All (ItemOf h) xs → All ItemInRange xs → All (MemberIsValid types size b) xs → (list_any has_width xs ≡ true → b ≡ true)
    → All (λ n. NameAt strings (text_offset n) n) (map item_name xs) → AreItemsEncoded strings text_offset (canonical_flag h b) xs
items_are_encoded strings text_offset types h size b short [] of range valid some at = record { encodes = tt; fits = IsWords-nil }
items_are_encoded strings text_offset types h size b short (x ∷ xs) of range valid some at =
    let one = item_is_encoded strings text_offset types h size b short x (All-head (ItemOf h) x xs of) (All-head ItemInRange x xs range) (All-head (MemberIsValid types size b) x xs valid)
    (λ e. some (or_left _ _ e)) (All-head (λ n. NameAt strings (text_offset n) n) (item_name x) (map item_name xs) at) in
    let rest = items_are_encoded strings text_offset types h size b short xs (All-tail (ItemOf h) x xs of) (All-tail ItemInRange x xs range) (All-tail (MemberIsValid types size b) x xs valid)
    (λ e. some (or_right _ _ e)) (All-tail (λ n. NameAt strings (text_offset n) n) (item_name x) (map item_name xs) at) in
    record { encodes = (one.encodes, rest.encodes); fits = IsWords-append (words_of_item text_offset x) (flat_map (words_of_item text_offset) xs) one.fits rest.fits }

-- ---- records

-- a valid record whose names are at their offsets
pub record_encodes : (strings : List ℕ) (text_offset : List ℕ → ℕ) (types : List TypeFacts) (r : TypeRecord) → length strings ≤ STRINGS_LIMIT → IsValidRecord types r
    → All (λ n. NameAt strings (text_offset n) n) (record_names r) → Encodes strings r (record_words text_offset r)
record_encodes strings text_offset types r short valid at =
    let name = All-head (λ n. NameAt strings (text_offset n) n) (head_name r.head) (map item_name r.items) at in
    let b = has_bit_fields r in
    let flag = canonical_flag r.head b in
    let items = items_are_encoded strings text_offset types r.head (head_third r.head) b short r.items valid.items_of valid.items_in_range valid.members (λ e. e)
    (All-tail (λ n. NameAt strings (text_offset n) n) (head_name r.head) (map item_name r.items) at) in
    let low = flag_below r.head flag (flag_encodes r.head b) in
    let word : info (kind_number r.head) (record_vlen r) flag < 2 ^ 32 = omega (arith, kind_below r.head, vlen_below r.head r.items valid.items_fit, low) in
    record {
      head_in_range = valid.head_in_range;
      items_in_range = valid.items_in_range;
      items_fit = valid.items_fit;
      name_offset = text_offset (head_name r.head);
      flag = flag;
      item_words = map (words_of_item text_offset) r.items;
      name = name;
      flag_encodes = flag_encodes r.head b;
      items = items.encodes;
      whole = rw (concat-map (words_of_item text_offset) r.items) refl;
      fit =
          IsWords-append
          (text_offset (head_name r.head) ∷ info (kind_number r.head) (record_vlen r) flag ∷ head_third r.head ∷ [])
          (head_tail r.head ++ flat_map (words_of_item text_offset) r.items)
          (fits_three (text_offset (head_name r.head)) (info (kind_number r.head) (record_vlen r) flag) (head_third r.head)
          (place_below strings text_offset types r.head 0 b short (head_name r.head) name) word (third_below r.head valid.head_in_range))
          (IsWords-append (head_tail r.head) (flat_map (words_of_item text_offset) r.items) (tail_fits r.head valid.head_in_range) items.fits);
    }

pub records_encode : (strings : List ℕ) (text_offset : List ℕ → ℕ) (types : List TypeFacts) (v : List TypeRecord) → length strings ≤ STRINGS_LIMIT → All (IsValidRecord types) v
    → All (λ n. NameAt strings (text_offset n) n) (flat_map record_names v) → AllZip (Encodes strings) v (map (record_words text_offset) v)
records_encode strings text_offset types [] short valid at = tt
records_encode strings text_offset types (r ∷ v) short valid at = (
  record_encodes strings text_offset types r short (All-head (IsValidRecord types) r v valid) (All-front (λ n. NameAt strings (text_offset n) n) (record_names r) (flat_map record_names v) at),
  records_encode strings text_offset types v short (All-tail (IsValidRecord types) r v valid) (All-back (λ n. NameAt strings (text_offset n) n) (record_names r) (flat_map record_names v) at),
)

pub all_names : (types : List TypeFacts) (v : List TypeRecord) → All (IsValidRecord types) v → All IsName (flat_map record_names v)
all_names types [] valid = All-nil IsName
all_names types (r ∷ v) valid =
    All-append IsName (record_names r) (flat_map record_names v) (All-head (IsValidRecord types) r v valid).names (all_names types v (All-tail (IsValidRecord types) r v valid))

-- likewise a valid list, with names at their offsets in its string table
pub frames_encode : (v : List TypeRecord) → IsValid v → AllZip (Encodes (string_table v)) v (canonical_frames v)
frames_encode v valid = search (rules, records_encode, shared_offsets, all_names)
