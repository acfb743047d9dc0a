-- The head that is read from a record's numbers, kind by kind: what it must be so that the numbers encode it and it is valid.
use Rattle.std.proofs.Common.{◌≡◌, ◌≢◌, ◌⊎◌, ℕ, zero, suc, ◌+◌, ◌*◌, ◌^◌, ◌<◌, ◌≤◌, Bool, true, false, List, [], ◌∷◌, length, refl, sym, ap, ◌∙◌, inl, inr, lit<, arith}
use Rattle.std.specs.Prelude.{IsTrue, IfSome, ◌==◌, if◌then◌else◌}
use Rattle.std.specs.List.{All}
use Rattle.std.proofs.lemmas.{Bool.eqb-true, List.Elements.All-nil, List.Elements.All-cons}
use Rattle.btf_raw.specs.{KindNumbers.INT, KindNumbers.ARRAY, KindNumbers.FUNC, KindNumbers.VAR, KindNumbers.DECL_TAG, KindNumbers.FWD, Heads.bit}
use Rattle.btf_raw.specs.Kinds.{one_of, has_flag, has_vlen, fixed_words, item_words, has_target, needs_name, has_no_name}
use Rattle.btf_types.specs.Values.{TypeHead, KFwd, KTypedef, KFunc, KVar, KDatasec, KDeclTag, KTypeTag, TypeItem}
use Rattle.btf_types.specs.{Names.head_name, Valid.HasNeededName, Valid.HeadIsValid, Valid.head_targets}
use Rattle.btf_types.specs.Encoding.{kind_number, head_third, FlagEncodes, linkage_number, encoding_number, component_word, record_vlen, head_tail, HeadInRange}
use Rattle.btf_types.specs.checks.Numbers.{TypeFacts, size_fits, bits_fit, component_fits}
use Rattle.btf_types.specs.Valid as valid
use Rattle.btf_types.specs.checks.FieldFaults.{int_unused, int_encoding, int_offset, int_bits}
use Rattle.btf_types.specs.Reading.{head_from, linkage_of, encoding_of, component_of, is_set}
use Rattle.btf_types.proofs.KindCases.{one_among, KindIs, IsInt, IsPtr, IsArray, IsStruct, IsUnion, IsEnum, IsFwd, IsTypedef, IsVolatile, IsConst, IsRestrict, IsFunc, IsFuncProto, IsVar, IsDatasec, IsDeclTag, IsTypeTag, IsEnum64}

pub kind_of_head : {k : ℕ} → KindIs k → (name : List ℕ) (third flag vlen next fourth fifth : ℕ) → kind_number (head_from name k third flag vlen next fourth fifth) ≡ k
unfolding head_from
kind_of_head IsInt name third flag vlen next fourth fifth = refl
kind_of_head known name third flag vlen next fourth fifth = refl

pub name_of_head : {k : ℕ} → KindIs k → (name : List ℕ) (third flag vlen next fourth fifth : ℕ) → (IsTrue (has_no_name k) → name ≡ []) → head_name (head_from name k third flag vlen next fourth fifth) ≡ name
unfolding head_from has_no_name
name_of_head IsPtr name third flag vlen next fourth fifth none = sym (none refl)
name_of_head IsArray name third flag vlen next fourth fifth none = sym (none refl)
name_of_head IsVolatile name third flag vlen next fourth fifth none = sym (none refl)
name_of_head IsConst name third flag vlen next fourth fifth none = sym (none refl)
name_of_head IsRestrict name third flag vlen next fourth fifth none = sym (none refl)
name_of_head IsFuncProto name third flag vlen next fourth fifth none = sym (none refl)
name_of_head known name third flag vlen next fourth fifth none = refl

pub named_head : (h : TypeHead) → (IsTrue (needs_name (kind_number h)) → head_name h ≢ []) → HasNeededName h
unfolding needs_name
named_head (KFwd name is_union) needed = needed refl
named_head (KTypedef name target) needed = needed refl
named_head (KFunc name linkage target) needed = needed refl
named_head (KVar name target linkage) needed = needed refl
named_head (KDatasec name size) needed = needed refl
named_head (KDeclTag name flag target component) needed = needed refl
named_head (KTypeTag name flag target) needed = needed refl
named_head _ needed = tt

pub third_of_head : {k : ℕ} → KindIs k → (name : List ℕ) (third flag vlen next fourth fifth : ℕ) → (IsTrue (one_of (ARRAY ∷ FWD ∷ []) k) → third ≡ 0) → head_third (head_from name k third flag vlen next fourth fifth) ≡ third
unfolding head_from
third_of_head IsArray name third flag vlen next fourth fifth zeroed = sym (zeroed refl)
third_of_head IsFwd name third flag vlen next fourth fifth zeroed = sym (zeroed refl)
third_of_head known name third flag vlen next fourth fifth zeroed = refl

-- kind_flag
set_bit : (flag : ℕ) → flag < 2 → flag ≡ bit (is_set flag)
set_bit zero h = refl
set_bit (suc zero) h = refl
set_bit (suc (suc n)) h = absurd (omega arith)

unset : (flag : ℕ) → (flag ≡ 0) ⊎ IsTrue false → flag ≡ 0
unset flag (inl e) = e
unset flag (inr h) = absurd cc

pub flag_of_head : {k : ℕ} → KindIs k → (name : List ℕ) (third flag vlen next fourth fifth : ℕ) → flag < 2 → ((flag ≡ 0) ⊎ IsTrue (has_flag k)) → FlagEncodes (head_from name k third flag vlen next fourth fifth) flag
unfolding head_from has_flag
flag_of_head IsStruct name third flag vlen next fourth fifth bound allowed = bound
flag_of_head IsUnion name third flag vlen next fourth fifth bound allowed = bound
flag_of_head IsEnum name third flag vlen next fourth fifth bound allowed = set_bit flag bound
flag_of_head IsFwd name third flag vlen next fourth fifth bound allowed = set_bit flag bound
flag_of_head IsDeclTag name third flag vlen next fourth fifth bound allowed = set_bit flag bound
flag_of_head IsTypeTag name third flag vlen next fourth fifth bound allowed = set_bit flag bound
flag_of_head IsEnum64 name third flag vlen next fourth fifth bound allowed = set_bit flag bound
flag_of_head known name third flag vlen next fourth fifth bound allowed = unset flag allowed

-- vlen, and the fields after the third
linkage_there : (n : ℕ) → n ≤ 2 → linkage_number (linkage_of n) ≡ n
linkage_there zero h = refl
linkage_there (suc zero) h = refl
linkage_there (suc (suc zero)) h = refl
linkage_there (suc (suc (suc n))) h = absurd (omega arith)

encoding_there : (n : ℕ) → IsTrue (one_of (0 ∷ 1 ∷ 2 ∷ 4 ∷ []) n) → encoding_number (encoding_of n) ≡ n
encoding_there n h = one_among (λ m. encoding_number (encoding_of m) ≡ m) (0 ∷ 1 ∷ 2 ∷ 4 ∷ []) n (refl, (refl, (refl, (refl, tt)))) h

component_there : (n : ℕ) → component_word (component_of n) ≡ n
component_there n = split (n == 0xffffffff) refl
  where
    split : (b : Bool) → (n == 0xffffffff) ≡ b → component_word (component_of n) ≡ n
    split true e = rw e (sym (eqb-true n 0xffffffff e))
    split false e = rw e refl

-- the data that follows an INT is composed of its parts
pub record IntIsRight (size word : ℕ) : Type 0 where
  pub unused : int_unused word ≡ 0
  pub encoding : IsTrue (one_of (0 ∷ 1 ∷ 2 ∷ 4 ∷ []) (int_encoding word))
  pub bits : IsTrue (bits_fit size (int_bits word))

int_there : (size word : ℕ) → IntIsRight size word → int_bits word + 2 ^ 16 * int_offset word + 2 ^ 24 * encoding_number (encoding_of (int_encoding word)) ≡ word
int_there size word right =
    let unused = right.unused in
    rw (encoding_there (int_encoding word) right.encoding) (omega arith)

-- the first n of the fields after the third
abbrev pub words_after : ℕ → ℕ → ℕ → ℕ → List ℕ
words_after zero next fourth fifth = []
words_after (suc zero) next fourth fifth = next ∷ []
words_after (suc (suc n)) next fourth fifth = next ∷ fourth ∷ fifth ∷ []

pub tail_of_head : {k : ℕ} → KindIs k → (name : List ℕ) (third flag vlen next fourth fifth : ℕ) → (k ≡ INT → IntIsRight third next) → (k ≡ VAR → next ≤ 2) → head_tail (head_from name k third flag vlen next fourth fifth) ≡ words_after (fixed_words k) next fourth fifth
unfolding head_from fixed_words
tail_of_head IsInt name third flag vlen next fourth fifth int var = ap (λ (w : ℕ). w ∷ []) (int_there third next (int refl))
tail_of_head IsVar name third flag vlen next fourth fifth int var = ap (λ (w : ℕ). w ∷ []) (linkage_there next (var refl))
tail_of_head IsDeclTag name third flag vlen next fourth fifth int var = ap (λ (w : ℕ). w ∷ []) (component_there next)
tail_of_head known name third flag vlen next fourth fifth int var = refl

-- how many items a record has
abbrev pub count_of : ℕ → ℕ → ℕ
count_of k vlen = if item_words k == 0 then 0 else vlen

no_list : (vlen : ℕ) → (vlen ≡ 0) ⊎ IsTrue false → 0 ≡ vlen
no_list vlen (inl e) = sym e
no_list vlen (inr h) = absurd cc

pub vlen_of_head : {k : ℕ} → KindIs k → (name : List ℕ) (third flag vlen next fourth fifth : ℕ) (items : List TypeItem)
    → length items ≡ count_of k vlen → ((vlen ≡ 0) ⊎ IsTrue (has_vlen k)) → (k ≡ FUNC → vlen ≤ 2)
    → record_vlen (record { head = head_from name k third flag vlen next fourth fifth; items = items }) ≡ vlen
unfolding head_from item_words has_vlen
vlen_of_head IsStruct name third flag vlen next fourth fifth items count allowed linkage = count
vlen_of_head IsUnion name third flag vlen next fourth fifth items count allowed linkage = count
vlen_of_head IsEnum name third flag vlen next fourth fifth items count allowed linkage = count
vlen_of_head IsFunc name third flag vlen next fourth fifth items count allowed linkage = linkage_there vlen (linkage refl)
vlen_of_head IsFuncProto name third flag vlen next fourth fifth items count allowed linkage = count
vlen_of_head IsDatasec name third flag vlen next fourth fifth items count allowed linkage = count
vlen_of_head IsEnum64 name third flag vlen next fourth fifth items count allowed linkage = count
vlen_of_head known name third flag vlen next fourth fifth items count allowed linkage = count ∙ no_list vlen allowed

-- ---- what makes it valid

pub range_of_head : {k : ℕ} → KindIs k → (name : List ℕ) (third flag vlen next fourth fifth : ℕ) → third < 2 ^ 32 → next < 2 ^ 32 → fourth < 2 ^ 32 → fifth < 2 ^ 32
    → (k ≡ DECL_TAG → IfSome (component_of next) (λ c. c < 2 ^ 16)) → HeadInRange (head_from name k third flag vlen next fourth fifth)
unfolding head_from
range_of_head IsInt name third flag vlen next fourth fifth a b c d component = (a, omega arith, omega arith)
range_of_head IsArray name third flag vlen next fourth fifth a b c d component = (b, c, d)
range_of_head IsFwd name third flag vlen next fourth fifth a b c d component = lit< tt
range_of_head IsDeclTag name third flag vlen next fourth fifth a b c d component = (a, component refl)
range_of_head known name third flag vlen next fourth fifth a b c d component = a

pub targets_of_head : {k : ℕ} → KindIs k → (P : ℕ → Type 0) (name : List ℕ) (third flag vlen next fourth fifth : ℕ) → (IsTrue (has_target k) → P third) → (k ≡ ARRAY → P next) → (k ≡ ARRAY → P fourth)
    → All P (head_targets (head_from name k third flag vlen next fourth fifth))
unfolding head_from has_target
targets_of_head IsPtr P name third flag vlen next fourth fifth a b c = All-cons P third [] (a refl) (All-nil P)
targets_of_head IsArray P name third flag vlen next fourth fifth a b c = All-cons P next (fourth ∷ []) (b refl) (All-cons P fourth [] (c refl) (All-nil P))
targets_of_head IsTypedef P name third flag vlen next fourth fifth a b c = All-cons P third [] (a refl) (All-nil P)
targets_of_head IsVolatile P name third flag vlen next fourth fifth a b c = All-cons P third [] (a refl) (All-nil P)
targets_of_head IsConst P name third flag vlen next fourth fifth a b c = All-cons P third [] (a refl) (All-nil P)
targets_of_head IsRestrict P name third flag vlen next fourth fifth a b c = All-cons P third [] (a refl) (All-nil P)
targets_of_head IsFunc P name third flag vlen next fourth fifth a b c = All-cons P third [] (a refl) (All-nil P)
targets_of_head IsFuncProto P name third flag vlen next fourth fifth a b c = All-cons P third [] (a refl) (All-nil P)
targets_of_head IsVar P name third flag vlen next fourth fifth a b c = All-cons P third [] (a refl) (All-nil P)
targets_of_head IsDeclTag P name third flag vlen next fourth fifth a b c = All-cons P third [] (a refl) (All-nil P)
targets_of_head IsTypeTag P name third flag vlen next fourth fifth a b c = All-cons P third [] (a refl) (All-nil P)
targets_of_head known P name third flag vlen next fourth fifth a b c = All-nil P

pub valid_head : {k : ℕ} → KindIs k → (types : List TypeFacts) (name : List ℕ) (third flag vlen next fourth fifth : ℕ) → (k ≡ INT → IntIsRight third next)
    → (k ≡ DECL_TAG → IfSome (component_of next) (λ c. IsTrue (component_fits types third c))) → HeadIsValid types (head_from name k third flag vlen next fourth fifth)
unfolding head_from
valid_head IsInt types name third flag vlen next fourth fifth int component = (int refl).bits
valid_head IsDeclTag types name third flag vlen next fourth fifth int component = component refl
valid_head known types name third flag vlen next fourth fifth int component = tt

-- the size is checked against the number of items if that matters
pub size_of_count : {k : ℕ} → KindIs k → (size vlen count : ℕ) → count ≡ count_of k vlen → IsTrue (size_fits k size vlen) → IsTrue (size_fits k size count)
unfolding size_fits item_words
size_of_count IsEnum size vlen count is fits = rw is fits
size_of_count IsEnum64 size vlen count is fits = rw is fits
size_of_count known size vlen count is fits = fits

-- what other records ask of it
pub offset_of_head : {k : ℕ} → KindIs k → (name : List ℕ) (third flag vlen next fourth fifth : ℕ) → valid.head_int_offset (head_from name k third flag vlen next fourth fifth) ≡ (if k == INT then int_offset next else 0)
unfolding head_from
offset_of_head IsInt name third flag vlen next fourth fifth = refl
offset_of_head known name third flag vlen next fourth fifth = refl

pub bits_of_head : {k : ℕ} → KindIs k → (name : List ℕ) (third flag vlen next fourth fifth : ℕ) → valid.head_int_bits (head_from name k third flag vlen next fourth fifth) ≡ (if k == INT then int_bits next else 0)
unfolding head_from
bits_of_head IsInt name third flag vlen next fourth fifth = refl
bits_of_head known name third flag vlen next fourth fifth = refl

pub count_is : {k : ℕ} → KindIs k → (vlen : ℕ) → ((vlen ≡ 0) ⊎ IsTrue (has_vlen k)) → count_of k vlen ≡ (if k == FUNC then 0 else vlen)
unfolding item_words has_vlen
count_is IsStruct vlen allowed = refl
count_is IsUnion vlen allowed = refl
count_is IsEnum vlen allowed = refl
count_is IsFunc vlen allowed = refl
count_is IsFuncProto vlen allowed = refl
count_is IsDatasec vlen allowed = refl
count_is IsEnum64 vlen allowed = refl
count_is known vlen allowed = no_list vlen allowed

-- the fields of all items are the same by vlen and by the number of items, which is 0 for kinds without items
pub room_of_items : {k : ℕ} → KindIs k → (vlen : ℕ) → item_words k * count_of k vlen ≡ item_words k * vlen
unfolding item_words
room_of_items IsInt vlen = omega arith
room_of_items known vlen = omega arith
