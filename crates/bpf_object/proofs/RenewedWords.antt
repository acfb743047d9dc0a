-- Which fields of a record are types.
use Rattle.std.proofs.Common.{◌≡◌, ◌⊎◌, ℕ, ◌+◌, ◌-◌, ◌*◌, ◌%◌, ◌<◌, ◌≤◌, ◌==◌, true, false, [], ◌∷◌, inl, inr, refl, ap, ◌∙◌, arith}
use Rattle.std.specs.Prelude.{IsTrue, nat_le}
use Rattle.std.proofs.lemmas.Bool.{ne_eqb}
use Rattle.btf_raw.specs.KindNumbers.{INT, ARRAY, STRUCT, UNION, ENUM, FWD, FUNC, FUNC_PROTO, DATASEC, DECL_TAG, ENUM64}
use Rattle.btf_raw.specs.Kinds.{one_of, has_target, is_struct, item_words, has_item_names}
use Rattle.btf_types.specs.checks.Numbers.{size_fits}
use Rattle.btf_types.proofs.KindCases.{KindIs, IsPtr, IsStruct, IsUnion, IsEnum, IsTypedef, IsVolatile, IsConst, IsRestrict, IsFunc, IsFuncProto, IsVar, IsDeclTag, IsTypeTag, IsEnum64, one_among}
use Rattle.bpf_object.specs.TypeOrder.{is_type_word}
use Rattle.bpf_object.proofs.ReadBackTests.{most_test}

-- a field after the first three, by its place in an item
module _ (j m : ℕ) (from : 3 ≤ j) where
  not_third : (j == 2) ≡ false
  not_third = ne_eqb j 2 (λ e. omega (arith, from, e))

  after : nat_le 3 j ≡ true
  after = most_test 3 j from

  struct_word : (j - 3) % 3 ≡ m → is_type_word STRUCT j ≡ (m == 1)
  struct_word at = rw (not_third, after, at) refl

  union_word : (j - 3) % 3 ≡ m → is_type_word UNION j ≡ (m == 1)
  union_word at = rw (not_third, after, at) refl

  param_word : (j - 3) % 2 ≡ m → is_type_word FUNC_PROTO j ≡ (m == 1)
  param_word at = rw (not_third, after, at) refl

  entry_word : (j - 3) % 3 ≡ m → is_type_word DATASEC j ≡ (m == 0)
  entry_word at = rw (not_third, after, at) refl

  enum_word : is_type_word ENUM j ≡ false
  enum_word = rw not_third refl

  enum64_word : is_type_word ENUM64 j ≡ false
  enum64_word = rw not_third refl

of_three : (j a m : ℕ) → j ≡ 3 + 3 * a + m → m < 3 → (j - 3) % 3 ≡ m
of_three j a m at lt = omega (arith, at, lt)

of_two : (j a m : ℕ) → j ≡ 3 + 2 * a + m → m < 2 → (j - 3) % 2 ≡ m
of_two j a m at lt = omega (arith, at, lt)

-- ---- by kinds

-- the name of an item is none
pub name_no_type : (k j a : ℕ) → KindIs k → IsTrue (has_item_names k) → j ≡ 3 + item_words k * a + 0 → is_type_word k j ≡ false
unfolding has_item_names item_words
name_no_type k j a IsStruct has at = struct_word j 0 (omega (arith, at)) (of_three j a 0 at (omega arith))
name_no_type k j a IsUnion has at = union_word j 0 (omega (arith, at)) (of_three j a 0 at (omega arith))
name_no_type k j a IsEnum has at = enum_word j 0 (omega (arith, at))
name_no_type k j a IsFuncProto has at = param_word j 0 (omega (arith, at)) (of_two j a 0 at (omega arith))
name_no_type k j a IsEnum64 has at = enum64_word j 0 (omega (arith, at))
name_no_type k j a is has at = absurd cc

struct_three : item_words STRUCT ≡ 3
unfolding item_words
struct_three = refl

union_three : item_words UNION ≡ 3
unfolding item_words
union_three = refl

proto_two : item_words FUNC_PROTO ≡ 2
unfolding item_words
proto_two = refl

entry_three : item_words DATASEC ≡ 3
unfolding item_words
entry_three = refl

-- a field of a member
pub member_word : (k j a m : ℕ) → is_struct k ≡ true → j ≡ 3 + item_words k * a + m → m < 3 → is_type_word k j ≡ (m == 1)
member_word k j a m is at lt =
    one_among (λ k. j ≡ 3 + item_words k * a + m → is_type_word k j ≡ (m == 1)) (STRUCT ∷ UNION ∷ []) k (
      (λ at. struct_word j m (omega (arith, at)) (of_three j a m (at ∙ ap (λ (w : ℕ). 3 + w * a + m) struct_three) lt)),
      ((λ at. union_word j m (omega (arith, at)) (of_three j a m (at ∙ ap (λ (w : ℕ). 3 + w * a + m) union_three) lt)), tt),
    ) is at

-- the types of members and parameters
pub item_type : (k j a : ℕ) → one_of (STRUCT ∷ UNION ∷ FUNC_PROTO ∷ []) k ≡ true → j ≡ 3 + item_words k * a + 1 → is_type_word k j ≡ true
item_type k j a is at =
    one_among (λ k. j ≡ 3 + item_words k * a + 1 → is_type_word k j ≡ true) (STRUCT ∷ UNION ∷ FUNC_PROTO ∷ []) k (
      (λ at. struct_word j 1 (omega (arith, at)) (of_three j a 1 (at ∙ ap (λ (w : ℕ). 3 + w * a + 1) struct_three) (omega arith))),
      (
        (λ at. union_word j 1 (omega (arith, at)) (of_three j a 1 (at ∙ ap (λ (w : ℕ). 3 + w * a + 1) union_three) (omega arith))),
        ((λ at. param_word j 1 (omega (arith, at)) (of_two j a 1 (at ∙ ap (λ (w : ℕ). 3 + w * a + 1) proto_two) (omega arith))), tt),
      ),
    ) is at

-- and those of entries
pub entry_type : (k j a : ℕ) → k ≡ DATASEC → j ≡ 3 + item_words k * a + 0 → is_type_word k j ≡ true
entry_type k j a is at =
    ap (λ (k : ℕ). is_type_word k j) is
    ∙ entry_word j 0 (omega (arith, at)) (of_three j a 0 (at ∙ ap (λ (k : ℕ). 3 + item_words k * a + 0) is ∙ ap (λ (w : ℕ). 3 + w * a + 0) entry_three) (omega arith))

-- ---- size or type

pub struct_no_target : (k : ℕ) → is_struct k ≡ true → has_target k ≡ false
unfolding has_target
struct_no_target k is = one_among (λ k. has_target k ≡ false) (STRUCT ∷ UNION ∷ []) k (refl, (refl, tt)) is

pub zero_no_target : (k : ℕ) → one_of (ARRAY ∷ FWD ∷ []) k ≡ true → has_target k ≡ false
unfolding has_target
zero_no_target k is = one_among (λ k. has_target k ≡ false) (ARRAY ∷ FWD ∷ []) k (refl, (refl, tt)) is

-- the types of an ARRAY
pub array_word : (j : ℕ) → (j ≡ 3) ⊎ (j ≡ 4) → is_type_word ARRAY j ≡ true
array_word j (inl e) = ap (is_type_word ARRAY) e
array_word j (inr e) = ap (is_type_word ARRAY) e

pub target_sizes : (k x v : ℕ) → KindIs k → has_target k ≡ true → size_fits k x v ≡ true
unfolding has_target size_fits
target_sizes k x v IsPtr has = refl
target_sizes k x v IsTypedef has = refl
target_sizes k x v IsVolatile has = refl
target_sizes k x v IsConst has = refl
target_sizes k x v IsRestrict has = refl
target_sizes k x v IsFunc has = refl
target_sizes k x v IsFuncProto has = refl
target_sizes k x v IsVar has = refl
target_sizes k x v IsDeclTag has = refl
target_sizes k x v IsTypeTag has = refl
target_sizes k x v is has = absurd cc

pub func_has_type : has_target FUNC ≡ true
unfolding has_target
func_has_type = refl

pub tag_has_type : has_target DECL_TAG ≡ true
unfolding has_target
tag_has_type = refl

pub int_has_size : has_target INT ≡ false
unfolding has_target
int_has_size = refl
