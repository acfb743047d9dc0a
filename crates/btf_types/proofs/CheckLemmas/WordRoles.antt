-- The roles of the fields of a record's header, and of those after it by its kind.
use Rattle.std.proofs.Common.{rules, ◌≡◌, ◌⊎◌, ℕ, ◌+◌, ◌-◌, ◌*◌, ◌<◌, ◌≤◌, [], ◌∷◌, inl, inr, refl, sym, subst, lit<, arith}
use Rattle.std.specs.Prelude.{IsTrue}
use Rattle.btf_raw.specs.KindNumbers.{INT, ARRAY, STRUCT, UNION, ENUM, FUNC_PROTO, VAR, DATASEC, DECL_TAG, ENUM64}
use Rattle.btf_raw.specs.Kinds.{one_of, fixed_words, item_words, has_item_names, is_struct}
use Rattle.btf_types.proofs.KindCases.{one_among}
use Rattle.btf_types.proofs.CheckLemmas.Roles.{Role, OwnName, Info, Third, IntWord, Linkage, Component, ItemName, NamedType, MemberType, MemberPlace, Free, word_in_item, PartHasRole, HasRole}
use Rattle.btf_types.proofs.CheckLemmas.RoleSteps.{TwoOrThree, part_is, struct_size, proto_size, datasec_size}

-- ---- the header

pub name_has_role : (kind : ℕ) → HasRole kind 0 OwnName
name_has_role kind = record { is = refl; name = λ e. refl; info = λ e. absurd (omega (arith, e)); third = λ e. absurd (omega (arith, e)); tail = λ h. absurd (omega (arith, h)) }

pub info_has_role : (kind : ℕ) → HasRole kind 1 Info
info_has_role kind = record { is = refl; name = λ e. absurd (omega (arith, e)); info = λ e. refl; third = λ e. absurd (omega (arith, e)); tail = λ h. absurd (omega (arith, h)) }

pub third_has_role : (kind : ℕ) → HasRole kind 2 Third
third_has_role kind = record { is = refl; name = λ e. absurd (omega (arith, e)); info = λ e. absurd (omega (arith, e)); third = λ e. refl; tail = λ h. absurd (omega (arith, h)) }

-- ---- the fields after it

role_from_tail : (κ j : ℕ) (role : Role) → 3 ≤ j → PartHasRole κ (word_in_item κ j) role → HasRole κ j role
role_from_tail κ j OwnName past part = absurd part.is
role_from_tail κ j Info past part = absurd part.is
role_from_tail κ j Third past part = absurd part.is
role_from_tail κ j role past part = record {
  is = (past, part.is);
  name = λ e. absurd (omega arith);
  info = λ e. absurd (omega arith);
  third = λ e. absurd (omega arith);
  tail = λ h. part;
}

-- field j has the role of its part
role_from_part : (κ j m : ℕ) (role : Role) → 3 ≤ j → word_in_item κ j ≡ m → PartHasRole κ m role → HasRole κ j role
role_from_part κ j m role past at part = role_from_tail κ j role past (subst (λ (i : ℕ). PartHasRole κ i role) (sym at) part)

module _ (κ k m j : ℕ) (role : Role) where
  of_two : item_words κ ≡ 2 → m < 2 → j ≡ 3 + 2 * k + m → PartHasRole κ m role → HasRole κ j role
  of_two two low at part = role_from_part κ j m role (omega arith) (part_is κ k m j (inl two) (rw two low) (rw two at)) part

  of_three : item_words κ ≡ 3 → m < 3 → j ≡ 3 + 3 * k + m → PartHasRole κ m role → HasRole κ j role
  of_three three low at part = role_from_part κ j m role (omega arith) (part_is κ k m j (inr three) (rw three low) (rw three at)) part

struct_cases : (κ : ℕ) → IsTrue (is_struct κ) → (κ ≡ STRUCT) ⊎ (κ ≡ UNION)
struct_cases κ h = one_among (λ k. (k ≡ STRUCT) ⊎ (k ≡ UNION)) (STRUCT ∷ UNION ∷ []) κ (inl refl, (inr refl, tt)) h

enum_cases : (κ : ℕ) → IsTrue (one_of (ENUM ∷ ENUM64 ∷ []) κ) → (κ ≡ ENUM) ⊎ (κ ≡ ENUM64)
enum_cases κ h = one_among (λ k. (k ≡ ENUM) ⊎ (k ≡ ENUM64)) (ENUM ∷ ENUM64 ∷ []) κ (inl refl, (inr refl, tt)) h

module _ (κ k : ℕ) (struct : IsTrue (is_struct κ)) where
  pub member_name_role : HasRole κ (3 + 3 * k) ItemName
  unfolding has_item_names
  member_name_role = of_three κ k 0 _ ItemName (struct_size κ struct) (lit< tt) (omega arith)
      (elim (struct_cases κ struct) [ inl e ↦ rw e (search rules) | inr e ↦ rw e (search rules) ])

  pub member_type_role : HasRole κ (3 + 3 * k + 1) MemberType
  unfolding has_item_names
  member_type_role = of_three κ k 1 _ MemberType (struct_size κ struct) (lit< tt) (omega arith)
      (elim (struct_cases κ struct) [ inl e ↦ rw e (search rules) | inr e ↦ rw e (search rules) ])

  pub member_place_role : HasRole κ (3 + 3 * k + 2) MemberPlace
  unfolding has_item_names
  member_place_role = of_three κ k 2 _ MemberPlace (struct_size κ struct) (lit< tt) (omega arith)
      (elim (struct_cases κ struct) [ inl e ↦ rw e (search rules) | inr e ↦ rw e (search rules) ])

module _ (κ k : ℕ) (proto : κ ≡ FUNC_PROTO) where
  pub param_name_role : HasRole κ (3 + 2 * k) ItemName
  unfolding has_item_names
  param_name_role = of_two κ k 0 _ ItemName (proto_size κ proto) (lit< tt) (omega arith) (rw proto (search rules))

  pub param_type_role : HasRole κ (3 + 2 * k + 1) NamedType
  unfolding has_item_names
  param_type_role = of_two κ k 1 _ NamedType (proto_size κ proto) (lit< tt) (omega arith) (rw proto (search rules))

pub enum_size : (κ : ℕ) → IsTrue (one_of (ENUM ∷ ENUM64 ∷ []) κ) → TwoOrThree (item_words κ)
unfolding item_words
enum_size κ enum = elim (enum_cases κ enum) [ inl e ↦ inl (rw e refl) | inr e ↦ inr (rw e refl) ]

pub enum_fixed : (κ : ℕ) → IsTrue (one_of (ENUM ∷ ENUM64 ∷ []) κ) → fixed_words κ ≡ 0
unfolding fixed_words
enum_fixed κ enum = elim (enum_cases κ enum) [ inl e ↦ rw e refl | inr e ↦ rw e refl ]

module _ (κ k : ℕ) (enum : IsTrue (one_of (ENUM ∷ ENUM64 ∷ []) κ)) where
  pub value_name_role : HasRole κ (3 + item_words κ * k) ItemName
  unfolding has_item_names item_words
  value_name_role = elim (enum_cases κ enum) [
    | inl e ↦ rw e (of_two ENUM k 0 _ ItemName refl (lit< tt) (omega arith) (search rules))
    | inr e ↦ rw e (of_three ENUM64 k 0 _ ItemName refl (lit< tt) (omega arith) (search rules))
  ]

  value_free_part : (m : ℕ) → 0 < m → PartHasRole κ m Free
  unfolding has_item_names
  value_free_part m some = elim (enum_cases κ enum) [ inl e ↦ rw e (search rules) | inr e ↦ rw e (search rules) ]

  -- the number of a value may be any
  pub value_free_role : (j : ℕ) → 4 + item_words κ * k ≤ j → j < 3 + item_words κ * (k + 1) → HasRole κ j Free
  unfolding item_words
  value_free_role j past low = elim (enum_cases κ enum) [
    | inl e ↦
        let after : 4 + 2 * k ≤ j = rw e at past in
        let before : j < 3 + 2 * (k + 1) = rw e at low in
        of_two κ k (j - (3 + 2 * k)) j Free (rw e refl) (omega arith) (omega arith) (value_free_part (j - (3 + 2 * k)) (omega arith))
    | inr e ↦
        let after : 4 + 3 * k ≤ j = rw e at past in
        let before : j < 3 + 3 * (k + 1) = rw e at low in
        of_three κ k (j - (3 + 3 * k)) j Free (rw e refl) (omega arith) (omega arith) (value_free_part (j - (3 + 3 * k)) (omega arith))
  ]

module _ (κ k : ℕ) (datasec : κ ≡ DATASEC) where
  pub entry_type_role : HasRole κ (3 + 3 * k) NamedType
  unfolding has_item_names
  entry_type_role = of_three κ k 0 _ NamedType (datasec_size κ datasec) (lit< tt) (omega arith) (rw datasec (search rules))

  entry_free_part : (m : ℕ) → 0 < m → PartHasRole κ m Free
  unfolding has_item_names
  entry_free_part m some = rw datasec (search rules)

  -- the offset and the size of an entry may be any
  pub entry_free_role : (j : ℕ) → 4 + 3 * k ≤ j → j < 6 + 3 * k → HasRole κ j Free
  entry_free_role j past low =
      of_three κ k (j - (3 + 3 * k)) j Free (datasec_size κ datasec) (omega arith) (omega arith) (entry_free_part (j - (3 + 3 * k)) (omega arith))

module _ (κ : ℕ) (array : κ ≡ ARRAY) where
  pub element_role : HasRole κ 3 NamedType
  unfolding has_item_names item_words
  element_role = role_from_part κ 3 0 NamedType (omega arith) (rw array refl) (rw array (search rules))

  pub index_role : HasRole κ 4 NamedType
  unfolding has_item_names item_words
  index_role = role_from_part κ 4 1 NamedType (omega arith) (rw array refl) (rw array (search rules))

  -- the number of elements may be any
  pub count_role : (j : ℕ) → 5 ≤ j → j < 6 → HasRole κ j Free
  unfolding has_item_names item_words
  count_role j past low = role_from_part κ j 2 Free (omega arith) (rw array (omega arith)) (rw array (search rules))

pub int_role : (κ : ℕ) → κ ≡ INT → HasRole κ 3 IntWord
unfolding has_item_names item_words
int_role κ int = role_from_part κ 3 0 IntWord (omega arith) (rw int refl) (rw int (search rules))

pub linkage_role : (κ : ℕ) → κ ≡ VAR → HasRole κ 3 Linkage
unfolding has_item_names item_words
linkage_role κ var = role_from_part κ 3 0 Linkage (omega arith) (rw var refl) (rw var (search rules))

pub component_role : (κ : ℕ) → κ ≡ DECL_TAG → HasRole κ 3 Component
unfolding has_item_names item_words
component_role κ tag = role_from_part κ 3 0 Component (omega arith) (rw tag refl) (rw tag (search rules))
