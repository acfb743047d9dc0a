-- The 19 kinds, one by one: for proofs by cases on a kind.
use Rattle.std.proofs.Common.{◌≡◌, ℕ, true, List, [], ◌∷◌, inl, inr, sym, subst}
use Rattle.std.specs.Prelude.{IsTrue, ◌==◌, ⊤}
use Rattle.std.proofs.lemmas.Bool.{or_cases, eqb-true}
use Rattle.btf_raw.specs.KindNumbers.{INT, PTR, ARRAY, STRUCT, UNION, ENUM, FWD, TYPEDEF, VOLATILE, CONST, RESTRICT, FUNC, FUNC_PROTO, VAR, DATASEC, FLOAT, DECL_TAG, TYPE_TAG, ENUM64}
use Rattle.btf_raw.specs.Kinds.{one_of, is_kind, has_item_names, layouts}
use Rattle.btf_raw.proofs.KindRows.{OfEachRow, kind_numbers, named_row}

pub data KindIs : ℕ → Type 0 where
  IsInt : KindIs INT
  IsPtr : KindIs PTR
  IsArray : KindIs ARRAY
  IsStruct : KindIs STRUCT
  IsUnion : KindIs UNION
  IsEnum : KindIs ENUM
  IsFwd : KindIs FWD
  IsTypedef : KindIs TYPEDEF
  IsVolatile : KindIs VOLATILE
  IsConst : KindIs CONST
  IsRestrict : KindIs RESTRICT
  IsFunc : KindIs FUNC
  IsFuncProto : KindIs FUNC_PROTO
  IsVar : KindIs VAR
  IsDatasec : KindIs DATASEC
  IsFloat : KindIs FLOAT
  IsDeclTag : KindIs DECL_TAG
  IsTypeTag : KindIs TYPE_TAG
  IsEnum64 : KindIs ENUM64

-- what holds of each number of a list holds of one of them
abbrev pub OfEach : (ℕ → Type 0) → List ℕ → Type 0
OfEach P [] = ⊤
OfEach P (n ∷ ns) = P n × OfEach P ns

pub one_among : (P : ℕ → Type 0) (ns : List ℕ) (k : ℕ) → OfEach P ns → one_of ns k ≡ true → P k
one_among P [] k each h = absurd cc
one_among P (n ∷ ns) k each h = elim (or_cases (k == n) (one_of ns k) h) [
  | inl e ↦ subst P (sym (eqb-true k n e)) each.0
  | inr r ↦ one_among P ns k each.1 r
]

each_kind : OfEachRow KindIs layouts
each_kind =
    (IsInt, (IsPtr, (IsArray, (IsStruct, (IsUnion, (IsEnum, (IsFwd, (IsTypedef, (IsVolatile, (IsConst, (IsRestrict, (IsFunc, (IsFuncProto, (IsVar, (IsDatasec, (IsFloat, (IsDeclTag, (IsTypeTag, (IsEnum64, tt)))))))))))))))))))

pub kind_is : (k : ℕ) → IsTrue (is_kind k) → KindIs k
unfolding is_kind
kind_is k h = one_among KindIs kind_numbers k each_kind h

-- only kinds have items with names
pub named_kind : (k : ℕ) → IsTrue (has_item_names k) → KindIs k
named_kind k h = named_row KindIs k each_kind h
