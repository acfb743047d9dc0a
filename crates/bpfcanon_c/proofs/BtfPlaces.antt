-- Where the types and items of a file are, and of which kind the items are.
use Rattle.std.proofs.Common.{◌≡◌, ◌<◌, ◌+◌, ◌*◌, ◌++◌, ◌∙◌, ℕ, suc, Some, List, [], ◌∷◌, length, take, refl, ap, arith, length-append, length-take-le, subst, zero-add}
use Rattle.std.specs.Prelude.{All, slice_get}
use Rattle.std.specs.List.{flat_map, sum_by}
use Rattle.std.proofs.Math.Nat.{mul-suc, mul_assoc}
use Rattle.std.proofs.lemmas.List.{append-nil}
use Rattle.std.proofs.lemmas.List.Concat.{flat_map-append}
use Rattle.std.proofs.lemmas.List.Elements.{All-get_or, All-head}
use Rattle.std.proofs.lemmas.List.Sums.{sum_by-cons, sum_by_push}
use Rattle.std.proofs.lemmas.Option.{get_or_from_slice_get}
use Rattle.btf_raw.specs.Kinds.{fixed_words, item_words}
use Rattle.btf_types.specs.Values.{TypeHead, KStruct, KUnion, KEnum, KFuncProto, KDatasec, KEnum64, TypeItem, Member, EnumValue, Value64, Param, Entry, TypeRecord}
use Rattle.btf_types.specs.Valid.{IsValid, IsValidRecord, ItemOf, facts, record_size}
use Rattle.btf_types.specs.{Encoding.kind_number, tables.TableWords.record_at}
use Rattle.btf_types.proofs.Encoded.{fixed_is}
use Rattle.bpfcanon_c.specs.BtfRows.{PlacedType, item_parts, items_from, items_of, placed, placed_items}
use Rattle.bpfcanon_c.specs.BtfRest.{head_bytes, item_bytes, item_kind}
use Rattle.bpfcanon_c.proofs.BtfRows.{more_at, record_is}

-- ---- one type or item more

placed_push : (at first : ℕ) (v : List TypeRecord) (r : TypeRecord) → placed at first (v ++ r ∷ [])
    ≡ placed at first v ++ record { at = at + sum_by record_size v; first = first + length (items_of v); type = r } ∷ []
placed_push at first [] r = ap (λ (n : ℕ). record { at = n; first = first; type = r } ∷ []) (omega arith) ∙ ap (λ (n : ℕ). record { at = at + 0; first = n; type = r } ∷ []) (omega arith)
placed_push at first (x ∷ v) r =
    let next = at + record_size x in
    let before = first + length x.items in
    let here : next + sum_by record_size v ≡ at + sum_by record_size (x ∷ v) = omega (arith, sum_by-cons record_size x v) in
    let items : before + length (items_of v) ≡ first + length (items_of (x ∷ v)) = omega (arith, length-append x.items (items_of v)) in
    ap (λ (rest : List PlacedType). record { at = at; first = first; type = x } ∷ rest)
    (placed_push next before v r
    ∙ ap (λ (n : ℕ). placed next before v ++ record { at = n; first = before + length (items_of v); type = r } ∷ []) here
    ∙ ap (λ (n : ℕ). placed next before v ++ record { at = at + sum_by record_size (x ∷ v); first = n; type = r } ∷ []) items)

pub placed_more : (at : ℕ) (v : List TypeRecord) (k : ℕ) → k < length v → placed at 0 (take (k + 1) v)
    ≡ placed at 0 (take k v) ++ record { at = at + sum_by record_size (take k v); first = length (items_of (take k v)); type = record_at v (k + 1) } ∷ []
placed_more at v k h =
    let r = record_at v (k + 1) in
    let before = take k v in
    ap (placed at 0) (more_at v k r h (record_is v k h)) ∙ placed_push at 0 before r
    ∙ ap (λ (n : ℕ). placed at 0 before ++ record { at = at + sum_by record_size before; first = n; type = r } ∷ []) (zero-add (length (items_of before)))

pub sizes_more : (v : List TypeRecord) (k : ℕ) → k < length v → sum_by record_size (take (k + 1) v) ≡ sum_by record_size (take k v) + record_size (record_at v (k + 1))
sizes_more v k h =
    let r = record_at v (k + 1) in
    ap (λ (x : List TypeRecord). sum_by record_size x) (more_at v k r h (record_is v k h)) ∙ sum_by_push record_size (take k v) r

pub length-placed : (at first : ℕ) (v : List TypeRecord) → length (placed at first v) ≡ length v
length-placed at first [] = refl
length-placed at first (r ∷ v) = ap suc (length-placed (at + record_size r) (first + length r.items) v)

items_push : (at len : ℕ) (is : List TypeItem) (i : TypeItem) → items_from at len (is ++ i ∷ []) ≡ items_from at len is ++ (at + len * length is, i) ∷ []
items_push at len [] i = ap (λ (n : ℕ). (n, i) ∷ []) (omega arith)
items_push at len (x ∷ is) i =
    ap (λ (rest : List (ℕ × TypeItem)). (at, x) ∷ rest)
    (items_push (at + len) len is i ∙ ap (λ (n : ℕ). items_from (at + len) len is ++ (n, i) ∷ []) (omega (arith, mul-suc len (length is))))

pub items_from_more : (at len : ℕ) (is : List TypeItem) (k : ℕ) (i : TypeItem) → k < length is → slice_get is k ≡ Some i
    → items_from at len (take (k + 1) is) ≡ items_from at len (take k is) ++ (at + len * k, i) ∷ []
items_from_more at len is k i h e =
    ap (items_from at len) (more_at is k i h e) ∙ items_push at len (take k is) i
    ∙ ap (λ (n : ℕ). items_from at len (take k is) ++ (at + len * n, i) ∷ []) (length-take-le k is (omega arith))

pub length-items_from : (at len : ℕ) (is : List TypeItem) → length (items_from at len is) ≡ length is
length-items_from at len [] = refl
length-items_from at len (i ∷ is) = ap suc (length-items_from (at + len) len is)

pub length-placed_items : (at first : ℕ) (v : List TypeRecord) → length (flat_map placed_items (placed at first v)) ≡ length (items_of v)
length-placed_items at first [] = refl
length-placed_items at first (r ∷ v) =
    let rest = placed (at + record_size r) (first + length r.items) v in
    let kind = kind_number r.head in
    let here = length-items_from (at + 4 * (3 + fixed_words kind)) (4 * item_words kind) r.items in
    let others = length-placed_items (at + record_size r) (first + length r.items) v in
    omega (arith, here, others, length-append (placed_items (record { at = at; first = first; type = r })) (flat_map placed_items rest), length-append r.items (items_of v))

-- the items of one type more
pub placed_items_more : (at : ℕ) (v : List TypeRecord) (k : ℕ) (t : PlacedType) → placed at 0 (take (k + 1) v) ≡ placed at 0 (take k v) ++ t ∷ []
    → flat_map placed_items (placed at 0 (take (k + 1) v)) ≡ flat_map placed_items (placed at 0 (take k v)) ++ placed_items t
placed_items_more at v k t e =
    let before = flat_map placed_items (placed at 0 (take k v)) in
    ap (λ (ts : List PlacedType). flat_map placed_items ts) e
    ∙ flat_map-append placed_items (placed at 0 (take k v)) (t ∷ [])
    ∙ ap (λ (is : List (ℕ × TypeItem)). before ++ is) (append-nil (placed_items t))

-- ---- the items of a type

-- they are of the kind that the head requires
kind_fits : (h : TypeHead) (i : TypeItem) → ItemOf h i → (item_parts i).kind ≡ item_kind h
kind_fits (KStruct name size) (Member n target bit_offset width) f = refl
kind_fits (KUnion name size) (Member n target bit_offset width) f = refl
kind_fits (KEnum name signed size) (EnumValue n value) f = refl
kind_fits (KEnum64 name signed size) (Value64 n value) f = refl
kind_fits (KFuncProto target) (Param n t) f = refl
kind_fits (KDatasec name size) (Entry target offset bytes) f = refl
kind_fits h i f = absurd f

valid_at : (v : List TypeRecord) (k : ℕ) → IsValid v → k < length v → IsValidRecord (facts v) (record_at v (k + 1))
valid_at v k valid h =
    let r = record_at v (k + 1) in
    subst (λ (x : TypeRecord). IsValidRecord (facts v) x) (get_or_from_slice_get v k r r (record_is v k h)) (All-get_or (IsValidRecord (facts v)) v k r h valid.each)

pub kinds_fit : (v : List TypeRecord) (k : ℕ) → IsValid v → k < length v → All (λ i. (item_parts i).kind ≡ item_kind (record_at v (k + 1)).head) (record_at v (k + 1)).items
kinds_fit v k valid h = λ n d inside. kind_fits (record_at v (k + 1)).head _ ((valid_at v k valid h).items_of n d inside)

-- the length of an item is that which the items of its kind have
item_size : (h : TypeHead) (i : TypeItem) → ItemOf h i → item_bytes (item_kind h) ≡ 4 * item_words (kind_number h)
unfolding item_words
item_size (KStruct name size) (Member n target bit_offset width) f = refl
item_size (KUnion name size) (Member n target bit_offset width) f = refl
item_size (KEnum name signed size) (EnumValue n value) f = refl
item_size (KEnum64 name signed size) (Value64 n value) f = refl
item_size (KFuncProto target) (Param n t) f = refl
item_size (KDatasec name size) (Entry target offset bytes) f = refl
item_size h i f = absurd f

record SameItems (h : TypeHead) (at : ℕ) (is : List TypeItem) : Type 0 where
  pub items : items_from at (item_bytes (item_kind h)) is ≡ items_from at (4 * item_words (kind_number h)) is
  pub size : item_bytes (item_kind h) * length is ≡ 4 * item_words (kind_number h) * length is

same_items : (h : TypeHead) (at : ℕ) (is : List TypeItem) → All (ItemOf h) is → SameItems h at is
same_items h at [] of = record { items = refl; size = omega arith }
same_items h at (i ∷ is) of =
    let e = item_size h i (All-head (ItemOf h) i is of) in
    record { items = ap (λ (n : ℕ). items_from at n (i ∷ is)) e; size = ap (λ (n : ℕ). n * length (i ∷ is)) e }

-- the items of a record are after the fields of its head, and it ends after them
pub record ItemsPlaced (at first : ℕ) (r : TypeRecord) : Type 0 where
  pub items : items_from (at + head_bytes r.head) (item_bytes (item_kind r.head)) r.items ≡ placed_items (record { at = at; first = first; type = r })
  pub end : at + head_bytes r.head + item_bytes (item_kind r.head) * length r.items ≡ at + record_size r

pub items_placed : (at first : ℕ) (v : List TypeRecord) (k : ℕ) → IsValid v → k < length v → ItemsPlaced at first (record_at v (k + 1))
items_placed at first v k valid h =
    let r = record_at v (k + 1) in
    let kind = kind_number r.head in
    let same = same_items r.head (at + head_bytes r.head) r.items (valid_at v k valid h).items_of in
    let begin : at + head_bytes r.head ≡ at + 4 * (3 + fixed_words kind) = omega (arith, fixed_is r.head) in
    let size : 4 * item_words kind * length r.items ≡ 4 * (item_words kind * length r.items) = mul_assoc 4 (item_words kind) (length r.items) in
    record {
      items = same.items ∙ ap (λ (n : ℕ). items_from n (4 * item_words kind) r.items) begin;
      end = omega (arith, begin, same.size, size);
    }
