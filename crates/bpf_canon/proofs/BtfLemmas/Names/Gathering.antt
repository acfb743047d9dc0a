-- The names of a table's records, in sequence.
use Rattle.std.proofs.Common.{◌≡◌, ℕ, zero, suc, ◌+◌, ◌<◌, ◌≤◌, inl, inr, List, [], ◌∷◌, ◌++◌, length, map, take, refl, sym, ap, subst, append_assoc, arith, Some}
use Rattle.std.specs.{Prelude.slice_get, List.Contains}
use Rattle.std.proofs.lemmas.List.{map-append, append-nil, Concat.flat_map-append}
use Rattle.btf_types.specs.{Values.TypeItem, Values.TypeRecord, tables.TableWords.record_at}
use Rattle.btf_types.specs.Names.{head_name, item_name, record_names, names, kept}
use Rattle.btf_types.proofs.{Members.Has, Members.Contains-from_Has, StringLemmas.Texts.Has-kept}
use Rattle.btf_types.proofs.TableLemmas.TableWalk.{take_more, records_more, has_record}
use Rattle.bpf_canon.specs.btf.names.Interned.{IsInTable}

-- ---- the names of a table

pub Has-front : (xs ys : List (List ℕ)) (x : List ℕ) → Has xs x → Has (xs ++ ys) x
Has-front [] ys x h = absurd h
Has-front (y ∷ xs) ys x (inl e) = inl e
Has-front (y ∷ xs) ys x (inr h) = inr (Has-front xs ys x h)

pub Has-back : (xs ys : List (List ℕ)) (x : List ℕ) → Has ys x → Has (xs ++ ys) x
Has-back [] ys x h = h
Has-back (y ∷ xs) ys x h = inr (Has-back xs ys x h)

flat_has : (v : List TypeRecord) (r : TypeRecord) (x : List ℕ) → Has v r → Has (record_names r) x → Has (names v) x
flat_has [] r x h i = absurd h
flat_has (q ∷ v) r x (inl e) i = Has-front (record_names q) (names v) x (subst (λ (s : TypeRecord). Has (record_names s) x) (sym e) i)
flat_has (q ∷ v) r x (inr h) i = Has-back (record_names q) (names v) x (flat_has v r x h i)

-- a name of a table is empty or kept
pub placed : (v : List TypeRecord) (ks : List (List ℕ)) (x : List ℕ) → ks ≡ kept (names v) → Has (names v) x → IsInTable ks x
placed v ks [] e h = inl refl
placed v ks (b ∷ x) e h = inr (subst (λ (l : List (List ℕ)). Contains l (b ∷ x)) (sym e) (Contains-from_Has (kept (names v)) (b ∷ x) (Has-kept (names v) b x h)))

pub head_placed : (v : List TypeRecord) (ks : List (List ℕ)) (id : ℕ) → 0 < id → id ≤ length v → ks ≡ kept (names v) → IsInTable ks (head_name (record_at v id).head)
head_placed v ks id some low e =
    let r = record_at v id in
    placed v ks (head_name r.head) e (flat_has v r (head_name r.head) (has_record v id some low) (inl refl))

item_has : (xs : List TypeItem) (k : ℕ) (x : TypeItem) → slice_get xs k ≡ Some x → Has (map item_name xs) (item_name x)
item_has [] k x e = absurd cc
item_has (y ∷ ys) zero x e = let same : y ≡ x = cc in inl (ap item_name same)
item_has (y ∷ ys) (suc k) x e = inr (item_has ys k x e)

pub item_placed : (v : List TypeRecord) (ks : List (List ℕ)) (id k : ℕ) (x : TypeItem) → 0 < id → id ≤ length v → ks ≡ kept (names v) → slice_get (record_at v id).items k ≡ Some x
    → IsInTable ks (item_name x)
item_placed v ks id k x some low e is =
    let r = record_at v id in
    placed v ks (item_name x) e (flat_has v r (item_name x) (has_record v id some low) (inr (item_has r.items k x is)))

-- the names of one item more, and of one record more
pub item_names_more : (xs : List (List ℕ)) (h : List ℕ) (items : List TypeItem) (k : ℕ) (x : TypeItem) → slice_get items k ≡ Some x
    → (xs ++ h ∷ map item_name (take k items)) ++ item_name x ∷ [] ≡ xs ++ h ∷ map item_name (take (k + 1) items)
item_names_more xs h items k x e =
    let next : k + 1 ≡ suc k = omega arith in
    let more : take (k + 1) items ≡ take k items ++ x ∷ [] = rw next (take_more items k x e) in
    grind (arith, append_assoc, map-append)

pub record_names_more : (v : List TypeRecord) (i : ℕ) → i < length v → names (take i v) ++ record_names (record_at v (i + 1)) ≡ names (take (i + 1) v)
record_names_more v i h = grind (arith, records_more, flat_map-append, append-nil)
