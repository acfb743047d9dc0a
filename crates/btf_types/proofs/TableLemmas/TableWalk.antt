-- A walk over the records of a table.
use Rattle.std.proofs.Common.{◌≡◌, ℕ, zero, suc, ◌+◌, ◌-◌, ◌<◌, ◌≤◌, List, [], ◌∷◌, ◌++◌, length, take, get_or, sym, ap, subst, ◌∙◌, arith, Some}
use Rattle.std.specs.Prelude.{slice_get, unwrap_or}
use Rattle.std.proofs.lemmas.Option.{slice_get-get_or, slice_get_within, get_or_from_slice_get, unwrap_or-slice_get}
use Rattle.btf_types.specs.{Values.TypeRecord, tables.TableWords.record_at, tables.TableWords.no_record}
use Rattle.btf_types.proofs.Members.{Has, Has-get_or}

-- one element more of a list
pub take_more : {X : Type 0} (xs : List X) (k : ℕ) (x : X) → slice_get xs k ≡ Some x → take (suc k) xs ≡ take k xs ++ x ∷ []
take_more [] k x e = absurd cc
take_more (y ∷ ys) zero x e = let same : y ≡ x = cc in ap (λ z. z ∷ []) same
take_more (y ∷ ys) (suc k) x e = ap (λ t. y ∷ t) (take_more ys k x e)

pub get_is : {X : Type 0} (xs : List X) (k : ℕ) (d : X) → k < length xs → get_or xs k d ≡ unwrap_or (slice_get xs k) d
get_is xs k d h = sym (unwrap_or-slice_get xs k d)

pub get_or_is : {X : Type 0} (xs : List X) (k : ℕ) (d x : X) → slice_get xs k ≡ Some x → (k < length xs) × (get_or xs k d ≡ x)
get_or_is xs k d x e = (slice_get_within xs k x e, get_or_from_slice_get xs k x d e)

-- one record more of a table
pub records_more : (v : List TypeRecord) (i : ℕ) → i < length v → take (i + 1) v ≡ take i v ++ record_at v (i + 1) ∷ []
records_more v i h =
    let at : i + 1 - 1 ≡ i = omega arith in
    let next : i + 1 ≡ suc i = omega arith in
    rw (at, next) (take_more v i (unwrap_or (slice_get v i) no_record) (slice_get-get_or v i no_record h ∙ ap (λ r. Some r) (get_is v i no_record h)))

-- a record of a table is one of its records
pub has_record : (v : List TypeRecord) (id : ℕ) → 0 < id → id ≤ length v → Has v (record_at v id)
has_record v id some low = subst (λ (r : TypeRecord). Has v r) (get_is v (id - 1) no_record (omega arith)) (Has-get_or v (id - 1) no_record (omega arith))
