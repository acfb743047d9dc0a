-- Lines of types and items that are appended in sequence.
use Rattle.std.proofs.Common.{◌≡◌, ℕ, suc, ◌+◌, ◌<◌, Bool, List, [], ◌∷◌, ◌++◌, length, length-take, take, sym, ap, ◌∙◌, arith, Some}
use Rattle.std.specs.{Prelude.slice_get, List.flat_map, List.enumerate_from}
use Rattle.std.proofs.lemmas.List.{flat_map_more}
use Rattle.btf_types.specs.{Values.TypeItem, Values.TypeRecord, tables.TableWords.record_at}
use Rattle.btf_types.proofs.TableLemmas.TableWalk.{take_more, records_more}
use Rattle.bpf_text.specs.btf.BtfText.{item_line, record_text, text_of}

-- one item more
pub item_shown : (old : List ℕ) (signed : Bool) (xs : List TypeItem) (k : ℕ) (x : TypeItem) → slice_get xs k ≡ Some x
    → (old ++ flat_map (item_line signed) (take k xs)) ++ item_line signed x ≡ old ++ flat_map (item_line signed) (take (k + 1) xs)
item_shown old signed xs k x e =
    let next : k + 1 ≡ suc k = omega arith in
    let more : take (k + 1) xs ≡ take k xs ++ x ∷ [] = rw next (take_more xs k x e) in
    flat_map_more (item_line signed) old (take k xs) x ∙ ap (λ (t : List TypeItem). old ++ flat_map (item_line signed) t) (sym more)

numbered_last : (n m : ℕ) (v : List TypeRecord) (r : TypeRecord) → m ≡ n + length v → enumerate_from n (v ++ r ∷ []) ≡ enumerate_from n v ++ (m, r) ∷ []
numbered_last n m [] r e = let same : n ≡ m = omega (arith, e) in ap (λ (i : ℕ). (i, r) ∷ []) same
numbered_last n m (s ∷ v) r e = ap (λ (l : List (ℕ × TypeRecord)). (n, s) ∷ l) (numbered_last (n + 1) m v r (omega (arith, e)))

-- one type more
pub type_shown : (v : List TypeRecord) (i : ℕ) → i < length v → text_of (take i v) ++ record_text (i + 1) (record_at v (i + 1)) ≡ text_of (take (i + 1) v)
type_shown v i h =
    let r = record_at v (i + 1) in
    let show : ℕ × TypeRecord → List ℕ = λ p. record_text p.0 p.1 in
    let front = enumerate_from 1 (take i v) in
    let place : i + 1 ≡ 1 + length (take i v) = omega (arith, length-take i v) in
    let more : enumerate_from 1 (take (i + 1) v) ≡ front ++ (i + 1, r) ∷ [] = ap (enumerate_from 1) (records_more v i h) ∙ numbered_last 1 (i + 1) (take i v) r place in
    flat_map_more show [] front (i + 1, r) ∙ ap (flat_map show) (sym more)
