-- Two lists whose elements are related place by place.
use Rattle.std.proofs.Common.{List, [], ◌∷◌, ◌++◌}
use Rattle.std.specs.List.{AllZip}

pub zip_push : {A B : Type 0} (R : A → B → Type 0) (xs : List A) (ys : List B) (x : A) (y : B) → AllZip R xs ys → R x y → AllZip R (xs ++ x ∷ []) (ys ++ y ∷ [])
zip_push R [] [] x y h k = (k, tt)
zip_push R (a ∷ xs) (b ∷ ys) x y h k = (h.0, zip_push R xs ys x y h.1 k)
zip_push R _ _ x y h k = absurd h

-- the element that is related to one in the middle
pub zip_at : {A B : Type 0} (R : A → B → Type 0) (front : List A) (x : A) (back : List A) (ys : List B) → AllZip R (front ++ x ∷ back) ys → (y : B) × R x y
zip_at R [] x back (y ∷ ys) h = (y, h.0)
zip_at R (a ∷ front) x back (y ∷ ys) h = zip_at R front x back ys h.1
zip_at R _ x back _ h = absurd h
