-- Words and records that are appended in sequence.
use Rattle.std.proofs.Common.{◌≡◌, ℕ, ◌+◌, ◌<◌, List, [], ◌∷◌, ◌++◌, length, map, take, get_or, sym, ap, ◌∙◌, append_assoc, append-nil}
use Rattle.std.specs.List.{flat_map}
use Rattle.std.proofs.lemmas.List.{take_more, map-append}
use Rattle.std.proofs.lemmas.List.Concat.{flat_map-append}
use Rattle.bpf_words.specs.{declared.Order.Order}
use Rattle.btf_raw.specs.Frames.{bytes_of, section_of}
use Rattle.bpf_canon.proofs.BtfLemmas.Write.WriteSteps.{pushed_two}

-- the words of one element more
pub words_more : {X : Type 0} (o : Order) (old : List ℕ) (f : X → List ℕ) (xs : List X) (k : ℕ) (d : X) → k < length xs
    → (old ++ bytes_of o (flat_map f (take k xs))) ++ bytes_of o (f (get_or xs k d)) ≡ old ++ bytes_of o (flat_map f (take (k + 1) xs))
words_more o old f xs k d h =
    let x = get_or xs k d in
    let more : take (k + 1) xs ≡ take k xs ++ x ∷ [] = take_more xs k d h in
    let words : flat_map f (take (k + 1) xs) ≡ flat_map f (take k xs) ++ f x =
    ap (λ ys. flat_map f ys) more ∙ flat_map-append f (take k xs) (x ∷ []) ∙ ap (λ (t : List ℕ). flat_map f (take k xs) ++ t) (append-nil (f x))
    in
    pushed_two o old (flat_map f (take k xs)) (f x) ∙ ap (λ (t : List ℕ). old ++ bytes_of o t) (sym words)

-- one frame more
pub frames_more : {X : Type 0} (o : Order) (old : List ℕ) (f : X → List ℕ) (xs : List X) (k : ℕ) (d : X) → k < length xs
    → (old ++ section_of o (map f (take k xs))) ++ bytes_of o (f (get_or xs k d)) ≡ old ++ section_of o (map f (take (k + 1) xs))
frames_more o old f xs k d h =
    let x = get_or xs k d in
    let more : take (k + 1) xs ≡ take k xs ++ x ∷ [] = take_more xs k d h in
    let frames : section_of o (map f (take (k + 1) xs)) ≡ section_of o (map f (take k xs)) ++ bytes_of o (f x) =
    ap (λ ys. section_of o (map f ys)) more ∙ ap (λ (fs : List (List ℕ)). section_of o fs) (map-append f (take k xs) (x ∷ []))
    ∙ flat_map-append (bytes_of o) (map f (take k xs)) (f x ∷ []) ∙ ap (λ (t : List ℕ). section_of o (map f (take k xs)) ++ t) (append-nil (bytes_of o (f x)))
    in
    append_assoc old (section_of o (map f (take k xs))) (bytes_of o (f x)) ∙ ap (λ (t : List ℕ). old ++ t) (sym frames)
