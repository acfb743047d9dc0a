-- Numbers one after another, with one more.
use Rattle.std.proofs.Common.{◌≡◌, ℕ, ◌+◌, ◌<◌, List, [], ◌∷◌, ◌++◌, length, take, get_or, refl, sym, ap, ◌∙◌, append_assoc, append-nil}
use Rattle.std.proofs.lemmas.List.{take_more}
use Rattle.bpf_words.specs.declared.Order.{Order}
use Rattle.bpf_object.specs.declared.fields.Field.{Field}
use Rattle.bpf_object.specs.private.Fields.{bytes, encode}

encode-append : (o : Order) (xs ys : List Field) → encode o (xs ++ ys) ≡ encode o xs ++ encode o ys
encode-append o [] ys = refl
encode-append o (x ∷ xs) ys = ap (λ (t : List ℕ). bytes o x ++ t) (encode-append o xs ys) ∙ sym (append_assoc (bytes o x) (encode o xs) (encode o ys))

pub encode_next : (o : Order) (xs : List Field) (k : ℕ) (d : Field) (start out new : List ℕ) → k < length xs → out ≡ start ++ encode o (take k xs) → new ≡ out ++ bytes o (get_or xs k d)
    → new ≡ start ++ encode o (take (k + 1) xs)
encode_next o xs k d start out new lt before pushed =
    pushed ∙ ap (λ (t : List ℕ). t ++ bytes o (get_or xs k d)) before ∙ append_assoc start (encode o (take k xs)) (bytes o (get_or xs k d))
    ∙ ap (λ (t : List ℕ). start ++ t) (ap (λ (t : List ℕ). encode o (take k xs) ++ t) (sym (append-nil (bytes o (get_or xs k d)))) ∙ sym (encode-append o (take k xs) (get_or xs k d ∷ [])) ∙ ap (encode o) (sym (take_more xs k d lt)))
