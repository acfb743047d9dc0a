-- What is written, in parts.
use Rattle.std.proofs.Common.{◌≡◌, ◌++◌, ◌+◌, ◌-◌, ◌∙◌, ℕ, List, [], Option, Result, Ok, Err, OnErr, refl, sym, ap, arith, append_assoc, append-nil, take, drop, length, take-append-drop}
use Rattle.std.proofs.{lemmas.Grind.common_steps, Math.Seq.take-add}
use Rattle.std.proofs.KnownBytes.{Appends-nil, Appends-trans}
use Rattle.std.specs.Io.KnownBytes.{Appends}
use Rattle.bpfcanon_object.specs.Written.{AppendsPart, IsPartWritten}
use Rattle.bpfcanon_object.specs.Written.IsPartWritten.{nothing, some}

-- a fact that holds anyway holds at an error
pub on_err : {T E : Type 0} {P : Type 0} (r : Result T E) → P → OnErr r P
on_err (Ok x) p = tt
on_err (Err e) p = p

-- n more bytes are written
pub takes_more : (a b c : Option (List ℕ)) (bytes : List ℕ) (t n : ℕ) → Appends a b (take t bytes)
    → Appends b c (take n (take (length bytes - t) (drop t bytes))) → Appends a c (take (t + n) bytes)
takes_more a b c bytes t n p q =
    let e : take t bytes ++ take n (take (length bytes - t) (drop t bytes)) ≡ take (t + n) bytes =
    rw (take-add t n bytes) (grind (arith, common_steps)) in
    rw (← e) (Appends-trans a b c _ _ p q)

-- the first bytes are a part
pub taken_part : (a b : Option (List ℕ)) (bytes : List ℕ) (t : ℕ) → Appends a b (take t bytes) → AppendsPart a b bytes
taken_part a b bytes t p = (take t bytes, (drop t bytes, (sym (take-append-drop t bytes), p)))

-- nothing is a part of any bytes
pub no_part : (a : Option (List ℕ)) (bytes : List ℕ) → AppendsPart a a bytes
no_part a bytes = ([], (bytes, (refl, Appends-nil a)))

pub whole_part : (a b : Option (List ℕ)) (bytes : List ℕ) → Appends a b bytes → AppendsPart a b bytes
whole_part a b bytes p = (bytes, ([], (sym (append-nil bytes), p)))

-- a part of some bytes is one of what they begin
pub part_of_more : (a b : Option (List ℕ)) (bytes more : List ℕ) → AppendsPart a b bytes → AppendsPart a b (bytes ++ more)
part_of_more a b bytes more p = (p.0, (p.1.0 ++ more, (ap (λ l. l ++ more) p.1.1.0 ∙ append_assoc p.0 p.1.0 more, p.1.1.1)))

-- a part of the bytes that follow
pub part_after : (a b c : Option (List ℕ)) (before bytes : List ℕ) → Appends a b before → AppendsPart b c bytes → AppendsPart a c (before ++ bytes)
part_after a b c before bytes p q =
    (before ++ q.0, (q.1.0, (ap (λ l. before ++ l) q.1.1.0 ∙ sym (append_assoc before q.0 q.1.0), Appends-trans a b c before q.0 p q.1.1.1)))

-- a part of one answer as that of another
pub part_as : (P Q : List ℕ → List ℕ → Type 0) (out out_after err err_after : Option (List ℕ))
    → ((lines messages : List ℕ) → P lines messages → Q lines messages) → IsPartWritten P out out_after err err_after → IsPartWritten Q out out_after err err_after
part_as P Q out out_after err err_after to (nothing lines messages) = nothing lines messages
part_as P Q out out_after err err_after to (some lines messages is_it put_lines put_messages) = some lines messages (to lines messages is_it) put_lines put_messages
