-- The part of a line that the fault sink receives.
use Rattle.std.proofs.Common.{◌≡◌, ◌<◌, ◌+◌, ◌++◌, ◌∙◌, ℕ, List, Option, length, take, drop, sym, ap, subst, inl, inr, arith, get_or, suc, true, drop-cons}
use Rattle.std.specs.Prelude.{Result, Ok, Err, OnOk, IfErr}
use Rattle.std.specs.{Result.is_err, Borrow.Bor, List.flat_map, Io.KnownBytes.Appends}
use Rattle.std.proofs.lemmas.List.{take-append-drop, take-append-le, Concat.flat_map-append}
use Rattle.std.proofs.{Math.Seq.take-append-add, Math.Seq.take-length, KnownBytes.Appends-trans}
use Rattle.bpf_canon.specs.device.Device.{CountsFailure}
use Rattle.bpfcanon.specs.{Devices.change, Outcome.TookLine}

pub took_whole : (a b : Option (List ℕ)) (f g : ℕ) (line : List ℕ) → Appends a b line → g ≡ f → TookLine (change a b f g) line
took_whole a b f g line h e =
    let P : List ℕ → Type 0 = λ x. Appends a b x in
    record { n = length line; took = subst P (sym (take-length line)) h; whole = inl (omega arith, e) }

-- a line that is written in one call
pub took_line : (a b : Option (List ℕ)) (f g : ℕ) (line : List ℕ) (r : Result (Unit {0}) ℕ) → OnOk r (Appends a b line)
    → IfErr r (λ n. (n < length line) × Appends a b (take n line)) → CountsFailure f g r → TookLine (change a b f g) line
took_line a b f g line (Ok u) h k e = took_whole a b f g line h e
took_line a b f g line (Err n) h k e = record { n = n; took = k.1; whole = inr e }

abbrev joined : List (Bor (List ℕ)) → List ℕ
joined parts = flat_map (λ (p : Bor (List ℕ)). p.now) parts

-- a part of which the sink receives only a prefix, after parts that it receives completely
pub took_part : (a m b : Option (List ℕ)) (f h g : ℕ) (parts : List (Bor (List ℕ))) (i : ℕ) (d : Bor (List ℕ)) (r : Result (Unit {0}) ℕ) → i < length parts
    → Appends a m (joined (take i parts)) → h ≡ f → is_err r ≡ true
    → IfErr r (λ n. (n < length (get_or parts i d).now) × Appends m b (take n (get_or parts i d).now)) → CountsFailure h g r
    → TookLine (change a b f g) (joined parts)
took_part a m b f h g parts i d (Ok u) l p e bad t count = cc
took_part a m b f h g parts i d (Err n) l p e bad t count =
    let part = (get_or parts i d).now in
    let rest = joined (drop (suc i) parts) in
    let before = joined (take i parts) in
    let split : joined parts ≡ before ++ (part ++ rest) =
    ap joined (sym (take-append-drop i parts)) ∙ flat_map-append (λ (q : Bor (List ℕ)). q.now) (take i parts) (drop i parts)
    ∙ ap (λ t. before ++ joined t) (drop-cons parts i d l) in
    let short : take n (part ++ rest) ≡ take n part = take-append-le n part rest (omega (arith, t.0)) in
    let cut : take (length before + n) (joined parts) ≡ before ++ take n part = grind (arith, take-append-add) in
    let P : List ℕ → Type 0 = λ x. Appends a b x in
    record { n = length before + n; took = subst P (sym cut) (Appends-trans a m b before (take n part) p t.1); whole = inr (count ∙ ap (λ x. x + 1) e) }
