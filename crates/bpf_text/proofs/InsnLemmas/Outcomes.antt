-- What a clause for one outcome says after that outcome has been tested.
use Rattle.std.proofs.Common.{◌≡◌, Bool, true, false, Result, Ok, Err, OnOk, OnErr, Option, Some, None, IfNone, sym, ◌∙◌}
use Rattle.std.specs.Result.{is_err}
use Rattle.std.proofs.lemmas.Bool.{false≢true}

pub on_ok : {X E : Type 0} (P : Type 0) (r : Result X E) (b : Bool) → b ≡ is_err r → b ≡ false → OnOk r P → P
on_ok P (Ok x) b e t h = h
on_ok P (Err x) b e t h = absurd (false≢true (sym t ∙ e))

pub on_err : {X E : Type 0} (P : Type 0) (r : Result X E) (b : Bool) → b ≡ is_err r → b ≡ true → OnErr r P → P
on_err P (Ok x) b e t h = absurd (false≢true (sym e ∙ t))
on_err P (Err x) b e t h = h

pub when_none : {X : Type 0} (P : Type 0) (o : Option X) → P → IfNone o P
when_none P (Some x) h = tt
when_none P None h = h
