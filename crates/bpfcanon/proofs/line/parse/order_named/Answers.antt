use Rattle.std.proofs.Common.{◌≡◌, ◌∙◌, ℕ, List, Bool, true, false, refl}
use Rattle.std.specs.Prelude.{Result, Ok, Err, if◌then◌else◌}
use Rattle.std.specs.{Result.result_unwrap_or, Str.bytes_eq}
use Rattle.std.proofs.lemmas.Slice.Eq.{bytes_eq-Decides}
use Rattle.bpf_words.specs.OrderName.{IsOrderOfName, order_name}
use Rattle.bpf_words.specs.declared.Order.{Order, TheVariants.Little, TheVariants.Big}
use Rattle.bpfcanon.specs.line.Parse.{order_named}
use Rattle.bpfcanon.proofs.line.parse.order_named.Goals as goal

little_unless : (b : Bool) → (b ≡ true → ⊥) → Little ≡ (if b then Big else Little)
little_unless true h = absurd (h refl)
little_unless false h = refl

-- a name that no byte order has stands for `little`
named : {E : Type 0} (name : List ℕ) (r : Result Order E) → IsOrderOfName name r → result_unwrap_or r Little ≡ order_named name
named name (Ok Little) h = rw h refl
named name (Ok Big) h = rw h refl
named name (Err e) h = little_unless (bytes_eq name (order_name Big)) (λ same. h Big ((bytes_eq-Decides name (order_name Big)).0 same))

pub returns : goal.returns
returns c = c.unwrap_or.ensures ∙ named c.args.name.now c.parse.result c.parse.ensures.value
