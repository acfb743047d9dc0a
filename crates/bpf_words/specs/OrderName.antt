-- The names of the two byte orders.
use Rattle.std.specs.Prelude.{◌≡◌, ◌≢◌, ℕ, List, Result, MatchResult, codes}
use Rattle.bpf_words.specs.declared.Order.{Order, TheVariants.Little, TheVariants.Big}

-- the name of a byte order, `little` or `big`
abbrev pub order_name : Order → List ℕ
order_name Little = codes "little"
order_name Big = codes "big"

-- the byte order with this name, or an error if neither has it
abbrev pub IsOrderOfName : {E : Type 0} → List ℕ → Result Order E → Type 0
IsOrderOfName name r = MatchResult r (λ order. name ≡ order_name order) (λ e. (order : Order) → name ≢ order_name order)
