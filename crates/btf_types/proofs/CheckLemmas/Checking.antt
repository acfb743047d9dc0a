-- If two sets of causes are equal, so is the least cause.
use Rattle.std.proofs.Common.{Option, Some, None}
use Rattle.std.specs.Prelude.{MatchOption}
use Rattle.btf_raw.specs.declared.cause.BtfCause.{BtfCause}
use Rattle.btf_types.specs.checks.Numbers.{LeastCause, NoCause}

pub checked_same : (P Q : BtfCause → Type 0) (r : Option BtfCause) → ((c : BtfCause) → P c → Q c) → ((c : BtfCause) → Q c → P c) → MatchOption r (NoCause P) (λ c. LeastCause P c) → MatchOption r (NoCause Q) (λ c. LeastCause Q c)
checked_same P Q None there back checked = λ c h. checked c (back c h)
checked_same P Q (Some c) there back checked = record { holds = there c checked.holds; least = λ d h. checked.least d (back d h) }
