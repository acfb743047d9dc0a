use Rattle.std.proofs.Common.{drop, ◌∙◌}
use Rattle.std.proofs.lemmas.List.{take_rest}
use Rattle.bpf_object.proofs.ReservedLemmas.{before_first_nul, told_by_start}
use Rattle.bpf_object.proofs.type_checks.is_reserved_at.Goals as goal

pub returns : goal.returns
returns c =
    rw (c.unwrap_or-end.ensures, c.first_nul.ensures, before_first_nul, c.min.ensures, take_rest) at c.is_reserved.ensures
    ∙ told_by_start (drop c.args.off c.args.strings.now)
