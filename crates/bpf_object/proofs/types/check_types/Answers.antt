use Rattle.std.proofs.lemmas.Result.{err_from_is_err_and}
use Rattle.bpf_object.proofs.TypesLemmas.{rules_fail}
use Rattle.bpf_object.proofs.types.check_types.Goals as goal

pub returns-in_err-check_sections : goal.returns-in_err-check_sections
returns-in_err-check_sections g c =
    let exit = c.from_residual-in_err-check_sections in
    let fault = err_from_is_err_and exit.result exit.ensures.1 in
    rw (fault.1, fault.2) (rules_fail _ c.in_ok-file.file _ c.in_ok-check_size.ensures c.in_ok-file.ensures (rw c.sections.ensures at c.in_err-check_sections.ensures))
