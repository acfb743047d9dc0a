use Rattle.std.proofs.Common.{arith, rules}
use Rattle.std.proofs.lemmas.Result.{err_from_is_err_and}
use Rattle.bpf_object.proofs.ObjectLemmas.{section_fails, symbols_fail, accesses_fail, source_read}
use Rattle.bpf_object.proofs.canon.check_own_extension.Goals as goal

pub returns-in_err-by_name : goal.returns-in_err-by_name
returns-in_err-by_name g c =
    let fault = err_from_is_err_and c.from_residual.result c.from_residual.ensures.1 in
    rw (fault.1, fault.2) (section_fails c.args.elf.now c.args.x c.section_of.result c.section_of.ensures.value (omega (arith, c.if-section_of-eq0.false)) c.requires.own _ c.in_err-by_name.ensures)

pub returns-in_err-check_functions : goal.returns-in_err-check_functions
returns-in_err-check_functions g c =
    let fault = err_from_is_err_and c.from_residual-in_err-check_functions.result c.from_residual-in_err-check_functions.ensures.1 in
    rw (fault.1, fault.2) (symbols_fail c.args.elf.now c.args.x c.section_of.result c.section_of.ensures.value (omega (arith, c.if-section_of-eq0.false)) c.requires.own _ c.in_ok-by_name.ensures.0 c.in_err-check_functions.ensures)

pub returns-in_err-check_accesses : goal.returns-in_err-check_accesses
returns-in_err-check_accesses g c =
    let here = accesses_fail c.args.elf.now c.args.x c.section_of.result c.section_of.ensures.value (omega (arith, c.if-section_of-eq0.false)) c.requires.own _ c.in_ok-by_name.ensures.0 c.in_ok-check_functions.ensures c.in_err-check_accesses.ensures in
    search rules

pub returns : goal.returns
returns g c =
    source_read c.args.elf.now c.args.x c.section_of.result c.section_of.ensures.value (omega (arith, c.if-section_of-eq0.false)) c.requires.own c.in_ok-by_name.ensures.0 c.in_ok-by_name.ensures.1.0 c.in_ok-check_functions.ensures c.in_ok-check_accesses.ensures
