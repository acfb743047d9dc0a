use Rattle.std.proofs.lemmas.Result.{err_from_is_err_and}
use Rattle.bpf_object.proofs.ObjectLemmas.{types_fail}
use Rattle.bpf_object.proofs.canon.canon_typed.Goals as goal

pub returns-in_err-file : goal.returns-in_err-file
returns-in_err-file g c =
    let fault = err_from_is_err_and c.from_residual.result c.from_residual.ensures.1 in
    rw (fault.1, fault.2) (types_fail c.args.elf.now _ c.requires.elf c.requires.there c.in_err-file.ensures)
