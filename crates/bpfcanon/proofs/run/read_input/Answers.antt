use Rattle.std.proofs.lemmas.Result.{err_from_is_err_and}
use Rattle.bpfcanon.proofs.JobLemmas.{ends_unread}
use Rattle.bpfcanon.proofs.run.read_input.Goals as goal

pub returns-in_err-read_all-clause-stopped : goal.returns-in_err-read_all-clause-stopped
returns-in_err-read_all-clause-stopped g c =
    let p = err_from_is_err_and c.from_residual.result c.from_residual.ensures.1 in
    rw (p.1, p.2) (λ sink unused.
    ends_unread c.args.job _ sink c.in_err-read_all.field-0.0 c.requires.whole (rw c.limit.ensures at c.in_err-read_all.ensures.amid) c.in_err-read_all.ensures.count unused)
