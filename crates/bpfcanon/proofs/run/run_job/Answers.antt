use Rattle.std.proofs.Common.{arith}
use Rattle.bpfcanon.proofs.{JobLemmas.ends_answered, CommandsLemmas.InsnCanonLemmas.canon_done, CommandsLemmas.InsnCanonLemmas.canon_stopped}
use Rattle.bpfcanon.proofs.CommandsLemmas.BtfCanonLemmas.{btf_canon_done, btf_canon_stopped}
use Rattle.bpfcanon.proofs.run.run_job.Goals as goal

pub returns-in-Ok : goal.returns-in-Ok
returns-in-Ok g c = canon_done c.args.job _ _ _ c.in-InsnCanon.is c.in-Ok.ensures.ok c.in-Ok.ensures.healthy.0 c.in-Ok.ensures.healthy.1

pub returns-in-Err : goal.returns-in-Err
returns-in-Err g c =
    canon_stopped c.args.job _ _ _ c.in-InsnCanon.is c.in-Err.error.cause c.in-Err.ensures.err c.in-Err.ensures.reads c.in-Err.ensures.writes
    c.of_stop.result c.of_stop.ensures

pub returns-in-Ok-run_btf : goal.returns-in-Ok-run_btf
returns-in-Ok-run_btf g c =
    btf_canon_done c.args.job _ _ _ c.in-BtfCanon.is c.in-Ok-run_btf.ensures.ok c.in-Ok-run_btf.ensures.healthy.0 c.in-Ok-run_btf.ensures.healthy.1

pub returns-in-Err-run_btf : goal.returns-in-Err-run_btf
returns-in-Err-run_btf g c =
    btf_canon_stopped c.args.job _ _ _ c.in-BtfCanon.is c.in-Err-run_btf.error.cause c.in-Err-run_btf.ensures.err c.in-Err-run_btf.ensures.reads
    c.in-Err-run_btf.ensures.writes c.of_stop-in-Err-run_btf.result c.of_stop-in-Err-run_btf.ensures

pub returns-in-Ok-read_input : goal.returns-in-Ok-read_input
returns-in-Ok-read_input g c = grind (arith, ends_answered)
