use Rattle.std.proofs.Common.{rules, refl}
use Rattle.bpfcanon.specs.Ends.{no_memory_for_line, ran, usage}
use Rattle.bpfcanon.proofs.command.run_line.Goals as goal

pub returns-in-Ok : goal.returns-in-Ok
returns-in-Ok g c = ran c.in-Ok.job c.run_job.result c.in-Ok.ensures.asks c.run_job.ensures

pub returns-in-Err-Usage : goal.returns-in-Err-Usage
returns-in-Err-Usage g c = usage (c.in-Err-Usage.ensures.refused (search rules)) (refl, refl) (refl, refl)

pub returns-in-Err-Memory : goal.returns-in-Err-Memory
returns-in-Err-Memory g c = no_memory_for_line (refl, refl) (refl, refl)
