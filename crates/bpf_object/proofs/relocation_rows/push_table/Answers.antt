use Rattle.bpf_object.proofs.KeptLemmas.{appended, rows_next}
use Rattle.bpf_object.proofs.relocation_rows.push_table.Goals as goal

pub loop-k-preserved : goal.loop-k-preserved
loop-k-preserved g c =
    appended _ _ _ _ _ _ c.loop-k.invariant c.in_ok-push_relocation.ensures (rows_next c.args.elf.now c.args.i c.loop-k.k)
