use Rattle.std.proofs.Common.{◌≡◌, ◌++◌}
use Rattle.bpf_object.specs.private.Tables.{rows_bytes}
use Rattle.bpf_object.proofs.relocation_rows.push_table.Given as goal

abbrev pub invariant-loop-k : goal.invariant-loop-k
invariant-loop-k g l = l.out.items ≡ l.initial.out.items ++ rows_bytes l.elf l.i l.k
