use Rattle.bpf_object.proofs.ObjectWriterLemmas.{RowsTo}
use Rattle.bpf_object.proofs.symbol_rows.push_symbols.Given as goal

abbrev pub invariant-loop-j : goal.invariant-loop-j
invariant-loop-j g l = RowsTo l.elf l.initial.names l.names l.initial.out.items l.out.items l.j
