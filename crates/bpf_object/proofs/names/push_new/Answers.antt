use Rattle.std.proofs.Common.{None, length}
use Rattle.bpf_object.proofs.NamesLemmas.{updated_at}
use Rattle.bpf_object.proofs.names.push_new.Goals as goal

pub returns-in-Err : goal.returns-in-Err
returns-in-Err g c = (
  c.in-Err.ensures.0,
  c.in-Err.ensures.1,
  λ y. updated_at c.args.text.now y c.args.by_text.now c.remove.new.self None (c.remove.ensures.updates.0 (length y, record { ref_ptr = (0, 0); now = y })),
)
