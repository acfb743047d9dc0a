use Rattle.std.proofs.Common.{sym}
use Rattle.bpf_canon.specs.btf.names.Interned.{borrowed_texts}
use Rattle.bpf_canon.proofs.BtfLemmas.Names.{HostSteps.set_adds, OffsetSteps.empty_adds}
use Rattle.bpf_canon.proofs.btf.names.add_name.Goals as goal

pub returns-in_ok-insert : goal.returns-in_ok-insert
returns-in_ok-insert g c = set_adds c.args.names.now.keys c.insert.new.self.keys c.args.name (sym c.if-not-is_empty.ensures) c.in_ok-insert.ensures.keys

pub returns-else-not-is_empty : goal.returns-else-not-is_empty
returns-else-not-is_empty g c = empty_adds (borrowed_texts c.args.names.now.keys) c.args.name.now (sym c.if-not-is_empty.ensures)
