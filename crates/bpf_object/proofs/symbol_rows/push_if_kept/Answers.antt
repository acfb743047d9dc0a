use Rattle.std.proofs.Common.{sym, length}
use Rattle.bpf_object.specs.Denotes.{result_limit}
use Rattle.bpf_object.proofs.ObjectWriterLemmas.{symbol_written}
use Rattle.bpf_object.proofs.symbol_rows.push_if_kept.Goals as goal

pub returns : goal.returns
returns g c =
    symbol_written c.args.elf.now (result_limit (length c.args.elf.now)) c.args.j c.args.names.now c.push_symbol.new.names c.args.out.now.items c.push_symbol.new.out.items c.push_symbol.result (sym c.if-not-is_kept_symbol.ensures) c.push_symbol.ensures
