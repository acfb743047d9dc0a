use Rattle.std.proofs.Common.{arith}
use Rattle.bpf_elf.specs.Symbols.{is_kept_symbol}
use Rattle.bpf_object.proofs.KeptLemmas.{number_below, globals_more}
use Rattle.bpf_object.proofs.symbol_rows.first_global.Goals as goal

pub counted-number-requires : goal.counted-number-requires
counted-number-requires c =
    omega (arith, c.loop-j.invariant.0, number_below (is_kept_symbol c.args.elf.now) c.loop-j.j, c.loop-j-test.true, c.symbol_count-j-end.ensures.small)

pub loop-j-preserved : goal.loop-j-preserved
loop-j-preserved c =
    globals_more c.args.elf.now c.loop-j.j _ _ _ _ _ _ c.loop-j.invariant.0 c.loop-j.invariant.1 c.is_kept_symbol.ensures c.counted-number.ensures
    c.is_kept_local.ensures c.after_local-first.ensures
