use Rattle.std.proofs.Common.{◌≡◌, false, arith, rules}
use Rattle.btf_types.specs.{Values.item_value, Valid.has_width, tables.TableWords.record_at}
use Rattle.bpf_canon.proofs.BtfLemmas.Write.WriteSteps.{width_missed}
use Rattle.bpf_canon.proofs.btf.write.table.has_bit_fields.Goals.{in-Member, in_default-2, in_default}
use Rattle.bpf_canon.proofs.btf.write.table.has_bit_fields.Goals as goal

pub loop-k-preserved : goal.loop-k-preserved
loop-k-preserved g c =
    let item = item_value c.item.result in
    let none : has_width item ≡ false = elim c.match-matches.branch [
      | in-Member w ↦ grind (arith, w.matches-is, c.if-matches.false)
      | in_default-2 w ↦ search rules
      | in_default w ↦ search rules
    ] in
    width_missed (record_at (g.T.TypeTable.meaning c.args.table.now) c.args.id).items c.loop-k.k item c.item.ensures none c.loop-k.invariant
