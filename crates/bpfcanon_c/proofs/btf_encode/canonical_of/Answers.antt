-- Without a plan the records say no valid types.
use Rattle.std.proofs.Common.{inr}
use Rattle.bpfcanon_c.proofs.BtfRefused.{refused_unwritten}
use Rattle.bpfcanon_c.proofs.btf_encode.canonical_of.Goals as goal

pub returns-in-Err : goal.returns-in-Err
returns-in-Err c = record {
  ends = inr (
    record { cause = c.number.result; pos = c.in-Err.index; line = 0 },
    (refused_unwritten c.args.types.now c.args.items.now c.args.strings.now c.in-Err.cause c.number.result c.in-Err.index c.in-Err.ensures c.number.ensures, c.no_type.ensures),
  );
}
