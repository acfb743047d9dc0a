-- What was written is the canonical bytes of the types that the file denotes.
use Rattle.std.proofs.Common.{ap, arith, length, ◌∙◌}
use Rattle.bpf_canon.proofs.BtfLemmas.CanonicalFiles.{canonical_shortest}
use Rattle.bpfcanon_c.specs.{Endings.IsCanonicalBtf, Outputs.IsBtfCode}
use Rattle.bpfcanon_c.proofs.Rooms.{ends_output}
use Rattle.bpfcanon_c.proofs.btf.btf_in.Goals as goal

pub returns-in-Ok : goal.returns-in-Ok
returns-in-Ok c =
    let found = c.in-Ok.ensures.ok in
    let form = c.deref.ensures.value ∙ found.1.1 in
    ends_output (IsCanonicalBtf c.args.to c.args.bytes.now) (IsBtfCode c.args.bytes.now) c.args.out.now c.put.new.buffer c.deref.result.now c.put.result
    (record { types = found.0; denotes = found.1.0; form = form; fits = omega (arith, ap length form, canonical_shortest c.args.to c.args.bytes.now found.0 found.1.0) })
    c.put.ensures
