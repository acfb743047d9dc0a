-- What was written is the instructions of the listing.
use Rattle.std.proofs.Common.{ap, arith, length, ◌∙◌}
use Rattle.bpfcanon_c.specs.Listings.{IsLineCode, IsListed}
use Rattle.bpfcanon_c.proofs.{ListedLengths.listed_fits, Rooms.ends_output}
use Rattle.bpfcanon_c.proofs.listing.listed_in.Goals as goal

pub returns-in-Ok : goal.returns-in-Ok
returns-in-Ok c =
    let to = c.args.to in
    let text = c.args.text.now in
    let found = c.in-Ok.ensures.found in
    let form = c.deref.ensures.value ∙ found.2 in
    ends_output (IsListed to text) (IsLineCode text) c.args.out.now c.put.new.buffer c.deref.result.now c.put.result
    (record { insns = found.0; lists = found.1; form = form; fits = omega (arith, ap length form, listed_fits to text found.0 found.1) })
    c.put.ensures
