-- What was written is the listing of the instructions of the file.
use Rattle.std.proofs.Common.{ap, arith, length, ◌∙◌}
use Rattle.bpf_text.specs.insn.Lines.{listing_of}
use Rattle.bpfcanon_c.specs.{Listings.IsListing, Outputs.IsInsnCode}
use Rattle.bpfcanon_c.proofs.{ListingLengths.listing_fits, Rooms.ends_output}
use Rattle.bpfcanon_c.proofs.listing.listing_in.Goals as goal

pub returns-in-Ok-listing : goal.returns-in-Ok-listing
returns-in-Ok-listing c =
    let order = c.args.order in
    let bytes = c.args.bytes.now in
    let insns = c.in-Ok.insns.items in
    let form = c.deref-in-Ok-listing.ensures.value ∙ c.in-Ok-listing.ensures.text ∙ ap listing_of c.deref.ensures.value in
    ends_output (IsListing order bytes) (IsInsnCode order bytes) c.args.out.now c.put.new.buffer c.deref-in-Ok-listing.result.now c.put.result
    (record { insns = insns; file = c.in-Ok.ensures.found; form = form; fits = omega (arith, ap length form, listing_fits order bytes insns c.in-Ok.ensures.found) })
    c.put.ensures
