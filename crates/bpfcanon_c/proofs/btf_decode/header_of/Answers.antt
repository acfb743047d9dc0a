use Rattle.btf_raw.proofs.HeaderLaw.{cut_has_none}
use Rattle.bpfcanon_c.proofs.btf_decode.header_of.Goals as goal

pub unreachable-requires : goal.unreachable-requires
unreachable-requires c =
    let d = c.requires in
    let f = c.in-Err.field-0 in
    cut_has_none c.args.bytes.now d.order d.types d.strings d.cut f.pos f.cause c.in-Err.ensures.holds
