-- The first NUL of the rest ends the string.
use Rattle.std.proofs.{Common.arith, lemmas.Bool.eqb-true, lemmas.Bool.eq-eqb, lemmas.List.take_rest}
use Rattle.btf_raw.proofs.Texts.{IsEnd-first}
use Rattle.btf_raw.proofs.names.text_end.Goals as goal

pub returns : goal.returns
returns c =
    let found = rw (c.unwrap.ensures, take_rest) at c.memchr.ensures in
    IsEnd-first c.args.strings.now c.args.off _ found.0.high (eqb-true _ _ found.1) (λ i lt is. found.0.before i (omega arith) lt (eq-eqb _ _ is))
