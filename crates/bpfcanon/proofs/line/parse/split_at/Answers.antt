use Rattle.std.proofs.Common.{◌∙◌, codes}
use Rattle.std.specs.Str.Parse.{ParsesUnsigned, ExplainsUnsignedError, HasUnsignedDigitsIfOk}
use Rattle.clap.specs.Words.{found_of, one_text}
use Rattle.clap.proofs.WalkLemmas.{one_text-rows}
use Rattle.bpfcanon.proofs.LineLemmas.ParseLemmas.{reads_number}
use Rattle.bpfcanon.proofs.line.parse.split_at.Goals as goal

pub returns : goal.returns
returns c =
    let e = one_text-rows (found_of c.args.matches.now) (codes "split") in
    let n = reads_number _ (λ bs r. ParsesUnsigned 64 10 bs r × ExplainsUnsignedError 10 bs r × HasUnsignedDigitsIfOk bs r)
    (one_text (found_of c.args.matches.now) (codes "split")) c.get_one.result (λ u x g. g.0) c.get_one.ensures.none c.get_one.ensures.value in
    rw (← c.if-not-takes.ensures, ← e) (c.unwrap_or.ensures ∙ n)
