use Rattle.std.proofs.Common.{◌<◌, None, length, ◌∙◌, arith}
use Rattle.std.proofs.lemmas.List.{get_or_default}
use Rattle.bpf_object.proofs.PairLemmas.{pair_known}
use Rattle.bpf_object.proofs.function_checks.pair_at.Goals as goal

pub returns-clause-value : goal.returns-clause-value
returns-clause-value c =
    let size = c.requires.found.length_is in
    let there : c.args.i < length c.args.found.now = omega (arith, size, c.requires.there) in
    get_or_default c.args.found.now c.args.i _ None there ∙ c.requires.found.found c.args.i c.requires.there

pub returns-clause-known : goal.returns-clause-known
returns-clause-known c =
    let size = c.requires.found.length_is in
    let there : c.args.i < length c.args.found.now = omega (arith, size, c.requires.there) in
    pair_known c.args.x c.args.part _ (λ pair is. c.requires.found.each c.args.i pair c.requires.there (get_or_default c.args.found.now c.args.i None _ there ∙ is))
