use Rattle.std.proofs.Common.{◌∷◌, [], ◌∙◌, rules}
use Rattle.std.proofs.lemmas.List.{map-id, Concat.flat_map_single}
use Rattle.bpf_text.proofs.InsnLemmas.{Excludes.only_memory, OneInsn.one_listing, TakenLines.listed_from_none}
use Rattle.bpf_text.proofs.insn.read.read_listing.Goals as goal

pub returns-in_err-read_lines-clause-all : goal.returns-in_err-read_lines-clause-all
returns-in_err-read_lines-clause-all g c = λ l k.
    only_memory _ c.args.text.now c.in_err-read_lines.field-0.0 c.from_residual.result c.from_residual.ensures.1 c.in_err-read_lines.ensures l k

pub returns-clause-found : goal.returns-clause-found
returns-clause-found g c =
    let found = listed_from_none _ (λ v. v.items) (λ i. i ∷ []) c.args.text.now _ _ c.new-insns.ensures.items c.in_ok-read_lines.ensures (λ v w i k ran. search rules) in
    rw (found.2 ∙ flat_map_single (λ i. i) found.0 ∙ map-id found.0) found.1

pub returns-clause-all : goal.returns-clause-all
returns-clause-all g c = λ l k. one_listing c.args.text.now _ l (returns-clause-found g c) k
