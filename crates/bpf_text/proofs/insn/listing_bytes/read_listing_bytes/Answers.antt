use Rattle.std.proofs.Common.{◌∙◌, ap, rules}
use Rattle.bpf_insn.specs.Encoding.{encoding, file_of}
use Rattle.bpf_text.proofs.InsnLemmas.{Excludes.only_memory, OneInsn.one_listing, TakenLines.listed_from_none}
use Rattle.bpf_text.proofs.insn.listing_bytes.read_listing_bytes.Goals as goal

pub returns-in_err-read_lines-clause-all : goal.returns-in_err-read_lines-clause-all
returns-in_err-read_lines-clause-all g c = λ l k.
    only_memory _ c.args.text.now c.in_err-read_lines.field-0.0 c.from_residual.result c.from_residual.ensures.1 c.in_err-read_lines.ensures l k

pub returns-clause-found : goal.returns-clause-found
returns-clause-found g c = listed_from_none _ (λ v. v.items) (encoding c.args.to) c.args.text.now _ _ c.new-bytes.ensures.items c.in_ok-read_lines.ensures (λ v w i k ran. search rules)

pub returns-clause-all : goal.returns-clause-all
returns-clause-all g c = λ l k.
    let found = returns-clause-found g c in
    found.2 ∙ ap (file_of c.args.to) (one_listing c.args.text.now found.0 l found.1 k)
