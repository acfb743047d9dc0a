use Rattle.std.proofs.Common.{◌∙◌}
use Rattle.bpf_text.proofs.InsnLemmas.EachMnemonic.{none_but_entry}
use Rattle.bpf_text.proofs.insn.mnemonic.Mnemonic.read.Goals as goal

pub returns-clause-none : goal.returns-clause-none
returns-clause-none c =
    none_but_entry c.args.token.now c.as_bytes.result.now c.index_of.result c.eq.result _ c.then_some.result c.index_of.ensures.value
    (c.as_bytes.ensures.value ∙ c.text.ensures) c.eq.ensures c.then_some.ensures
