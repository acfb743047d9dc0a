use Rattle.std.proofs.Common.{ap, codes, ◌∙◌}
use Rattle.std.proofs.lemmas.List.{take_rest}
use Rattle.bpf_elf.specs.Kinds.{begins}
use Rattle.bpf_elf.proofs.NameStarts.{label_start}
use Rattle.bpf_elf.proofs.kept_symbols.begins_label.Goals as goal

pub returns : goal.returns
returns c =
    c.starts_with.ensures.value ∙ ap (λ xs. begins xs (codes "LBB")) (take_rest c.args.strings.now c.args.off)
    ∙ label_start c.args.strings.now c.args.off
