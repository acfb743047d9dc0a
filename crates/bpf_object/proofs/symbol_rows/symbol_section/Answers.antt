use Rattle.std.proofs.Common.{◌∙◌, ap}
use Rattle.bpf_object.specs.Kept.{number_of, is_kept_section}
use Rattle.bpf_object.proofs.KeptLemmas.{section_is}
use Rattle.bpf_object.proofs.symbol_rows.symbol_section.Goals as goal

pub returns-else-is_special : goal.returns-else-is_special
returns-else-is_special c =
    section_is c.args.elf.now c.args.section _ c.if-is_special.ensures
    (c.sections_before.ensures.value ∙ ap (number_of (is_kept_section c.args.elf.now)) c.from.ensures)
