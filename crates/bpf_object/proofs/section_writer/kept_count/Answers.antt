use Rattle.std.proofs.Common.{◌≡◌, ◌+◌, ◌-◌, ◌∙◌, arith}
use Rattle.bpf_elf.specs.Numbers.{count}
use Rattle.bpf_object.proofs.TableLemmas.{kept_length}
use Rattle.bpf_object.proofs.section_writer.kept_count.Goals as goal

pub returns-clause-value : goal.returns-clause-value
returns-clause-value c =
    let b = c.args.elf.now in
    let whole : c.section_count-last.result - 1 + 1 ≡ count b = omega (arith, c.section_count-last.ensures.value, c.section_count-last.ensures.some) in
    c.counted.ensures
    ∙ kept_length b (c.section_count-last.result - 1) c.sections_before.result c.is_kept_section.result whole c.sections_before.ensures.value
    c.is_kept_section.ensures
