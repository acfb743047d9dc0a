use Rattle.std.proofs.Common.{ap, ◌∙◌, arith}
use Rattle.bpf_elf.specs.Numbers.{offset}
use Rattle.bpf_object.proofs.function_checks.value_offset.Goals as goal

pub returns : goal.returns
returns c = omega (arith, c.section-table.ensures.fields.offset ∙ ap (offset c.args.elf.now) c.section_of.ensures.value)
