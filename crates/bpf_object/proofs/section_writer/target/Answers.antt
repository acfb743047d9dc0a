use Rattle.std.proofs.Common.{◌+◌, ℕ, ap, ◌∙◌, refl}
use Rattle.bpf_object.specs.Kept.{number_of, is_kept_section}
use Rattle.bpf_object.proofs.section_writer.target.Goals as goal

pub returns-then-is_table : goal.returns-then-is_table
returns-then-is_table c =
    let number = c.sections_before.ensures.value ∙ ap (number_of (is_kept_section c.args.elf.now)) c.section.ensures.fields.info in
    rw (← c.if-is_table.ensures) (ap (λ (n : ℕ). 1 + n) number)

pub returns-else-is_table : goal.returns-else-is_table
returns-else-is_table c = rw (← c.if-is_table.ensures) refl
