use Rattle.std.proofs.Common.{rules, ◌++◌}
use Rattle.bpf_elf.proofs.RuleLemmas.{stays_first, next_fault, both_hold}
use Rattle.bpf_object.specs.declared.extension.Part.TheVariants.{Functions, Lines, Relocations}
use Rattle.bpf_object.specs.Extension.{part_rules}
use Rattle.bpf_object.specs.Sources.{section}
use Rattle.bpf_object.proofs.extension.check_parts.Goals as goal

pub returns-in_err-check_part : goal.returns-in_err-check_part
returns-in_err-check_part c =
    let s = section c.args.x in
    let here = stays_first (part_rules s Functions) (part_rules s Lines ++ part_rules s Relocations) _ c.in_err-check_part.ensures in
    search rules

pub returns-in_err-check_part-2 : goal.returns-in_err-check_part-2
returns-in_err-check_part-2 c =
    let s = section c.args.x in
    let here =
    next_fault (part_rules s Functions) (part_rules s Lines ++ part_rules s Relocations) _ c.in_ok-check_part.ensures.0
    (stays_first (part_rules s Lines) (part_rules s Relocations) _ c.in_err-check_part-2.ensures) in
    search rules

pub returns-in_err-check_part-3 : goal.returns-in_err-check_part-3
returns-in_err-check_part-3 c =
    let s = section c.args.x in
    let here =
    next_fault (part_rules s Functions) (part_rules s Lines ++ part_rules s Relocations) _ c.in_ok-check_part.ensures.0
    (next_fault (part_rules s Lines) (part_rules s Relocations) _ c.in_ok-check_part-2.ensures.0 c.in_err-check_part-3.ensures) in
    search rules

pub returns : goal.returns
returns c =
    let s = section c.args.x in (
      both_hold (part_rules s Functions) (part_rules s Lines ++ part_rules s Relocations) c.in_ok-check_part.ensures.0
          (both_hold (part_rules s Lines) (part_rules s Relocations) c.in_ok-check_part-2.ensures.0 c.in_ok-check_part-3.ensures.0),
      record { functions = c.in_ok-check_part.ensures.1; lines = c.in_ok-check_part-2.ensures.1; relocations = c.in_ok-check_part-3.ensures.1 },
    )
