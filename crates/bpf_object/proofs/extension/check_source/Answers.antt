use Rattle.std.proofs.Common.{rules}
use Rattle.std.proofs.lemmas.Result.{err_from_is_err_and}
use Rattle.bpf_elf.proofs.RuleLemmas.{next_fault, both_hold}
use Rattle.bpf_object.specs.declared.extension.Part.TheVariants.{Relocations}
use Rattle.bpf_object.specs.Extension.{groups}
use Rattle.bpf_object.specs.Lines.{accesses_rules, section_rules}
use Rattle.bpf_object.specs.Sources.{section}
use Rattle.bpf_object.proofs.ExtensionLemmas.{first_fails}
use Rattle.bpf_object.proofs.extension.check_source.Goals as goal

pub returns-in_err-check_section : goal.returns-in_err-check_section
returns-in_err-check_section g c =
    let s = section c.args.x in
    let fault = err_from_is_err_and c.from_residual.result c.from_residual.ensures.1 in
    rw (fault.1, fault.2) (first_fails (section_rules s) (accesses_rules s (groups s Relocations)) _ c.in_err-check_section.ensures)

pub returns-in_err-check_accesses : goal.returns-in_err-check_accesses
returns-in_err-check_accesses g c =
    let s = section c.args.x in
    let here = next_fault (section_rules s) (accesses_rules s (groups s Relocations)) _ c.in_ok-check_section.ensures.0 c.in_err-check_accesses.ensures in
    search rules

pub returns : goal.returns
returns g c =
    let s = section c.args.x in
    both_hold (section_rules s) (accesses_rules s (groups s Relocations)) c.in_ok-check_section.ensures.0 c.in_ok-check_accesses.ensures
