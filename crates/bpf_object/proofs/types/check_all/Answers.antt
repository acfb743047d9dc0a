use Rattle.std.proofs.Common.{rules, length}
use Rattle.bpf_elf.specs.Rules.{each}
use Rattle.bpf_elf.proofs.RuleLemmas.{stays_first}
use Rattle.bpf_object.specs.{Types.rules_of, Types.name_rules}
use Rattle.bpf_object.proofs.{StepLemmas.then_fails}
use Rattle.bpf_object.proofs.types.check_all.Goals as goal

pub returns-in_err-check_records : goal.returns-in_err-check_records
returns-in_err-check_records g c =
    let s = c.args.sections.now in
    let n = length s.frames in
    let here = stays_first (each n (rules_of c.args.first s)) (each n (name_rules c.args.first s)) _ c.in_err-check_records.ensures in
    search rules

pub returns : goal.returns
returns g c =
    let s = c.args.sections.now in
    let n = length s.frames in
    then_fails (each n (rules_of c.args.first s)) (each n (name_rules c.args.first s)) _ c.in_ok-check_records.ensures c.check_names.ensures
