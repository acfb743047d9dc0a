use Rattle.std.proofs.Common.{rules}
use Rattle.bpf_object.specs.FunctionLines.{group_pairs}
use Rattle.bpf_object.specs.Lines.{lines_part}
use Rattle.bpf_object.specs.private.Pairs.{HasPairs}
use Rattle.bpf_object.specs.Sources.{section, HasParts}
use Rattle.bpf_object.proofs.ExtensionLemmas.{parts_fault, section_checked}
use Rattle.bpf_object.proofs.extension.check_section.Goals as goal

pub returns-in_err-check_parts : goal.returns-in_err-check_parts
returns-in_err-check_parts g c =
    let here = parts_fault (section c.args.x) _ c.in_ok-check_header.ensures.0 c.in_err-check_parts.ensures in
    search rules

pub returns : goal.returns
returns g c =
    let s = section c.args.x in
    section_checked s (HasParts c.args.x) (λ by_name. HasPairs c.args.x (lines_part s) (group_pairs s) by_name) c.check_pairs.result c.in_ok-check_header.ensures.0
    c.in_ok-check_parts.ensures.0 c.in_ok-check_parts.ensures.1 (rw c.lines_part.ensures at c.check_pairs.ensures)
