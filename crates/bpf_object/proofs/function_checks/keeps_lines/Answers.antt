use Rattle.std.proofs.Common.{true, Some, None, Option, ap, ◌∙◌}
use Rattle.bpf_object.specs.declared.extension.Part.{Part}
use Rattle.bpf_object.specs.declared.pairs.Pair.{Pair}
use Rattle.bpf_object.specs.FunctionLines.{is_recorded}
use Rattle.bpf_object.specs.Lines.{lines_part}
use Rattle.bpf_object.specs.Sources.{section}
use Rattle.bpf_object.proofs.function_checks.keeps_lines.Goals as goal

pub returns-in-Some : goal.returns-in-Some
returns-in-Some c =
    let s = section c.args.x in
    c.is_recorded.ensures
    ∙ ap (λ (p : Part). is_recorded s p c.in-Some.pair c.args.symbol.value c.args.symbol.size) c.requires.lines
    ∙ ap (λ (o : Option Pair). elim o [ None ↦ true | Some q ↦ is_recorded s (lines_part s) q c.args.symbol.value c.args.symbol.size ]) (rw c.from.ensures at c.in-Some.ensures.value)

pub returns-in-None : goal.returns-in-None
returns-in-None c =
    let s = section c.args.x in
    ap (λ (o : Option Pair). elim o [ None ↦ true | Some q ↦ is_recorded s (lines_part s) q c.args.symbol.value c.args.symbol.size ]) (rw c.from.ensures at c.in-None.ensures.value)
