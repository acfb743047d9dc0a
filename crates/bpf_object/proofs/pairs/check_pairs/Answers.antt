use Rattle.std.proofs.lemmas.Result.{err_from_is_err_and}
use Rattle.bpf_object.specs.declared.extension.Part.TheVariants.{Functions}
use Rattle.bpf_object.specs.Sources.{section}
use Rattle.bpf_object.proofs.CursorLemmas.{group_there, fewer_groups}
use Rattle.bpf_object.proofs.PairSteps.{start, fails, function_there, line_there, more, function_only, line_only, finished}
use Rattle.bpf_object.proofs.pairs.check_pairs.Goals as goal

pub loop-functions-init : goal.loop-functions-init
loop-functions-init g c =
    start c.args.x c.args.part c.new-by_name.result c.first_group-functions.result c.first_group-lines.result c.first_group-functions.ensures c.first_group-lines.ensures
    c.requires.functions c.requires.lines c.new-by_name.ensures.empty

pub add_pair-requires-clause-functions : goal.add_pair-requires-clause-functions
add_pair-requires-clause-functions g c =
    function_there c.args.x c.args.part c.loop-functions.by_name c.loop-functions.functions c.loop-functions.lines c.loop-functions.invariant _ _ c.in-Some-Some.is-0 c.in-Some-Some.is-1

pub add_pair-requires-clause-lines : goal.add_pair-requires-clause-lines
add_pair-requires-clause-lines g c =
    line_there c.args.x c.args.part c.loop-functions.by_name c.loop-functions.functions c.loop-functions.lines c.loop-functions.invariant _ _ c.in-Some-Some.is-0 c.in-Some-Some.is-1

pub next_in-functions-requires : goal.next_in-functions-requires
next_in-functions-requires g c =
    function_there c.args.x c.args.part c.loop-functions.by_name c.loop-functions.functions c.loop-functions.lines c.loop-functions.invariant _ _ c.in-Some-Some.is-0 c.in-Some-Some.is-1

pub next_in-lines-requires : goal.next_in-lines-requires
next_in-lines-requires g c =
    line_there c.args.x c.args.part c.loop-functions.by_name c.loop-functions.functions c.loop-functions.lines c.loop-functions.invariant _ _ c.in-Some-Some.is-0 c.in-Some-Some.is-1

pub returns-in_err-add_pair-in-Some-Some : goal.returns-in_err-add_pair-in-Some-Some
returns-in_err-add_pair-in-Some-Some g c =
    let fault = err_from_is_err_and c.from_residual.result c.from_residual.ensures.1 in
    rw (fault.1, fault.2)
    (fails c.args.x c.args.part c.loop-functions.by_name c.loop-functions.functions c.loop-functions.lines c.loop-functions.invariant c.in-Some-Some.function_group c.in-Some-Some.line_group c.in-Some-Some.is-0 c.in-Some-Some.is-1 _ c.in_err-add_pair-in-Some-Some.ensures)

pub loop-functions-smaller : goal.loop-functions-smaller
loop-functions-smaller g c =
    fewer_groups (section c.args.x) Functions c.loop-functions.functions c.in-Some-Some.function_group _ c.in-Some-Some.is-0 c.next_in-functions.ensures

pub loop-functions-preserved : goal.loop-functions-preserved
loop-functions-preserved g c =
    more c.args.x c.args.part c.loop-functions.by_name c.loop-functions.functions c.loop-functions.lines c.loop-functions.invariant c.in-Some-Some.function_group c.in-Some-Some.line_group c.in-Some-Some.is-0 c.in-Some-Some.is-1 c.add_pair.new.by_name
    c.next_in-functions.result c.next_in-lines.result c.next_in-functions.ensures c.next_in-lines.ensures c.in_ok-add_pair-in-Some-Some.ensures

pub single_fault-requires : goal.single_fault-requires
single_fault-requires g c = group_there c.args.x Functions c.loop-functions.functions _ c.in-Some-None.is-0 c.loop-functions.invariant.functions_left

pub returns-in-Some-None : goal.returns-in-Some-None
returns-in-Some-None g c =
    function_only c.args.x c.args.part c.loop-functions.by_name c.loop-functions.functions c.loop-functions.lines c.loop-functions.invariant c.in-Some-None.group c.in-Some-None.is-0 c.in-Some-None.is-1 _ c.single_fault.ensures

pub single_fault-requires-in-None-Some : goal.single_fault-requires-in-None-Some
single_fault-requires-in-None-Some g c = group_there c.args.x c.args.part c.loop-functions.lines _ c.in-None-Some.is-1 c.loop-functions.invariant.lines_left

pub returns-in-None-Some : goal.returns-in-None-Some
returns-in-None-Some g c =
    line_only c.args.x c.args.part c.loop-functions.by_name c.loop-functions.functions c.loop-functions.lines c.loop-functions.invariant c.in-None-Some.group c.in-None-Some.is-0 c.in-None-Some.is-1 _ c.single_fault-in-None-Some.ensures

pub returns-in-None-None : goal.returns-in-None-None
returns-in-None-None g c =
    finished c.args.x c.args.part c.loop-functions.by_name c.loop-functions.functions c.loop-functions.lines c.loop-functions.invariant c.in-None-None.is-0 c.in-None-None.is-1
