use Rattle.std.proofs.Common.{◌≡◌, ◌∷◌, [], refl, arith}
use Rattle.std.specs.Option.{option_to_list}
use Rattle.bpf_text.specs.insn.Listing.{lines_of}
use Rattle.bpf_text.proofs.InsnLemmas.{ListingLemmas.at_a_fault, TakenLines.none_taken, TakenLines.one_taken, TakenLines.no_more_taken, TakenLines.one_more_taken, TakenLines.all_taken}
use Rattle.bpf_text.proofs.insn.read.read_lines.Goals as goal
use Rattle.bpf_text.proofs.insn.read.read_lines.Goals.{in-Some+in_ok-take, in_default}

pub lines-init : goal.lines-init
lines-init g c = record { so_far = none_taken _ c.args.text.now c.args.sink.now; bound = omega arith }

pub returns-in_err-insn : goal.returns-in_err-insn
returns-in_err-insn g c =
    let so_far = c.lines.invariant.so_far in
    at_a_fault _ c.args.text.now c.lines.rest.now c.first_line.result.0.now c.first_line.result.1 so_far.insns c.lines.number c.in_err-insn.field-0.0 c.from_residual.result so_far.so_far c.first_line.ensures.lines c.in_err-insn.ensures
    c.from_residual.ensures.1

pub returns-in_default-following : goal.returns-in_default-following
returns-in_default-following g c =
    let last : lines_of c.lines.rest.now ≡ c.first_line.result.0.now ∷ [] = rw c.in_default-following.is at c.first_line.ensures.lines in
    all_taken _ c.args.text.now c.lines.rest.now c.first_line.result.0.now (option_to_list c.in_ok-insn.field-0) c.lines.number _ _ _ c.lines.invariant.so_far last c.in_ok-insn.ensures
    (elim c.match-branch-2.branch [ in-Some+in_ok-take w ↦ one_taken (goal.F-post g c.args.take) c.first_line.result.0.now _ w.in-Some.insn c.lines.sink _ _ _ w.in-Some.is c.in_ok-insn.ensures refl w.sink-is w.in_ok-take.ensures | in_default w ↦ no_more_taken (goal.F-post g c.args.take) _ _ _ w.in_default.is w.sink-is ])

pub lines-preserved : goal.lines-preserved
lines-preserved g c =
    let line : lines_of c.lines.rest.now ≡ c.first_line.result.0.now ∷ lines_of c.in-Some-following.following.now = rw c.in-Some-following.is at c.first_line.ensures.lines in
    let shorter = rw c.in-Some-following.is at c.first_line.ensures.shorter in
    record {
      so_far = one_more_taken _ c.args.text.now c.lines.rest.now c.first_line.result.0.now c.in-Some-following.following.now (option_to_list c.in_ok-insn.field-0) c.lines.number _ _ _ c.lines.invariant.so_far line c.in_ok-insn.ensures
          (elim c.match-branch-2.branch [ in-Some+in_ok-take w ↦ one_taken (goal.F-post g c.args.take) c.first_line.result.0.now _ w.in-Some.insn c.lines.sink _ _ _ w.in-Some.is c.in_ok-insn.ensures refl w.sink-is w.in_ok-take.ensures | in_default w ↦ no_more_taken (goal.F-post g c.args.take) _ _ _ w.in_default.is w.sink-is ]);
      bound = omega (arith, c.lines.invariant.bound, shorter);
    }
