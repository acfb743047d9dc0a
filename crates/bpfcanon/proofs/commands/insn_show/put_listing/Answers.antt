use Rattle.std.proofs.Common.{◌≡◌, ◌++◌, ◌∙◌, append_assoc, codes, arith}
use Rattle.bpf_text.specs.insn.Lines.{line_of}
use Rattle.bpfcanon.proofs.CommandsLemmas.InsnShowLemmas.{faultless, line, listed_front, listed_handed, listed_more, listed_none, listed_put, listed_stopped, moved_on}
use Rattle.bpfcanon.proofs.commands.insn_show.put_listing.Goals as goal

pub loop-pos-init : goal.loop-pos-init
loop-pos-init g c = rw c.new-piece.ensures.items (listed_none c.args.order c.args.input.now _ _ c.requires.file)

pub returns-in_err-push_line-in-Ok : goal.returns-in_err-push_line-in-Ok
returns-in_err-push_line-in-Ok g c =
    listed_handed _ _ _ _ c.from_residual.result c.from_residual.ensures.1 (listed_front _ _ _ _ _ _ _ _ c.loop-pos.invariant c.loop-pos-test.true)

pub returns-in_err-put_long_piece-in-Ok : goal.returns-in_err-put_long_piece-in-Ok
returns-in_err-put_long_piece-in-Ok g c =
    let pushed : c.push_line.new.out.items ≡ c.loop-pos.piece.items ++ line c.in-Ok.found.0 =
    c.in_ok-push_line-in-Ok.ensures.ok ∙ append_assoc c.loop-pos.piece.items (line_of c.in-Ok.found.0) (codes "\n") in
    listed_handed _ _ _ c.in_err-put_long_piece-in-Ok.field-0.0 c.from_residual-in_err-put_long_piece-in-Ok.result c.from_residual-in_err-put_long_piece-in-Ok.ensures.1
    (listed_stopped _ _ _ _ _ _ _ _ c.loop-pos.invariant _ _ c.push_line.new.out.items c.put_long_piece.new.piece.items c.in-Ok.found.0 c.in_err-put_long_piece-in-Ok.field-0.0 c.loop-pos-test.true c.in-Ok.ensures.found.0 pushed c.in_err-put_long_piece-in-Ok.ensures.gathered)

pub loop-pos-smaller : goal.loop-pos-smaller
loop-pos-smaller g c = moved_on _ _ _ _ _ _ _ _ c.loop-pos.invariant c.in-Ok.found.0 c.in-Ok.found.1 c.loop-pos-test.true c.in-Ok.ensures.found

pub loop-pos-preserved : goal.loop-pos-preserved
loop-pos-preserved g c = grind (arith, append_assoc, listed_more)

pub unreachable-requires : goal.unreachable-requires
unreachable-requires g c = faultless _ _ _ _ _ _ _ _ c.loop-pos.invariant c.in-Err.field-0 c.loop-pos-test.true c.in-Err.ensures.fault

pub returns : goal.returns
returns g c = listed_put _ _ _ _ _ _ _ _ c.loop-pos.invariant _ _ c.put_piece.result c.loop-pos-test.false c.put_piece.ensures.put
