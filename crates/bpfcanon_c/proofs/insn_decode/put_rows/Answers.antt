-- One instruction more.
use Rattle.std.proofs.Common.{◌+◌, ℕ, sym, arith, subst}
use Rattle.std.proofs.Math.ListN.{set}
use Rattle.bpfcanon_c.specs.declared.insn_rows.InsnRow.{InsnRow}
use Rattle.bpfcanon_c.specs.InsnSteps.{DecodesTo}
use Rattle.bpfcanon_c.proofs.InsnWalk.{decodes_none, next_insn, decodes_all}
use Rattle.bpfcanon_c.proofs.insn_decode.put_rows.Goals as goal

pub loop-k-init : goal.loop-k-init
loop-k-init c = decodes_none c.args.order c.args.bytes.now c.args.out.now c.requires

pub slice_bounds-put_row-count : goal.slice_bounds-put_row-count
slice_bounds-put_row-count c =
    let next = next_insn c.args.order c.args.bytes.now c.loop-k.k c.loop-k.pos c.loop-k.out c.loop-k.invariant (omega (arith, c.loop-k-test.true)) in
    omega (arith, next.inside)

pub slice_bounds-put_row-start : goal.slice_bounds-put_row-start
slice_bounds-put_row-start c =
    let next = next_insn c.args.order c.args.bytes.now c.loop-k.k c.loop-k.pos c.loop-k.out c.loop-k.invariant (omega (arith, c.loop-k-test.true)) in
    omega (arith, next.inside)

pub put_row-pos-requires : goal.put_row-pos-requires
put_row-pos-requires c =
    let next = next_insn c.args.order c.args.bytes.now c.loop-k.k c.loop-k.pos c.loop-k.out c.loop-k.invariant (omega (arith, c.loop-k-test.true)) in
    (next.insn, next.begins)

pub overflow_add-pos : goal.overflow_add-pos
overflow_add-pos c =
    let next = next_insn c.args.order c.args.bytes.now c.loop-k.k c.loop-k.pos c.loop-k.out c.loop-k.invariant (omega (arith, c.loop-k-test.true)) in
    let put = c.put_row-pos.ensures next.insn next.begins in
    omega (arith, next.inside, put.1)

pub loop-k-preserved : goal.loop-k-preserved
loop-k-preserved c =
    let o = c.args.order in
    let bytes = c.args.bytes.now in
    let k = c.loop-k.k in
    let pos = c.loop-k.pos in
    let out = c.loop-k.out in
    let next = next_insn o bytes k pos out c.loop-k.invariant (omega (arith, c.loop-k-test.true)) in
    let put = c.put_row-pos.ensures next.insn next.begins in
    let After : InsnRow → ℕ → Type 0 = λ row len. DecodesTo o bytes (k + 1) (pos + len) (set out k row) in
    subst (λ (row : InsnRow). After row c.put_row-pos.result) (sym put.0) (subst (After _) (sym put.1) next.more)

pub returns : goal.returns
returns c = decodes_all c.args.order c.args.bytes.now c.loop-k.k c.loop-k.pos c.loop-k.out c.loop-k.invariant (omega arith)
