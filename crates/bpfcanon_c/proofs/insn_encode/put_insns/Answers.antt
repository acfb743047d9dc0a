-- One record more.
use Rattle.std.proofs.Common.{◌≡◌, ◌+◌, ◌-◌, ◌++◌, ◌∙◌, ℕ, List, length, take, ap, arith}
use Rattle.std.proofs.lemmas.Slice.{take-put_mid, drop-put_mid}
use Rattle.bpfcanon_c.proofs.InsnWalk.{encodes_none, next_bytes, encodes_all}
use Rattle.bpfcanon_c.proofs.insn_encode.put_insns.Goals as goal

pub loop-k-init : goal.loop-k-init
loop-k-init c = encodes_none c.args.to c.args.rows.now c.args.out.now c.requires

pub slice_bounds-copy_from_slice-end : goal.slice_bounds-copy_from_slice-end
slice_bounds-copy_from_slice-end c =
    let made = c.raw_bytes-len in
    let next =
    next_bytes c.args.to c.args.rows.now c.loop-k.k c.loop-k.at c.loop-k.out _ made.result.0 made.result.1 c.loop-k.invariant c.loop-k-test.true made.ensures.encoded made.ensures.len
    in
    omega (arith, next.inside)

pub loop-k-preserved : goal.loop-k-preserved
loop-k-preserved c =
    let at = c.loop-k.at in
    let out = c.loop-k.out in
    let made = c.raw_bytes-len in
    let len = made.result.1 in
    let written = c.copy_from_slice.new.self in
    let next =
    next_bytes c.args.to c.args.rows.now c.loop-k.k at out _ made.result.0 len c.loop-k.invariant c.loop-k-test.true made.ensures.encoded made.ensures.len
    in
    let source : written ≡ take len made.result.0 = c.copy_from_slice.ensures.after in
    let long : length written ≡ len = ap length source ∙ next.long in
    next.more _
    (take-put_mid at (at + len - at) out written (at + len) (omega arith) next.begun ∙ ap (λ (x : List ℕ). take at out ++ x) source)
    (drop-put_mid at (at + len - at) out written (at + len) (omega arith) next.begun (omega arith))

pub returns : goal.returns
returns c = encodes_all c.args.to c.args.rows.now c.loop-k.k c.loop-k.at c.loop-k.out c.loop-k.invariant (omega (arith, c.loop-k-test.false))
