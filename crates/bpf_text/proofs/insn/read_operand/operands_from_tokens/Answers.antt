use Rattle.std.proofs.Common.{◌-◌, ◌+◌, ◌<◌, length, take, drop, map, refl, arith}
use Rattle.bpf_text.proofs.InsnLemmas.Outcomes.{on_ok, on_err, when_none}
use Rattle.bpf_text.proofs.InsnLemmas.OperandsLemmas.{bytes_of, starts, one_more, all_read, none_read, too_many, next_part, last_part, some_part, some_from_test}
use Rattle.bpf_text.proofs.insn.read_operand.operands_from_tokens.Goals as goal

pub parts-init : goal.parts-init
parts-init c =
    record { so_far = starts (map bytes_of c.args.tokens.now) c.new-operands.result.items c.new-operands.ensures; within = omega arith }

pub returns-in_err-operand-clause-none : goal.returns-in_err-operand-clause-none
returns-in_err-operand-clause-none c =
    let xs = c.args.tokens.now in
    let part = some_part xs c.parts.start c.part_end-end.result c.part_end-end.ensures.value c.part_end-end.ensures.within in
    when_none _ c.from_residual.result
    (λ spelled l. none_read (map bytes_of xs) (map bytes_of (drop c.parts.start xs)) (map bytes_of (take (c.part_end-end.result - c.parts.start) (drop c.parts.start xs))) part.0 c.parts.operands.items
    (some_from_test xs c.is_empty.result c.is_empty.ensures c.if-is_empty.false) c.parts.invariant.so_far part.1 c.in_err-operand.ensures spelled)

pub returns-then-is_err-clause-none : goal.returns-then-is_err-clause-none
returns-then-is_err-clause-none c =
    let xs = c.args.tokens.now in
    let part = some_part xs c.parts.start c.part_end-end.result c.part_end-end.ensures.value c.part_end-end.ensures.within in
    too_many (map bytes_of xs) (map bytes_of (drop c.parts.start xs)) (map bytes_of (take (c.part_end-end.result - c.parts.start) (drop c.parts.start xs))) part.0 c.parts.operands.items 3
    c.parts.invariant.so_far part.1 (on_err _ c.try_push.result c.is_err.result c.is_err.ensures.value c.if-is_err.true c.try_push.ensures.full) (omega arith)

pub returns-then-end-tokens-clause-some : goal.returns-then-end-tokens-clause-some
returns-then-end-tokens-clause-some c =
    let xs = c.args.tokens.now in
    let read = c.in_ok-operand.ensures in
    let pushed = on_ok _ c.try_push.result c.is_err.result c.is_err.ensures.value c.if-is_err.false c.try_push.ensures.ok in
    all_read (map bytes_of xs) (map bytes_of (drop c.parts.start xs)) (map bytes_of (take (c.part_end-end.result - c.parts.start) (drop c.parts.start xs))) c.parts.operands.items c.try_push.new.self.items c.in_ok-operand.operand read.0
    c.parts.invariant.so_far
    (last_part xs c.parts.start c.part_end-end.result c.part_end-end.ensures.value (take (c.part_end-end.result - c.parts.start) (drop c.parts.start xs)) refl c.if-end-tokens.true)
    read.1 read.2 pushed

pub parts-preserved : goal.parts-preserved
parts-preserved c =
    let xs = c.args.tokens.now in
    let read = c.in_ok-operand.ensures in
    let pushed = on_ok _ c.try_push.result c.is_err.result c.is_err.ensures.value c.if-is_err.false c.try_push.ensures.ok in
    let inside : c.part_end-end.result < length xs = omega (arith, c.part_end-end.ensures.within) in
    record {
      so_far = one_more (map bytes_of xs) (map bytes_of (drop c.parts.start xs)) (map bytes_of (take (c.part_end-end.result - c.parts.start) (drop c.parts.start xs))) (map bytes_of (drop (c.part_end-end.result + 1) xs))
          c.parts.operands.items c.try_push.new.self.items c.in_ok-operand.operand read.0 c.parts.invariant.so_far
          (next_part xs c.parts.start c.part_end-end.result c.part_end-end.ensures.value (take (c.part_end-end.result - c.parts.start) (drop c.parts.start xs)) refl inside)
          read.1 read.2 pushed;
      within = omega arith;
    }
