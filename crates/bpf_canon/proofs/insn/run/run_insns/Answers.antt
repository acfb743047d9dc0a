use Rattle.std.proofs.Common.{rules, arith, ◌≡◌, ◌≤◌, ◌-◌, length, min}
use Rattle.std.proofs.lemmas.List.{length-take-le}
use Rattle.bpf_canon.specs.insn.Run.{limit}
use Rattle.bpf_canon.proofs.InsnLemmas.RunLemmas.{running_within, run_unread, run_whole, run_cut, run_more, run_too_long, run_stops, cut_chunk, passed_small, stops_small}
use Rattle.bpf_canon.proofs.insn.run.run_insns.Goals as goal

pub returns-in-Err-clause-err : goal.returns-in-Err-clause-err
returns-in-Err-clause-err g c =
    rw (c.stopped.ensures.cause, c.stopped.ensures.written) (run_unread _ _ _ _ _ _ _ _ _ c.reads.invariant.running c.in-Err.ensures.bytes)

pub overflow_add-written : goal.overflow_add-written
overflow_add-written g c =
    let inside : c.min-within.result ≡ min c.in-Ok.n (limit - c.reads.feed.fed) = rw c.fed.ensures at c.min-within.ensures in
    let room : c.in-Ok.n ≤ length c.read.new.buffer = search rules in
    let size = length-take-le c.min-within.result c.read.new.buffer (omega arith) in
    let small = passed_small _ _ _ _ _ _ _ _ _ _ _ _ c.reads.invariant.running c.in-Ok-pass_on.ensures.ok (omega (arith, size, running_within _ _ _ _ _ c.reads.invariant.running)) in
    omega (arith, small)

pub overflow_add-written-in-Err-pass_on : goal.overflow_add-written-in-Err-pass_on
overflow_add-written-in-Err-pass_on g c =
    let inside : c.min-within.result ≡ min c.in-Ok.n (limit - c.reads.feed.fed) = rw c.fed.ensures at c.min-within.ensures in
    let room : c.in-Ok.n ≤ length c.read.new.buffer = search rules in
    let size = length-take-le c.min-within.result c.read.new.buffer (omega arith) in
    let small = stops_small _ _ _ _ _ _ _ _ _ _ _ _ _ c.reads.invariant.running c.in-Err-pass_on.ensures.err (omega (arith, size, running_within _ _ _ _ _ c.reads.invariant.running)) in
    omega (arith, small)

pub returns-in-Err-pass_on-clause-err : goal.returns-in-Err-pass_on-clause-err
returns-in-Err-pass_on-clause-err g c =
    let run = c.reads.invariant.running in
    let inside : c.min-within.result ≡ min c.in-Ok.n (limit - c.reads.feed.fed) = rw c.fed.ensures at c.min-within.ensures in
    let room : c.in-Ok.n ≤ length c.read.new.buffer = search rules in
    let size = length-take-le c.in-Ok.n c.read.new.buffer room in
    let cut = cut_chunk run.read c.read.new.buffer c.reads.feed.fed c.in-Ok.n c.min-within.result run.represents.fed (running_within _ _ _ _ _ run) room inside in
    rw (c.stopped-in-Err-pass_on.ensures.cause, c.stopped-in-Err-pass_on.ensures.written)
    (run_stops _ _ _ _ _ _ _ _ _ _ _ _ _ _ _ run c.in-Ok.ensures.bytes.0 c.in-Err-pass_on.ensures.err cut (omega (arith, size, room)))

pub returns-then-within-n-clause-err : goal.returns-then-within-n-clause-err
returns-then-within-n-clause-err g c =
    let run = c.reads.invariant.running in
    let inside : c.min-within.result ≡ min c.in-Ok.n (limit - c.reads.feed.fed) = rw c.fed.ensures at c.min-within.ensures in
    let room : c.in-Ok.n ≤ length c.read.new.buffer = search rules in
    let size = length-take-le c.in-Ok.n c.read.new.buffer room in
    let cut = cut_chunk run.read c.read.new.buffer c.reads.feed.fed c.in-Ok.n c.min-within.result run.represents.fed (running_within _ _ _ _ _ run) room inside in
    rw (c.stopped-then-within-n.ensures.cause, c.stopped-then-within-n.ensures.written)
    (run_too_long _ _ _ _ _ _ _ _ _ _ _ _ _ _ run c.in-Ok.ensures.bytes.0 c.in-Ok-pass_on.ensures.ok cut (omega (arith, inside, c.if-within-n.true, size)) (omega (arith, size, room)))

pub reads-preserved : goal.reads-preserved
reads-preserved g c =
    let run = c.reads.invariant.running in
    let inside : c.min-within.result ≡ min c.in-Ok.n (limit - c.reads.feed.fed) = rw c.fed.ensures at c.min-within.ensures in
    let all : c.min-within.result ≡ c.in-Ok.n = omega (arith, inside, c.if-within-n.false) in
    let room : c.in-Ok.n ≤ length c.read.new.buffer = search rules in
    let size = length-take-le c.min-within.result c.read.new.buffer (omega (arith, all, room)) in
    let came = rw (← all) at c.in-Ok.ensures.bytes.0 in
    record {
      running = run_more _ _ _ _ _ _ _ _ _ _ _ _ _ run came c.in-Ok-pass_on.ensures.ok (omega (arith, inside, size, running_within _ _ _ _ _ run));
      reads = search rules;
      writes = search rules;
    }

pub returns-in-Ok-finish-clause-ok : goal.returns-in-Ok-finish-clause-ok
returns-in-Ok-finish-clause-ok g c =
    let bytes = c.in-Ok-eq0.ensures.bytes in
    let zero : c.in-Ok-eq0.field-0 ≡ 0 = search rules in
    let none = rw zero at bytes.0 in
    run_whole _ _ _ _ _ _ _ _ _ c.reads.invariant.running none (bytes.1 zero (omega arith))
    (λ read h. let a = c.in-Ok-finish.ensures.answer _ _ read h in (a.0, a.1.0))

pub returns-clause-err : goal.returns-clause-err
returns-clause-err g c =
    let bytes = c.in-Ok-eq0.ensures.bytes in
    let zero : c.in-Ok-eq0.field-0 ≡ 0 = search rules in
    let none = rw zero at bytes.0 in
    rw (c.stopped-in-Err-finish.ensures.cause, c.stopped-in-Err-finish.ensures.written)
    (run_cut _ _ _ _ _ _ _ _ _ _ c.reads.invariant.running none (bytes.1 zero (omega arith)) (λ read h. c.in-Err-finish.ensures.answer _ _ read h))
