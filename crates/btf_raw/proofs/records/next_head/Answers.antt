use Rattle.std.proofs.Common.{◌≡◌, arith}
use Rattle.btf_raw.specs.Kinds.{tail_words, kind_of, vlen_of}
use Rattle.btf_raw.proofs.RecordFaults.{least_of_info, tail_cut, info_at}
use Rattle.btf_raw.proofs.records.next_head.Goals as goal

pub returns-in-Err-clause-cases : goal.returns-in-Err-clause-cases
returns-in-Err-clause-cases c =
    rw c.at-in-Err.ensures.cause
    (least_of_info c.args.order c.args.types.now c.args.pos _ c.in-Err.cause (omega arith) c.at-in-Err.ensures.pos
    (rw c.get32-info.ensures.value at c.in-Err.ensures.cases))

pub returns-then-left-tail_len-clause-cases : goal.returns-then-left-tail_len-clause-cases
returns-then-left-tail_len-clause-cases c =
    let info = info_at c.args.order c.args.types.now c.args.pos in
    let read = rw c.get32-info.ensures.value at c.in-Ok.ensures.cases in
    let words : c.in-Ok.words ≡ tail_words (kind_of info) (vlen_of info) = read.1 in
    rw c.at-then-left-tail_len.ensures.cause
    (tail_cut c.args.order c.args.types.now c.args.pos _ (omega arith) c.at-then-left-tail_len.ensures.pos read.0 (omega arith))
