use Rattle.std.proofs.Common.{rules, arith, []}
use Rattle.bpf_insn.specs.declared.decode.InsnError.TheVariants as error
use Rattle.bpf_canon.proofs.InsnLemmas.CanonLemmas.{names_no_file, names_of_feed, recoded_of, recoded_once}
use Rattle.bpf_canon.proofs.insn.canon.recode_insns.Goals as goal

pub returns-clause-found : goal.returns-clause-found
returns-clause-found g c =
    let represents = c.new-feed.ensures.represents in
    let fed = c.in_ok-feed.ensures.moves (search rules) in
    let end = c.in_ok-finish.ensures.answer c.args.order _ _ (fed.0.represents _ _ [] represents) in
    let moves = rw c.new-written.ensures.items at fed.0 in
    (end.0, (end.1.0, recoded_of c.new-feed.result c.feed.new.self c.args.order c.args.to c.args.bytes.now c.feed.new.out.items end.0 represents moves end.1.0))

pub returns-clause-all : goal.returns-clause-all
returns-clause-all g c = λ l file.
    recoded_once c.args.order c.args.to c.args.bytes.now c.feed.new.out.items l (returns-clause-found g c) file

pub returns-in_err-finish-clause-fault : goal.returns-in_err-finish-clause-fault
returns-in_err-finish-clause-fault g c =
    let fed = c.in_ok-feed.ensures.moves (search rules) in
    let fault = c.in_err-finish.ensures.answer c.args.order _ _ (fed.0.represents _ _ [] c.new-feed.ensures.represents) in
    grind (arith, fault, c.from_residual-in_err-finish.ensures.1)

pub returns-in_err-finish-clause-all : goal.returns-in_err-finish-clause-all
returns-in_err-finish-clause-all g c = λ l file.
    let fed = c.in_ok-feed.ensures.moves (search rules) in
    let fault = c.in_err-finish.ensures.answer c.args.order _ _ (fed.0.represents _ _ [] c.new-feed.ensures.represents) in
    let none = names_no_file c.args.order c.args.bytes.now (error.Fault c.in_err-finish.field-0.0) l fault file in
    grind (arith, none, c.from_residual-in_err-finish.ensures.1)

pub returns-in_err-feed-clause-fault : goal.returns-in_err-feed-clause-fault
returns-in_err-feed-clause-fault g c =
    let fault = names_of_feed c.args.order c.args.bytes.now c.in_err-feed.field-0.0 (c.in_err-feed.ensures.answer c.args.order _ [] (search rules) c.new-feed.ensures.represents) in
    grind (arith, fault, c.from_residual.ensures.1)

pub returns-in_err-feed-clause-all : goal.returns-in_err-feed-clause-all
returns-in_err-feed-clause-all g c = λ l file.
    let fault = names_of_feed c.args.order c.args.bytes.now c.in_err-feed.field-0.0 (c.in_err-feed.ensures.answer c.args.order _ [] (search rules) c.new-feed.ensures.represents) in
    let none = names_no_file c.args.order c.args.bytes.now c.in_err-feed.field-0.0 l fault file in
    grind (arith, none, c.from_residual.ensures.1)
