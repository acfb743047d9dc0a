-- The names are noted one after another.
use Rattle.std.proofs.Common.{sym, subst, arith}
use Rattle.bpf_object.specs.private.NameRanks.{AreNames, Rise}
use Rattle.bpf_object.proofs.RankLemmas.{up_to_none, up_to_more, next_name, all_noted}
use Rattle.bpf_object.proofs.name_ranks.NameRanks.new.Goals as goal

pub loop-name-init : goal.loop-name-init
loop-name-init g c = up_to_none c.args.strings.now c.deref-name-items.result.now c.in_ok-ranks.ranks c.requires.closed c.in_ok-ranks.ensures

pub add-requires : goal.add-requires
add-requires g c =
    let strings = c.args.strings.now in
    let names = c.deref-name-items.result.now in
    let are = subst (AreNames strings c.args.offsets.now) (sym c.deref-name-items.ensures.value) c.in_ok-names.ensures.are in
    let next = next_name strings names c.args.offsets.now are c.loop-name.ranks c.loop-name.name-index c.loop-name.invariant c.requires.inside c.requires.few (omega arith) in
    record { there = next.there; few = next.few; end = next.end; not_less = next.not_less }

pub loop-name-preserved : goal.loop-name-preserved
loop-name-preserved g c =
    let strings = c.args.strings.now in
    let names = c.deref-name-items.result.now in
    let rise = subst (Rise strings) (sym c.deref-name-items.ensures.value) c.in_ok-names.ensures.rise in
    up_to_more strings names c.loop-name.name-index c.loop-name.ranks c.add.new.self rise (omega arith) c.loop-name.invariant c.in_ok-add.ensures.strings c.in_ok-add.ensures.notes

pub returns-clause-noted : goal.returns-clause-noted
returns-clause-noted g c =
    let strings = c.args.strings.now in
    let names = c.deref-name-items.result.now in
    let are = subst (AreNames strings c.args.offsets.now) (sym c.deref-name-items.ensures.value) c.in_ok-names.ensures.are in
    all_noted strings names c.args.offsets.now are c.loop-name.ranks c.loop-name.name-index c.loop-name.invariant (omega arith)
