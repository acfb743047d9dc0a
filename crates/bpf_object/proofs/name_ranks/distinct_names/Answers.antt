-- One more name is there, and its end is known.
use Rattle.std.proofs.Common.{◌≡◌, ◌+◌, List, take, sym, subst, ◌∙◌, arith}
use Rattle.std.specs.List.{All}
use Rattle.std.proofs.lemmas.List.{take_all}
use Rattle.bpf_object.specs.declared.name_ranks.NameAt.{NameAt}
use Rattle.bpf_object.specs.private.NameRanks.{HasEnd, HasSame, starts}
use Rattle.bpf_object.proofs.{NameEnds.one_more, NameLists.starts_more}
use Rattle.bpf_object.proofs.name_ranks.distinct_names.Goals as goal

pub loop-off-preserved : goal.loop-off-preserved
loop-off-preserved g c =
    let names = c.loop-off.names.items in
    let name = c.name_at-last.result in
    let offsets = c.deref-off-items.result.now in
    let k = c.loop-off.off-index in
    let before = c.loop-off.invariant in
    record {
      last = c.name_at-last.ensures.end;
      each =
          subst (λ (all : List NameAt). All (HasEnd c.args.strings.now) all) (sym c.in_ok-push.ensures.items)
          (one_more c.args.strings.now names name before.each c.name_at-last.ensures.end);
      begin =
          subst (λ (all : List NameAt). starts all ≡ take (k + 1) offsets) (sym c.in_ok-push.ensures.items)
          (starts_more names name offsets k before.begin (omega arith) c.name_at-last.ensures.start);
    }

pub returns : goal.returns
returns g c =
    let names = c.loop-off.names.items in
    let offsets = c.deref-off-items.result.now in
    let whole = c.loop-off.invariant.begin ∙ take_all c.loop-off.off-index offsets (omega arith) ∙ c.deref-off-items.ensures.value in
    record { ends = c.loop-off.invariant.each; same = subst (HasSame c.args.offsets.now) (sym whole) c.in_ok-distinct.ensures }
