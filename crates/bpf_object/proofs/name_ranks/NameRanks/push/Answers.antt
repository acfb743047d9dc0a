-- A greater name has the next rank.
use Rattle.std.proofs.Common.{◌≡◌, ◌<◌, List, ℕ, length, refl, sym, subst, arith}
use Rattle.std.specs.{Cmp.Lexicographic.slice_cmp, Ordering.nat_cmp}
use Rattle.std.specs.declared.cmp.Ordering.TheVariants.{Less}
use Rattle.std.proofs.Math.ListN.{set}
use Rattle.bpf_object.specs.private.NameRanks.{RankedNames, AreRanks, HasEnd, name_key}
use Rattle.bpf_object.proofs.RankLemmas.{ranks_pushed}
use Rattle.bpf_object.proofs.name_ranks.NameRanks.push.Goals as goal

pub invariant_of-self-2 : goal.invariant_of-self-2
invariant_of-self-2 g c =
    let s = c.self.inside in
    let name = c.args.name in
    let less =
    subst (λ (o : RankedNames). slice_cmp nat_cmp (name_key o.strings o.last.start) (name_key o.strings name.start) ≡ Less) (sym c.self.view_is) c.requires.greater in
    let there = subst (λ (o : RankedNames). name.start < length o.strings) (sym c.self.view_is) c.requires.there in
    let ends = subst (λ (o : RankedNames). HasEnd o.strings name) (sym c.self.view_is) c.requires.end in
    let pushed = ranks_pushed s.strings.now s.ranks.items s.names.items s.last c.self.invariant name.start there name refl ends less in
    let size : length c.push.new.self.items ≡ c.len.result = omega (arith, c.len.ensures) in
    subst (λ (k : ℕ). AreRanks s.strings.now (set s.ranks.items name.start k) c.push.new.self.items name) size
    (subst (λ (m : List ℕ). AreRanks s.strings.now (set s.ranks.items name.start (length m)) m name) (sym c.in_ok-push.ensures.items) pushed)
