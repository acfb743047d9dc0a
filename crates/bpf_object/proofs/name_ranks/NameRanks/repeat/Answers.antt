-- An equal name has the same rank, and is noted.
use Rattle.std.proofs.Common.{◌≡◌, ◌<◌, ℕ, length, sym, subst, arith}
use Rattle.std.specs.{Cmp.Lexicographic.slice_cmp, Ordering.nat_cmp}
use Rattle.std.specs.declared.cmp.Ordering.TheVariants.{Equal}
use Rattle.std.proofs.Math.ListN.{set}
use Rattle.bpf_object.specs.private.NameRanks.{RankedNames, AreRanks, Notes, name_key}
use Rattle.bpf_object.proofs.RankLemmas.{ranks_repeated, repeat_notes}
use Rattle.bpf_object.proofs.name_ranks.NameRanks.repeat.Goals as goal

pub invariant_of-self : goal.invariant_of-self
invariant_of-self g c =
    let s = c.self.inside in
    let equal =
    subst (λ (o : RankedNames). slice_cmp nat_cmp (name_key o.strings o.last.start) (name_key o.strings c.args.off) ≡ Equal) (sym c.self.view_is) c.requires.same in
    let there = subst (λ (o : RankedNames). c.args.off < length o.strings) (sym c.self.view_is) c.requires.there in
    let size : length s.names.items ≡ c.len.result = omega (arith, c.len.ensures) in
    subst (λ (k : ℕ). AreRanks s.strings.now (set s.ranks.items c.args.off k) s.names.items s.last) size
    (ranks_repeated s.strings.now s.ranks.items s.names.items s.last c.self.invariant c.args.off there equal)

pub returns-clause-notes : goal.returns-clause-notes
returns-clause-notes g c =
    let s = c.self.inside in
    let off = c.args.off in
    let old : RankedNames = record { strings = s.strings.now; ranks = s.ranks.items; names = s.names.items; last = s.last } in
    let new : RankedNames = record { strings = s.strings.now; ranks = set s.ranks.items off c.len.result; names = s.names.items; last = s.last } in
    let equal = subst (λ (o : RankedNames). slice_cmp nat_cmp (name_key o.strings o.last.start) (name_key o.strings off) ≡ Equal) (sym c.self.view_is) c.requires.same in
    let there = subst (λ (o : RankedNames). off < length o.strings) (sym c.self.view_is) c.requires.there in
    let size : c.len.result ≡ length s.names.items = omega (arith, c.len.ensures) in
    subst (λ (o : RankedNames). Notes o new off) c.self.view_is (repeat_notes old off c.len.result c.self.invariant.whole there c.self.invariant.some size equal)
