-- No NUL is near, so the string is long and its end is one of the stored ones.
use Rattle.std.proofs.{Common.rules, Common.of_calls, Common.ℕ, Common.nat_lt, lemmas.Fn.always_returns_same}
use Rattle.btf_types.proofs.StringLemmas.LongEnds.{found_among, ends_part}
use Rattle.btf_types.proofs.tables.string_ends.text_end_with.Goals as goal

pub bounds-ends-passed : goal.bounds-ends-passed
bounds-ends-passed c =
    let none = c.in_default.ensures in
    let point = c.partition_point-passed.ensures.partitioned (λ (x : ℕ). nat_lt x c.args.off) (always_returns_same _ _ _ (λ a r f k. search (rules, of_calls)))
    (λ i j d low high h. ends_part c.args.strings.now c.args.ends.now c.args.off i j d c.requires.ends low high h) in
    (found_among c.args.strings.now c.args.ends.now c.args.off c.min-near.result c.partition_point-passed.result c.requires.nuls c.requires.inside c.requires.ends c.min-near.ensures none point.0 point.1).0

pub returns : goal.returns
returns c =
    let none = c.in_default.ensures in
    let point = c.partition_point-passed.ensures.partitioned (λ (x : ℕ). nat_lt x c.args.off) (always_returns_same _ _ _ (λ a r f k. search (rules, of_calls)))
    (λ i j d low high h. ends_part c.args.strings.now c.args.ends.now c.args.off i j d c.requires.ends low high h) in
    (found_among c.args.strings.now c.args.ends.now c.args.off c.min-near.result c.partition_point-passed.result c.requires.nuls c.requires.inside c.requires.ends (c.min-near.ensures) none point.0 point.1).1
