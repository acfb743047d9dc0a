use Rattle.std.proofs.Common.{◌≡◌, ◌≤◌, ◌<◌, ◌+◌, Option, MatchOption, List, ℕ, length, get_or, map, set, refl, ap, ◌∙◌, subst, arith}
use Rattle.btf_types.specs.Reading.{text_from}
use Rattle.bpf_canon.specs.btf.strings.{DistinctNames.distinct_table, UsedOffsets.number_of}
use Rattle.bpf_canon.proofs.BtfLemmas.Strings.DistinctSteps.{PlacedTo, name_step, placed_all, index_inside, off_inside, text_is}
use Rattle.bpf_canon.proofs.btf.strings.distinct_offsets.name_table.Given.{Over}
use Rattle.bpf_canon.proofs.btf.strings.distinct_offsets.name_table.Goals.{In_ok-text_offset}
use Rattle.bpf_canon.proofs.btf.strings.distinct_offsets.name_table.Goals as goal

pub text_at-text-requires-clause-there : goal.text_at-text-requires-clause-there
text_at-text-requires-clause-there g c = off_inside c.args.strings.now c.args.used.now c.requires.marked c.requires.whole c.offsets-off-items.result.now c.offsets-off-items.ensures c.loop-off.off-index c.loop-off-test.true

-- the name of this index was added, or the table of all names is longer than the limit
abbrev Steps : (g : Over) → In_ok-text_offset g → ℕ → Option ℕ → Type 0
Steps g c n found = MatchOption found (c.args.limit < length (distinct_table (map (text_from c.args.strings.now) c.args.used.now.offsets)))
    (λ text_offset. PlacedTo c.args.strings.now c.args.used.now c.add_text.new.bytes.items (set c.loop-off.text_offsets.items n text_offset) c.add_text.new.by_text c.args.limit (c.loop-off.off-index + 1))

added : (g : Over) (c : In_ok-text_offset g) (n : ℕ) → n ≡ number_of c.args.used.now (get_or c.offsets-off-items.result.now c.loop-off.off-index 0) → Steps g c n c.in_ok-text_offset.field-0
added g c n n_is =
    let section = c.args.strings.now in
    let used = c.args.used.now in
    let offsets = c.offsets-off-items.result.now in
    let same = c.offsets-off-items.ensures in
    let k = c.loop-off.off-index in
    let inside = c.loop-off-test.true in
    let x = c.text_at-text.result.now in
    name_step section used c.requires.marked c.args.limit c.loop-off.bytes.items c.loop-off.text_offsets.items c.add_text.new.bytes.items c.loop-off.by_text c.add_text.new.by_text k n x c.in_ok-text_offset.field-0 c.loop-off.invariant
    (index_inside section used c.requires.marked c.requires.whole offsets same k inside)
    (text_is section used c.requires.marked c.requires.whole offsets same k inside x c.requires.ends c.text_at-text.ensures)
    (n_is ∙ ap (λ (l : List ℕ). number_of used (get_or l k 0)) same)
    c.in_ok-text_offset.ensures

pub returns-in_default : goal.returns-in_default
returns-in_default g c =
    let at = (goal.at.returns-in_default g c).In_ok-text_offset in
    let n = number_of c.args.used.now (get_or c.offsets-off-items.result.now c.loop-off.off-index 0) in
    subst (Steps g at n) c.in_default.is (added g at n refl)

pub loop-off-preserved : goal.loop-off-preserved
loop-off-preserved g c =
    let at = (goal.at.loop-off-preserved g c).In_ok-text_offset in
    subst (Steps g at c.number.result) c.in-Some.is (added g at c.number.result c.number.ensures.number)

pub returns : goal.returns
returns g c =
    let all : length c.args.used.now.offsets ≤ c.loop-off.off-index = omega (arith, c.loop-off-test.false, ap (λ (l : List ℕ). length l) c.offsets-off-items.ensures) in
    record {
      are_distinct = placed_all c.args.strings.now c.args.used.now c.requires.marked c.args.limit c.loop-off.bytes.items c.loop-off.text_offsets.items c.loop-off.by_text c.loop-off.off-index c.ranges.limit.fits c.loop-off.invariant all;
      within = c.loop-off.invariant.within;
    }
