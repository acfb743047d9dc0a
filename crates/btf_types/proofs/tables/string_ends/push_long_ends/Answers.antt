-- Block by block: if a block has a NUL, no long string ends in it; otherwise it is inside one, whose end is stored.
use Rattle.std.proofs.Common.{◌+◌, [], ◌∷◌, length, ◌∙◌, inr, arith}
use Rattle.std.proofs.{lemmas.List.drop-append-le, lemmas.List.take-append-le, lemmas.List.length-append}
use Rattle.btf_types.proofs.StringLemmas.LongEnds.{more_bytes, one_end_more, nul_after}
use Rattle.btf_types.proofs.tables.string_ends.push_long_ends.Goals as goal

pub blocks-2-preserved-in-Some : goal.blocks-2-preserved-in-Some
blocks-2-preserved-in-Some g c =
    let i = c.blocks-2.invariant in
    let found = c.in-Some.ensures in
    record {
      kept = i.kept;
      long = i.long;
      ends = more_bytes c.args.strings.now _ c.blocks-2.at (c.blocks-2.at + 64) i.ends i.gap (omega arith) (omega arith);
      gap = inr (c.in-Some.field-0, found.1, (let from = found.0.from in omega arith), found.0.nul);
      inside = omega arith;
    }

pub blocks-2-preserved : goal.blocks-2-preserved
blocks-2-preserved g c =
    let i = c.blocks-2.invariant in
    let pushed = c.in_ok-push-in-None.ensures.items in
    let is = c.text_end-end.ensures in
    let old = c.args.out.now.items in
    let end = c.text_end-end.result in
    rw pushed (record {
      kept = take-append-le (length old) c.blocks-2.out.items (end ∷ []) i.long ∙ i.kept;
      long = omega (arith, length-append c.blocks-2.out.items (end ∷ []));
      ends = rw (drop-append-le (length old) c.blocks-2.out.items (end ∷ []) i.long) (one_end_more c.args.strings.now _ c.blocks-2.at end i.ends i.gap is);
      gap = nul_after c.args.strings.now c.blocks-2.at end is;
      inside = let inside = is.inside in omega arith;
    })

pub returns-clause-ends : goal.returns-clause-ends
returns-clause-ends g c =
    let i = c.blocks-2.invariant in
    more_bytes c.args.strings.now _ c.blocks-2.at (length c.args.strings.now) i.ends i.gap i.inside (omega arith)
