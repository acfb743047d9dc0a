use Rattle.std.proofs.Common.{◌≡◌, ◌<◌, length, map, arith, ◌∙◌}
use Rattle.std.proofs.lemmas.List.{length-set}
use Rattle.bpf_canon.specs.btf.strings.{Ranks.common_before, SectionTexts.text_in, InHost.no_text}
use Rattle.bpf_canon.proofs.BtfLemmas.Strings.RankSteps.{common_here, common_more}
use Rattle.bpf_canon.proofs.btf.strings.ranked_texts.common_suffixes.Goals as goal

pub loop-k-preserved : goal.loop-k-preserved
loop-k-preserved g c =
    let k = c.loop-k.k in
    let ts = c.args.sorted.now in
    let ms = map (text_in c.args.section.now) ts in
    let old = c.loop-k.common.items in
    let n = c.common_of.result in
    let same = c.loop-k.invariant.0 in
    let inside : k < length ts = omega arith in
    let is : n ≡ common_before ms k = common_here (text_in c.args.section.now) ts k n no_text inside (omega arith) c.common_of.ensures.common in (
      length-set old k n ∙ same,
      common_more ms old k n (omega (arith, inside, same)) c.loop-k.invariant.1 is,
    )
