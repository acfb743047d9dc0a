use Rattle.std.proofs.Common.{◌≡◌, ◌≢◌, ◌+◌, ◌-◌, take, drop, List, [], ◌∷◌, ◌++◌, get_or, refl, subst, sym, rules}
use Rattle.bpf_canon.specs.declared.btf.strings.ranked_texts.SectionText.{SectionText}
use Rattle.bpf_canon.specs.btf.strings.{SuffixKeys.suffix_key, SectionTexts.text_before}
use Rattle.bpf_canon.proofs.BtfLemmas.Strings.LongestSteps.{LongestTo, longest_push}
use Rattle.bpf_canon.proofs.btf.strings.ranked_texts.longest_texts.Goals as goal

pub texts-preserved : goal.texts-preserved
texts-preserved g c =
    let section = c.args.section.now in
    let slots = c.args.uses.now.slots in
    let ts = c.texts.longest.items in
    let off = c.texts.off in
    let t : SectionText = record { key = c.suffix_key.result; before = c.suffix_key-in-texts.result; start = off; end = c.text_end-end.result } in
    let pushed : c.push.new.self.items ≡ ts ++ t ∷ [] = c.in_ok-push.ensures.items in
    let used : get_or slots off 0 ≢ 0 = search rules in
    let rest : c.suffix_key-in-texts.result ≡ suffix_key (text_before (take (c.text_end-end.result - off) (drop off section))) = search rules in
    subst (λ (l : List SectionText). LongestTo section slots l (c.text_end-end.result + 1)) (sym pushed)
    (longest_push section slots ts off t c.texts.invariant c.if-section-off-eq0.false used refl c.text_end-end.ensures.from c.text_end-end.ensures.inside c.text_end-end.ensures.nul c.text_end-end.ensures.before c.suffix_key.ensures.key rest)
