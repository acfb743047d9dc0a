use Rattle.std.proofs.Common.{rules, ◌≡◌, ℕ, ◌<◌, ◌≤◌, ◌+◌, ◌-◌, min, List, length, get_or, ap, ◌∙◌, arith}
use Rattle.bpf_canon.specs.btf.strings.SectionTexts.{text_in}
use Rattle.bpf_canon.proofs.BtfLemmas.Strings.{SortedTexts.text_bytes, SortedTexts.front_bytes, KeyBytes.common_by_keys, KeyBytes.common_by_both_keys}
use Rattle.bpf_canon.proofs.btf.strings.ranked_texts.common_of.Goals as goal

pub returns-then-common-lt8-clause-common : goal.returns-then-common-lt8-clause-common
returns-then-common-lt8-clause-common c =
    let section = c.args.section.now in
    let x = text_in section c.args.a.now in
    let y = text_in section c.args.b.now in
    let n = c.common_bytes.result in
    let bytes : (i : ℕ) → get_or section i 0 < 256 = search rules in
    let first : length c.text_of-first.result.now ≡ length x = ap (λ (l : List ℕ). length l) c.text_of-first.ensures in
    let second : length c.text_of-second.result.now ≡ length y = ap (λ (l : List ℕ). length l) c.text_of-second.ensures in
    let is : c.min-common.result ≡ min (min n (length x)) (length y) = omega (arith, c.min.ensures, c.min-common.ensures, first, second) in
    is ∙ common_by_keys x y (text_bytes section c.args.a.now bytes) (text_bytes section c.args.b.now bytes) c.args.a.now.key c.args.b.now.key n c.requires.first.last c.requires.second.last c.common_bytes.ensures.few c.common_bytes.ensures.same c.common_bytes.ensures.differ (omega (arith, is, c.if-common-lt8.true))

pub returns-then-before-lt8-clause-common : goal.returns-then-before-lt8-clause-common
returns-then-before-lt8-clause-common c =
    let section = c.args.section.now in
    let x = text_in section c.args.a.now in
    let y = text_in section c.args.b.now in
    let n = c.common_bytes.result in
    let r = c.common_bytes-2.result in
    let bytes : (i : ℕ) → get_or section i 0 < 256 = search rules in
    let bytes_x = text_bytes section c.args.a.now bytes in
    let bytes_y = text_bytes section c.args.b.now bytes in
    let first : length c.text_of-first.result.now ≡ length x = ap (λ (l : List ℕ). length l) c.text_of-first.ensures in
    let second : length c.text_of-second.result.now ≡ length y = ap (λ (l : List ℕ). length l) c.text_of-second.ensures in
    let common : 8 ≤ min (min n (length x)) (length y) = omega (arith, c.min.ensures, c.min-common.ensures, first, second, c.if-common-lt8.false) in
    let is : c.min-before.result ≡ min (min r (length x - 8)) (length y - 8) = omega (arith, c.min-2.ensures, c.min-before.ensures, first, second) in
    ap (λ (k : ℕ). 8 + k) is
    ∙ common_by_both_keys x y bytes_x bytes_y (omega (arith, common)) (omega (arith, common)) c.args.a.now.key c.args.b.now.key n c.requires.first.last c.requires.second.last c.common_bytes.ensures.same (omega (arith, common))
    (front_bytes (length x - 8) x bytes_x) (front_bytes (length y - 8) y bytes_y) c.args.a.now.before c.args.b.now.before r c.requires.first.before c.requires.second.before c.common_bytes-2.ensures.few c.common_bytes-2.ensures.same c.common_bytes-2.ensures.differ (omega (arith, is, c.if-before-lt8.true))
