-- The three words, then the tail.
use Rattle.std.proofs.Common.{◌≡◌, ℕ, ◌+◌, ◌*◌, ◌%◌, ◌^◌, List, [], ◌∷◌, ◌++◌, ap, ◌∙◌, arith}
use Rattle.std.proofs.lemmas.Result.{on_ok_weaker}
use Rattle.bpf_words.specs.declared.Order.TheVariants.{Little}
use Rattle.btf_raw.specs.Frames.{bytes_of}
use Rattle.btf_types.specs.Encoding.{info}
use Rattle.bpf_canon.proofs.BtfLemmas.Write.WriteSteps.{pushed_two}
use Rattle.bpfcanon_c.specs.BtfPlain as spec
use Rattle.bpfcanon_c.proofs.btf_plain.push_head.Goals as goal

words_are : (a b d x y z : ℕ) → a ≡ x → b ≡ y → d ≡ z → a ∷ b ∷ d ∷ [] ≡ x ∷ y ∷ z ∷ []
words_are a b d x y z e f g = cc

pub returns : goal.returns
returns c =
    let r = c.args.row.now in
    let old = c.args.out.now.items in
    let name = spec.name_word c.args.start r.name r.name_len in
    let word = info (r.kind % 32) (spec.vlen_word r) c.args.flag in
    let sum : c.vlen_word.result + (c.from.result * 2 ^ 24) % 2 ^ 32 + (c.args.flag * 2 ^ 31) % 2 ^ 32 ≡ word = omega (arith, c.from.ensures, c.vlen_word.ensures.is, c.requires) in
    let words = words_are c.name_word-name.result _ c.third_word.result name word (spec.third_word r) c.name_word-name.ensures sum c.third_word.ensures in
    on_ok_weaker c.push_tail.result
    (λ e. e ∙ ap (λ (t : List ℕ). t ++ bytes_of Little (spec.tail_of r)) (c.in_ok-push_words.ensures.ok ∙ ap (λ (ws : List ℕ). old ++ bytes_of Little ws) words)
    ∙ pushed_two Little old (name ∷ word ∷ spec.third_word r ∷ []) (spec.tail_of r))
    c.push_tail.ensures
