use Rattle.std.proofs.Common.{◌≡◌, ℕ, ◌+◌, ◌*◌, ◌%◌, ◌^◌, List, [], ◌∷◌, ◌++◌, ap, ◌∙◌, arith}
use Rattle.std.proofs.lemmas.Result.{on_ok_weaker}
use Rattle.btf_raw.specs.Frames.{bytes_of}
use Rattle.btf_types.specs.{Values.head_value, Names.head_name, strings.SharedNames.shared_among}
use Rattle.btf_types.specs.Encoding.{kind_number, head_third, head_tail, info}
use Rattle.bpf_canon.specs.btf.{write.BtfWords.head_vlen, CanonicalBtf.canonical_flag}
use Rattle.bpf_canon.proofs.BtfLemmas.Write.WriteSteps.{pushed_two}
use Rattle.bpf_canon.proofs.btf.write.table.push_head.Goals as goal

-- the three words are those of the header
words_are : (a b d x y z : ℕ) → a ≡ x → b ≡ y → d ≡ z → a ∷ b ∷ d ∷ [] ≡ x ∷ y ∷ z ∷ []
words_are a b d x y z e f g = cc

pub returns : goal.returns
returns g c =
    let h = head_value c.args.head in
    let o = c.args.order in
    let old = c.args.out.now.items in
    let name : c.new_offset.result ≡ shared_among c.args.names.now (head_name h) = grind arith in
    let word = info (kind_number h) (head_vlen h c.args.count) (canonical_flag h c.args.bit_fields) in
    let sum : c.head_vlen.result + (c.from.result * 2 ^ 24) % 2 ^ 32 + (c.kind_flag.result * 2 ^ 31) % 2 ^ 32 ≡ word = omega (arith, c.from.ensures, c.kind.ensures, c.head_vlen.ensures.is, c.kind_flag.ensures.is, c.kind_flag.ensures.bit) in
    let words = words_are c.new_offset.result _ c.head_third.result (shared_among c.args.names.now (head_name h)) word (head_third h) name sum c.head_third.ensures in
    on_ok_weaker c.push_further_words.result
    (λ e. e ∙ ap (λ (t : List ℕ). t ++ bytes_of o (head_tail h)) (c.in_ok-push_words.ensures.ok ∙ ap (λ (ws : List ℕ). old ++ bytes_of o ws) words)
    ∙ pushed_two o old (shared_among c.args.names.now (head_name h) ∷ word ∷ head_third h ∷ []) (head_tail h))
    c.push_further_words.ensures
