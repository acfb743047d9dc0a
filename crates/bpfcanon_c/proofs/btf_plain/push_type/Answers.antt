-- The head, then all items.
use Rattle.std.proofs.Common.{◌≡◌, ℕ, Bool, List, ◌++◌, take, ap, ◌∙◌, arith}
use Rattle.std.specs.List.{flat_map, list_any}
use Rattle.std.proofs.lemmas.List.{take_all}
use Rattle.bpf_words.specs.declared.Order.TheVariants.{Little}
use Rattle.btf_raw.specs.Frames.{bytes_of}
use Rattle.bpf_canon.proofs.BtfLemmas.Write.WriteSteps.{pushed_two}
use Rattle.bpfcanon_c.specs.declared.btf_rows.ItemRow.{ItemRow}
use Rattle.bpfcanon_c.specs.BtfPlain as spec
use Rattle.bpfcanon_c.proofs.btf_plain.push_type.Goals as goal

pub returns : goal.returns
returns c =
    let r = c.args.row.now in
    let own = c.args.own.now in
    let old = c.args.out.now.items in
    let start = c.args.start in
    let words : List ItemRow → List ℕ = λ items. flat_map (spec.words_of start r.kind) items in
    let k = c.loop-k.k in
    let flag : c.flag_word-flag.result ≡ spec.flag_word r (list_any spec.has_width own) = c.flag_word-flag.ensures.is ∙ ap (λ (b : Bool). spec.flag_word r b) c.has_widths.ensures in
    let all : take k own ≡ own = take_all k own (omega arith) in
    c.loop-k.invariant
    ∙ ap (λ (f : ℕ). (old ++ bytes_of Little (spec.head_words start r f)) ++ bytes_of Little (words (take k own))) flag
    ∙ ap (λ (items : List ItemRow). (old ++ bytes_of Little (spec.head_words start r (spec.flag_word r (list_any spec.has_width own)))) ++ bytes_of Little (words items)) all
    ∙ pushed_two Little old (spec.head_words start r (spec.flag_word r (list_any spec.has_width own))) (words own)
