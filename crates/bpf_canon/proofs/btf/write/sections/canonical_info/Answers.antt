use Rattle.std.proofs.Common.{◌≡◌, ◌≢◌, ◌%◌, ◌^◌, ℕ, true, false, sym, ap, ◌∙◌, bit_and}
use Rattle.std.proofs.lemmas.Nat.{and_mask}
use Rattle.btf_raw.specs.{Kinds.flag_of, Kinds.is_struct, Frames.kind, Frames.flag}
use Rattle.btf_types.specs.{Valid.has_bit_fields, Reading.record_of}
use Rattle.bpf_canon.proofs.BtfLemmas.Write.RecordWords.{items_few, bit_fields_same, unmarked_record, info_of_others, info_unmarked, info_wide, info_cleared}
use Rattle.bpf_canon.proofs.btf.write.sections.canonical_info.Goals.{then-flag_of-eq0-via-then-flag_of-eq0, then-flag_of-eq0-via-else-flag_of-eq0+then-not-is_struct, then-flag_of-eq0-via-else-flag_of-eq0+else-not-is_struct+then-has_bit_fields}
use Rattle.bpf_canon.proofs.btf.write.sections.canonical_info.Goals as goal

pub returns-then-flag_of-eq0 : goal.returns-then-flag_of-eq0
returns-then-flag_of-eq0 c strings reads =
    let f = c.args.this.now in
    let flag_is : c.flag_of.result ≡ flag f = c.flag_of.ensures ∙ ap flag_of c.word-info.ensures in
    let few = items_few strings f in
    c.word-info.ensures ∙ elim c.then-flag_of-eq0.branch [
      | then-flag_of-eq0-via-then-flag_of-eq0 w ↦
          let none : flag f ≡ 0 = sym flag_is ∙ w.if-flag_of-eq0.true in
          info_unmarked strings f (record_of strings f) few reads.encoded none (unmarked_record strings f reads.frame none)
      | then-flag_of-eq0-via-else-flag_of-eq0+then-not-is_struct w ↦
          let other : is_struct (kind f) ≡ false = sym (w.is_struct.ensures ∙ ap is_struct w.kind.ensures) ∙ w.if-not-is_struct.true in
          info_of_others strings f (record_of strings f) few reads.encoded other
      | then-flag_of-eq0-via-else-flag_of-eq0+else-not-is_struct+then-has_bit_fields w ↦
          let some : flag f ≢ 0 = λ e. w.if-flag_of-eq0.false (flag_is ∙ e) in
          let is : is_struct (kind f) ≡ true = sym (w.is_struct.ensures ∙ ap is_struct w.kind.ensures) ∙ w.if-not-is_struct.false in
          let wide : has_bit_fields (record_of strings f) ≡ true = bit_fields_same strings f _ reads.frame is some w.has_bit_fields.ensures ∙ w.if-has_bit_fields.true in
          info_wide strings f (record_of strings f) few reads.encoded is some wide
    ]

pub returns : goal.returns
returns c strings reads =
    let f = c.args.this.now in
    let info = c.word-info.result in
    let flag_is : c.flag_of.result ≡ flag f = c.flag_of.ensures ∙ ap flag_of c.word-info.ensures in
    let some : flag f ≢ 0 = λ e. c.if-flag_of-eq0.false (flag_is ∙ e) in
    let is : is_struct (kind f) ≡ true = sym (c.is_struct.ensures ∙ ap is_struct c.kind.ensures) ∙ c.if-not-is_struct.false in
    let none : has_bit_fields (record_of strings f) ≡ false = bit_fields_same strings f _ reads.frame is some c.has_bit_fields.ensures ∙ c.if-has_bit_fields.false in
    let low : bit_and info 0x7fffffff ≡ info % 2 ^ 31 = and_mask info 31 in
    low ∙ ap (λ (w : ℕ). w % 2 ^ 31) c.word-info.ensures ∙ info_cleared strings f (record_of strings f) (items_few strings f) reads.encoded is some none
