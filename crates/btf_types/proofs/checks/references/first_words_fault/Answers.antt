use Rattle.std.proofs.Common.{◌≡◌, rules, ℕ, List, sym, ap, ◌∙◌, arith}
use Rattle.btf_raw.specs.{Frames.IsFrame, Frames.name_word, Frames.kind, Frames.vlen, Kinds.layout_of}
use Rattle.btf_raw.specs.declared.info.Layout.{Layout}
use Rattle.btf_types.specs.Sections.{SectionWords}
use Rattle.btf_types.specs.checks.{Numbers.NoCause, Numbers.SecondFault, NameFaults.NameFault, RecordFaults.NoneWithin}
use Rattle.btf_types.proofs.CheckLemmas.Roles.{OwnName, Info, Third}
use Rattle.btf_types.proofs.CheckLemmas.RecordSteps.{none_yet, first_at, none_at, field_answer}
use Rattle.btf_types.proofs.CheckLemmas.WordRoles.{name_has_role, info_has_role, third_has_role}
use Rattle.btf_types.proofs.CheckLemmas.SectionSteps.{three_words}
use Rattle.btf_types.proofs.checks.references.first_words_fault.Goals as goal

-- a name without a fault, and info after it
module _ (s : SectionWords) {f : List ℕ} (is : IsFrame f) (none : NoCause (NameFault s.strings (kind f) (name_word f))) where
  before_info : NoneWithin s f 0 1
  before_info =
      let three = three_words f is in
      none_at s is 0 0 1 OwnName (omega arith) (omega arith) (none_yet s is 0) (name_has_role (kind f)) none

  before_third : NoCause (SecondFault (kind f) (vlen f)) → NoneWithin s f 0 2
  before_third linkage =
      let three = three_words f is in
      none_at s is 0 1 2 Info (omega arith) (omega arith) before_info (info_has_role (kind f)) linkage

name_row : (f : List ℕ) (κ : ℕ) (row : Layout) → row ≡ layout_of κ → κ ≡ kind f → (layout_of (kind f)).name ≡ row.name
name_row f κ row is same = sym (ap (λ (l : Layout). l.name) (is ∙ ap layout_of same))

pub returns-in-Some : goal.returns-in-Some
returns-in-Some c =
    let three = three_words c.args.this.now c.requires in
    first_at c.args.section.now c.requires 0 3 0 OwnName _ (omega arith) (omega arith) three (none_yet c.args.section.now c.requires 0) (name_has_role _)
    (rw c.word.ensures at c.in-Some.ensures (kind c.args.this.now) (name_row c.args.this.now c.kind-kind.result c.layout_of-layout.result c.layout_of-layout.ensures.row c.kind-kind.ensures))

pub returns-in-Some-second_fault : goal.returns-in-Some-second_fault
returns-in-Some-second_fault c =
    let three = three_words c.args.this.now c.requires in
    first_at c.args.section.now c.requires 0 3 1 Info _ (omega arith) (omega arith) three
    (before_info c.args.section.now c.requires (rw c.word.ensures at c.in_default.ensures (kind c.args.this.now) (name_row c.args.this.now c.kind-kind.result c.layout_of-layout.result c.layout_of-layout.ensures.row c.kind-kind.ensures))) (info_has_role _)
    (rw (c.kind-kind.ensures, c.vlen-vlen.ensures) at c.in-Some-second_fault.ensures)

pub returns : goal.returns
returns c =
    let three = three_words c.args.this.now c.requires in
    field_answer c.args.section.now c.requires 0 3 2 Third c.third_fault.result c.map.result (omega arith) (omega arith) three
    (before_third c.args.section.now c.requires (rw c.word.ensures at c.in_default.ensures (kind c.args.this.now) (name_row c.args.this.now c.kind-kind.result c.layout_of-layout.result c.layout_of-layout.ensures.row c.kind-kind.ensures)) (rw (c.kind-kind.ensures, c.vlen-vlen.ensures) at c.in_default-second_fault.ensures))
    (third_has_role _) (λ i past low. absurd (omega arith)) (rw (c.kind-kind.ensures, c.vlen-vlen.ensures, c.word-2.ensures) at c.third_fault.ensures)
    c.map.ensures.cases (λ d found made. search rules)
