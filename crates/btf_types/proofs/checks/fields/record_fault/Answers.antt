use Rattle.std.proofs.Common.{rules, ◌≡◌, ℕ, length, Some, inl, inr, sym, subst, ◌∙◌, arith}
use Rattle.std.specs.Prelude.{slice_index}
use Rattle.btf_raw.specs.{KindNumbers.INT, KindNumbers.ARRAY, KindNumbers.VAR, KindNumbers.DECL_TAG, Frames.kind}
use Rattle.btf_types.proofs.CheckLemmas.WordSteps.{tail_of_record}
use Rattle.btf_types.specs.{Sections.facts_in, checks.Numbers.IsLeastOf, checks.NameFaults.NamedTypeFault}
use Rattle.btf_types.proofs.CheckLemmas.Roles.{IntWord, Linkage, Component, NamedType}
use Rattle.btf_types.proofs.CheckLemmas.RecordSteps.{none_yet, first_at, none_at, field_answer, of_its_kind, array_end, fourth_end}
use Rattle.btf_types.proofs.CheckLemmas.WordRoles.{int_role, linkage_role, component_role, element_role, index_role, count_role}
use Rattle.btf_types.proofs.checks.fields.record_fault.Goals as goal

pub returns-in-1 : goal.returns-in-1
returns-in-1 c =
    let int : kind c.args.this.now ≡ INT = sym c.kind.ensures ∙ c.in-1.is in
    let end = fourth_end c.requires (inl int) in
    tail_of_record c.args.section.now c.args.this.now c.map.result c.in_default.ensures
    (field_answer c.args.section.now c.requires 3 (length c.args.this.now) 3 IntWord c.int_fault.result c.map.result (omega arith) (omega arith) (omega arith)
    (none_yet c.args.section.now c.requires 3) (int_role _ int) (λ i past low. absurd (omega arith))
    (rw (c.word.ensures, c.word-in-1.ensures) at c.int_fault.ensures) c.map.ensures.cases (λ d found made. search rules))

pub returns-in-14 : goal.returns-in-14
returns-in-14 c =
    let var : kind c.args.this.now ≡ VAR = sym c.kind.ensures ∙ c.in-14.is in
    let end = fourth_end c.requires (inr (inl var)) in
    tail_of_record c.args.section.now c.args.this.now c.map-in-14.result c.in_default.ensures
    (field_answer c.args.section.now c.requires 3 (length c.args.this.now) 3 Linkage c.linkage_fault.result c.map-in-14.result (omega arith) (omega arith) (omega arith)
    (none_yet c.args.section.now c.requires 3) (linkage_role _ var) (λ i past low. absurd (omega arith))
    (rw c.word-in-14.ensures at c.linkage_fault.ensures) c.map-in-14.ensures.cases (λ d found made. search rules))

pub returns-in-17 : goal.returns-in-17
returns-in-17 c =
    let tag : kind c.args.this.now ≡ DECL_TAG = sym c.kind.ensures ∙ c.in-17.is in
    let end = fourth_end c.requires (inr (inr tag)) in
    tail_of_record c.args.section.now c.args.this.now c.map-in-17.result c.in_default.ensures
    (field_answer c.args.section.now c.requires 3 (length c.args.this.now) 3 Component c.component_fault.result c.map-in-17.result (omega arith) (omega arith) (omega arith)
    (none_yet c.args.section.now c.requires 3) (component_role _ tag) (λ i past low. absurd (omega arith))
    (rw (c.word-in-17.ensures, c.word-in-17-2.ensures) at c.component_fault.ensures) c.map-in-17.ensures.cases (λ d found made. search rules))

pub returns-in-Some-named_type_fault : goal.returns-in-Some-named_type_fault
returns-in-Some-named_type_fault c =
    let array : kind c.args.this.now ≡ ARRAY = sym c.kind.ensures ∙ c.in-3.is in
    let end = array_end c.requires array in
    let cause = c.in-Some-named_type_fault.cause in
    tail_of_record c.args.section.now c.args.this.now (Some (3, cause)) c.in_default.ensures
    (first_at c.args.section.now c.requires 3 _ 3 NamedType cause (omega arith) (omega arith) (omega arith) (none_yet c.args.section.now c.requires 3) (element_role _ array)
    (of_its_kind _ _ _ _ _ array (rw c.word-in-3.ensures at c.in-Some-named_type_fault.ensures)))

pub returns-in_default-named_type_fault : goal.returns-in_default-named_type_fault
returns-in_default-named_type_fault c =
    let s = c.args.section.now in
    let is = c.requires in
    let array : kind c.args.this.now ≡ ARRAY = sym c.kind.ensures ∙ c.in-3.is in
    let end = array_end is array in
    let before = none_at s is 3 3 4 NamedType (omega arith) (omega arith) (none_yet s is 3) (element_role _ array)
    (rw (array, ← c.word-in-3.ensures) c.in_default-named_type_fault.ensures) in
    tail_of_record s c.args.this.now c.map-in-3.result c.in_default.ensures
    (field_answer s is 3 (length c.args.this.now) 4 NamedType c.named_type_fault-in-3.result c.map-in-3.result (omega arith) (omega arith) (omega arith) before
    (index_role _ array) (λ i past low. count_role _ array i past (omega arith))
    (subst (λ (κ : ℕ). IsLeastOf (NamedTypeFault (facts_in s) κ (slice_index c.args.this.now 4)) c.named_type_fault-in-3.result) (sym array) (rw c.word-in-3-2.ensures at c.named_type_fault-in-3.ensures))
    c.map-in-3.ensures.cases (λ d found made. search rules))
