use Rattle.std.proofs.Common.{arith}
use Rattle.btf_types.proofs.CheckLemmas.FieldSteps.{no_field_fault, first_in_section, faultless_more}
use Rattle.btf_types.proofs.CheckLemmas.SectionSteps.{has_frame}
use Rattle.btf_types.proofs.checks.fields.first_field_fault.Goals as goal

pub at-this-requires : goal.at-this-requires
at-this-requires c = (has_frame c.section.inside c.section.invariant c.loop-i.i c.loop-i-test.true).inside

pub record_fault-requires : goal.record_fault-requires
record_fault-requires c = rw c.at-this.ensures (has_frame c.section.inside c.section.invariant c.loop-i.i c.loop-i-test.true).frame

pub returns-in-Some : goal.returns-in-Some
returns-in-Some c =
    let s = c.section.inside in
    let i = c.loop-i.i in
    let least = rw (c.at-this.ensures, ← c.section.view_is) at c.in-Some.ensures in
    let few = c.section.invariant.few in
    let room = (has_frame s c.section.invariant i c.loop-i-test.true).inside in
    let low = least.inside in
    record {
      inside = omega arith;
      cases = rw (← c.section.view_is) (first_in_section s c.section.invariant i c.in-Some.word c.in-Some.cause c.loop-i-test.true c.loop-i.invariant least);
    }

pub loop-i-preserved : goal.loop-i-preserved
loop-i-preserved c =
    let none = rw (c.at-this.ensures, ← c.section.view_is) at c.in_default.ensures in
    faultless_more c.section.inside c.section.invariant c.loop-i.i c.loop-i.invariant none

pub returns : goal.returns
returns c = record {
  inside = tt;
  cases = rw (← c.section.view_is) (no_field_fault c.section.inside c.section.invariant (λ k low. c.loop-i.invariant k (omega arith)));
}
