use Rattle.std.proofs.Common.{ℕ, ◌+◌, ◌*◌, ◌<◌, Bool, List, None, Some, arith}
use Rattle.std.specs.Prelude.{IsTrue, slice_index}
use Rattle.btf_raw.specs.{Kinds.is_struct, Frames.IsFrame, Frames.kind, Frames.vlen}
use Rattle.btf_types.specs.checks.{Numbers.NoCause, RecordFaults.BitFieldsAre, RecordFaults.NoneWithin}
use Rattle.btf_types.specs.{checks.NameFaults.ItemNameFault, checks.NameFaults.MemberTypeFault, Sections.SectionWords, Sections.facts_in}
use Rattle.btf_types.proofs.CheckLemmas.{Roles.ItemName, Roles.MemberType, Roles.MemberPlace, RoleSteps.type_checked}
use Rattle.btf_types.proofs.CheckLemmas.RecordSteps.{first_at, none_at, members_end}
use Rattle.btf_types.proofs.CheckLemmas.WordRoles.{member_name_role, member_type_role, member_place_role}
use Rattle.btf_types.proofs.checks.items.members_fault.Goals as goal

-- a member's name without a fault, after members without one, and its type after that
module _ (s : SectionWords) {f : List ℕ} (is : IsFrame f) (struct : IsTrue (is_struct (kind f))) (k : ℕ) (low : k < vlen f) (before : NoneWithin s f 3 (3 + 3 * k)) where
  before_type : NoCause (ItemNameFault s.strings (slice_index f (3 + 3 * k))) → NoneWithin s f 3 (3 + 3 * k + 1)
  before_type none =
      let end = members_end is struct in
      none_at s is 3 (3 + 3 * k) (3 + 3 * k + 1) ItemName (omega arith) (omega arith) before (member_name_role (kind f) k struct) none

  before_place : (bit_fields : Bool) → NoCause (ItemNameFault s.strings (slice_index f (3 + 3 * k))) → BitFieldsAre f bit_fields
      → NoCause (MemberTypeFault (facts_in s) bit_fields (slice_index f (3 + 3 * k + 1))) → NoneWithin s f 3 (3 + 3 * k + 2)
  before_place bit_fields named bits none =
      let end = members_end is struct in
      none_at s is 3 (3 + 3 * k + 1) (3 + 3 * k + 2) MemberType (omega arith) (omega arith) (before_type named) (member_type_role (kind f) k struct)
      (type_checked (facts_in s) f bit_fields (slice_index f (3 + 3 * k + 1)) None bits none)

pub returns-in-Some : goal.returns-in-Some
returns-in-Some c =
    let is = c.requires.frame in
    let end = members_end is c.requires.kind in
    let k = c.loop-k.k in
    first_at c.args.section.now is 3 _ (3 + 3 * k) ItemName _ (omega arith) (omega arith) (omega arith) c.loop-k.invariant
    (member_name_role _ k c.requires.kind) (rw c.word.ensures at c.in-Some.ensures)

pub returns-in-Some-member_type_fault : goal.returns-in-Some-member_type_fault
returns-in-Some-member_type_fault c =
    let is = c.requires.frame in
    let s = c.args.section.now in
    let end = members_end is c.requires.kind in
    let k = c.loop-k.k in
    let cause = c.in-Some-member_type_fault.cause in
    first_at s is 3 _ (3 + 3 * k + 1) MemberType cause (omega arith) (omega arith) (omega arith)
    (before_type s is c.requires.kind k (omega arith) c.loop-k.invariant (rw c.word.ensures at c.in_default.ensures))
    (member_type_role _ k c.requires.kind)
    (type_checked (facts_in s) c.args.this.now c.has_widths-bit_fields.result _ (Some cause) c.has_widths-bit_fields.ensures
    (rw c.word-in-loop-k.ensures at c.in-Some-member_type_fault.ensures))

pub returns-in-Some-member_place_fault : goal.returns-in-Some-member_place_fault
returns-in-Some-member_place_fault c =
    let is = c.requires.frame in
    let end = members_end is c.requires.kind in
    let k = c.loop-k.k in
    first_at c.args.section.now is 3 _ (3 + 3 * k + 2) MemberPlace c.in-Some-member_place_fault.cause (omega arith) (omega arith) (omega arith)
    (before_place c.args.section.now is c.requires.kind k (omega arith) c.loop-k.invariant c.has_widths-bit_fields.result (rw c.word.ensures at c.in_default.ensures)
    c.has_widths-bit_fields.ensures (rw c.word-in-loop-k.ensures at c.in_default-member_type_fault.ensures))
    (member_place_role _ k c.requires.kind)
    (rw (c.bit_offset_of-bit_offset.ensures, c.width_of.ensures, c.kind_flag-flag.ensures, c.word-offset.ensures, c.word-size.ensures) at c.in-Some-member_place_fault.ensures)

pub loop-k-preserved : goal.loop-k-preserved
loop-k-preserved c =
    let is = c.requires.frame in
    let end = members_end is c.requires.kind in
    let k = c.loop-k.k in
    none_at c.args.section.now is 3 (3 + 3 * k + 2) (3 + 3 * (k + 1)) MemberPlace (omega arith) (omega arith)
    (before_place c.args.section.now is c.requires.kind k (omega arith) c.loop-k.invariant c.has_widths-bit_fields.result (rw c.word.ensures at c.in_default.ensures)
    c.has_widths-bit_fields.ensures (rw c.word-in-loop-k.ensures at c.in_default-member_type_fault.ensures))
    (member_place_role _ k c.requires.kind)
    (rw (c.bit_offset_of-bit_offset.ensures, c.width_of.ensures, c.kind_flag-flag.ensures, c.word-offset.ensures, c.word-size.ensures) at c.in_default-member_place_fault.ensures)
