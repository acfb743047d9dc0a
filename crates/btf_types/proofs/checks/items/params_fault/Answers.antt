use Rattle.std.proofs.Common.{◌≡◌, ℕ, ◌+◌, ◌*◌, ◌<◌, List, arith}
use Rattle.std.specs.Prelude.{slice_index}
use Rattle.btf_raw.specs.{KindNumbers.FUNC_PROTO, Frames.IsFrame, Frames.kind, Frames.vlen}
use Rattle.btf_types.specs.{Sections.SectionWords, checks.Numbers.NoCause, checks.NameFaults.ItemNameFault, checks.RecordFaults.NoneWithin}
use Rattle.btf_types.proofs.CheckLemmas.{Roles.ItemName, Roles.NamedType, WordRoles.param_name_role, WordRoles.param_type_role}
use Rattle.btf_types.proofs.CheckLemmas.RecordSteps.{first_at, none_at, of_its_kind, params_end}
use Rattle.btf_types.proofs.checks.items.params_fault.Goals as goal

-- a parameter's name without a fault, after parameters without one
before_type : (s : SectionWords) {f : List ℕ} → IsFrame f → kind f ≡ FUNC_PROTO → (k : ℕ) → k < vlen f → NoneWithin s f 3 (3 + 2 * k)
    → NoCause (ItemNameFault s.strings (slice_index f (3 + 2 * k))) → NoneWithin s f 3 (3 + 2 * k + 1)
before_type s is proto k low before none =
    let end = params_end is proto in
    none_at s is 3 (3 + 2 * k) (3 + 2 * k + 1) ItemName (omega arith) (omega arith) before (param_name_role _ k proto) none

pub returns-in-Some : goal.returns-in-Some
returns-in-Some c =
    let is = c.requires.frame in
    let end = params_end is c.requires.kind in
    let k = c.loop-k.k in
    first_at c.args.section.now is 3 _ (3 + 2 * k) ItemName _ (omega arith) (omega arith) (omega arith) c.loop-k.invariant
    (param_name_role _ k c.requires.kind) (rw c.word.ensures at c.in-Some.ensures)

pub returns-in-Some-named_type_fault : goal.returns-in-Some-named_type_fault
returns-in-Some-named_type_fault c =
    let is = c.requires.frame in
    let end = params_end is c.requires.kind in
    let k = c.loop-k.k in
    first_at c.args.section.now is 3 _ (3 + 2 * k + 1) NamedType _ (omega arith) (omega arith) (omega arith)
    (before_type c.args.section.now is c.requires.kind k (omega arith) c.loop-k.invariant (rw c.word.ensures at c.in_default.ensures))
    (param_type_role _ k c.requires.kind) (of_its_kind _ _ _ _ _ c.requires.kind (rw c.word-in-loop-k.ensures at c.in-Some-named_type_fault.ensures))

pub loop-k-preserved : goal.loop-k-preserved
loop-k-preserved c =
    let is = c.requires.frame in
    let end = params_end is c.requires.kind in
    let k = c.loop-k.k in
    none_at c.args.section.now is 3 (3 + 2 * k + 1) (3 + 2 * (k + 1)) NamedType (omega arith) (omega arith)
    (before_type c.args.section.now is c.requires.kind k (omega arith) c.loop-k.invariant (rw c.word.ensures at c.in_default.ensures))
    (param_type_role _ k c.requires.kind) (rw (c.requires.kind, ← c.word-in-loop-k.ensures) c.in_default-named_type_fault.ensures)
