use Rattle.std.proofs.Common.{◌+◌, ◌*◌, arith}
use Rattle.btf_types.proofs.CheckLemmas.{Roles.NamedType, WordSteps.none_through, WordRoles.entry_type_role, WordRoles.entry_free_role}
use Rattle.btf_types.proofs.CheckLemmas.RecordSteps.{first_at, none_at, free_within, of_its_kind, entries_end}
use Rattle.btf_types.proofs.checks.items.entries_fault.Goals as goal

pub returns-in-Some : goal.returns-in-Some
returns-in-Some c =
    let is = c.requires.frame in
    let end = entries_end is c.requires.kind in
    let k = c.loop-k.k in
    first_at c.args.section.now is 3 _ (3 + 3 * k) NamedType _ (omega arith) (omega arith) (omega arith) c.loop-k.invariant
    (entry_type_role _ k c.requires.kind) (of_its_kind _ _ _ _ _ c.requires.kind (rw c.word-target.ensures at c.in-Some.ensures))

pub loop-k-preserved : goal.loop-k-preserved
loop-k-preserved c =
    let s = c.args.section.now in
    let is = c.requires.frame in
    let end = entries_end is c.requires.kind in
    let k = c.loop-k.k in
    λ j d past low. none_through s c.args.this.now 3 (4 + 3 * k) (6 + 3 * k)
    (none_at s is 3 (3 + 3 * k) (4 + 3 * k) NamedType (omega arith) (omega arith) c.loop-k.invariant
    (entry_type_role _ k c.requires.kind) (rw (c.requires.kind, ← c.word-target.ensures) c.in_default.ensures))
    (free_within s is (4 + 3 * k) (6 + 3 * k) (omega arith) (entry_free_role _ k c.requires.kind)) j d past (omega arith)
