use Rattle.std.proofs.Common.{ℕ, List, sym, ◌∙◌, ap, subst, rules}
use Rattle.std.specs.List.{All}
use Rattle.bpf_elf.specs.Rules.{first_broken}
use Rattle.bpf_object.specs.declared.extension.Part.TheVariants.{Relocations}
use Rattle.bpf_object.specs.Lines.{accesses_rules}
use Rattle.bpf_object.specs.private.Cursors.{rest_of}
use Rattle.bpf_object.specs.Sources.{section, HasGroup}
use Rattle.bpf_object.proofs.CursorLemmas.{group_there, groups_after, fewer_groups}
use Rattle.bpf_object.proofs.StepLemmas.{accesses_fault, accesses_after}
use Rattle.bpf_object.proofs.access_checks.check_accesses.Goals as goal

pub loop-rest-init : goal.loop-rest-init
loop-rest-init c =
    let all = sym c.first_group-rest.ensures in (
      ap (λ (gs : List ℕ). first_broken (accesses_rules (section c.args.x) gs)) all,
      subst (λ (gs : List ℕ). All (HasGroup c.args.x Relocations) gs) all c.requires.groups,
    )

pub check_group_accesses-requires : goal.check_group_accesses-requires
check_group_accesses-requires c = group_there c.args.x Relocations c.loop-rest.rest c.in-Some.group c.in-Some.is c.loop-rest.invariant.1

pub returns-in_err-check_group_accesses : goal.returns-in_err-check_group_accesses
returns-in_err-check_group_accesses c =
    let here =
    c.loop-rest.invariant.0 ∙ accesses_fault (section c.args.x) c.loop-rest.rest c.in-Some.group _ c.in-Some.is c.in_err-check_group_accesses.ensures in
    search rules

pub next_in-rest-requires : goal.next_in-rest-requires
next_in-rest-requires c = group_there c.args.x Relocations c.loop-rest.rest c.in-Some.group c.in-Some.is c.loop-rest.invariant.1

pub loop-rest-smaller : goal.loop-rest-smaller
loop-rest-smaller c = fewer_groups (section c.args.x) Relocations c.loop-rest.rest c.in-Some.group _ c.in-Some.is c.next_in-rest.ensures

pub loop-rest-preserved : goal.loop-rest-preserved
loop-rest-preserved c = (
  c.loop-rest.invariant.0
      ∙ accesses_after (section c.args.x) c.loop-rest.rest c.in-Some.group _ c.in-Some.is c.next_in-rest.ensures c.in_ok-check_group_accesses.ensures,
  groups_after c.args.x Relocations c.loop-rest.rest c.in-Some.group _ c.in-Some.is c.next_in-rest.ensures c.loop-rest.invariant.1,
)

pub returns : goal.returns
returns c =
    c.loop-rest.invariant.0 ∙ ap (λ o. first_broken (accesses_rules (section c.args.x) (rest_of (section c.args.x) Relocations o))) c.in_default.is
