use Rattle.std.proofs.Common.{◌≡◌, ◌+◌, List, ℕ, [], ◌∷◌, not, ap, ◌∙◌, subst, rules}
use Rattle.std.specs.Prelude.{is_some}
use Rattle.bpf_elf.specs.Rules.{rule}
use Rattle.bpf_elf.proofs.RuleLemmas.{stays_first, next_fault, both_hold}
use Rattle.bpf_object.specs.declared.fault.ObjectCause.TheVariants.{ExtensionLines, ExtensionGroupTwice}
use Rattle.bpf_object.specs.Lines.{name_of, is_pair}
use Rattle.bpf_object.specs.private.Pairs.{pair_for, StoresPair}
use Rattle.bpf_object.specs.Sources.{section}
use Rattle.bpf_object.proofs.pairs.add_pair.Goals as goal

pub returns-in_err-check_pair : goal.returns-in_err-check_pair
returns-in_err-check_pair g c =
    let s = section c.args.x in
    let f = c.args.functions in
    let here =
    stays_first (rule ExtensionLines (s.start + f) (is_pair s c.args.part f c.args.lines) ∷ [])
    (rule ExtensionGroupTwice (s.start + f) (not (is_some (pair_for c.args.by_name.now (name_of s f)))) ∷ []) _ c.in_err-check_pair.ensures in
    search rules

pub returns-in_err-check_name : goal.returns-in_err-check_name
returns-in_err-check_name g c =
    let s = section c.args.x in
    let f = c.args.functions in
    let test : c.in_ok-is_stored.is_stored ≡ is_some (pair_for c.args.by_name.now (name_of s f)) =
    c.in_ok-is_stored.ensures.before ∙ ap (λ (n : List ℕ). is_some (pair_for c.args.by_name.now n)) c.name_of-name.ensures in
    let here =
    next_fault (rule ExtensionLines (s.start + f) (is_pair s c.args.part f c.args.lines) ∷ [])
    (rule ExtensionGroupTwice (s.start + f) (not (is_some (pair_for c.args.by_name.now (name_of s f)))) ∷ []) _ c.in_ok-check_pair.ensures
    (rw test at c.in_err-check_name.ensures) in
    search rules

pub returns : goal.returns
returns g c =
    let s = section c.args.x in
    let f = c.args.functions in
    let test : c.in_ok-is_stored.is_stored ≡ is_some (pair_for c.args.by_name.now (name_of s f)) =
    c.in_ok-is_stored.ensures.before ∙ ap (λ (n : List ℕ). is_some (pair_for c.args.by_name.now n)) c.name_of-name.ensures in (
      both_hold (rule ExtensionLines (s.start + f) (is_pair s c.args.part f c.args.lines) ∷ [])
          (rule ExtensionGroupTwice (s.start + f) (not (is_some (pair_for c.args.by_name.now (name_of s f)))) ∷ []) c.in_ok-check_pair.ensures
          (rw test at c.in_ok-check_name.ensures),
      subst (λ (n : List ℕ). StoresPair c.args.by_name.now c.store_pair.new.by_name n (record { functions = f; lines = c.args.lines })) c.name_of-name.ensures c.in_ok-is_stored.ensures.stored,
    )
