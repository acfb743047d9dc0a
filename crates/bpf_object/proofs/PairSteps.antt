-- The loop that checks groups of functions and lines.
use Rattle.std.proofs.Common.{◌≡◌, ℕ, ◌+◌, Bool, false, not, Option, Some, None, List, [], ◌∷◌, ◌++◌, sym, ap, ◌∙◌, subst, append-nil}
use Rattle.std.specs.{Prelude.is_some, List.All}
use Rattle.bpf_elf.specs.Rules.{rule, first_broken, AllHold}
use Rattle.bpf_elf.proofs.RuleLemmas.{head_holds}
use Rattle.bpf_object.specs.declared.{extension.Part.Part, fault.ObjectError.ObjectError, pairs.Pair.Pair, source.Source.Source}
use Rattle.bpf_object.specs.declared.extension.Part.TheVariants.{Functions}
use Rattle.bpf_object.specs.declared.fault.ObjectCause.TheVariants as cause
use Rattle.bpf_object.specs.declared.fault.ObjectError.TheVariants as errors
use Rattle.bpf_object.specs.Extension.{Section, groups}
use Rattle.bpf_object.specs.Faults.{ObjectRule, IsFirstFault, FailsRules}
use Rattle.bpf_object.specs.FunctionLines.{pairs_of}
use Rattle.bpf_object.specs.Lines.{name_of, is_pair, pairs_rules}
use Rattle.bpf_object.specs.private.Cursors.{rest_of}
use Rattle.bpf_object.specs.private.Pairs.{PairsByName, pair_for, StoresPair, HasPairs}
use Rattle.bpf_object.specs.Sources.{section, HasGroup, HasGroups}
use Rattle.bpf_object.proofs.CursorLemmas.{group_there, groups_after}
use Rattle.bpf_object.proofs.PairLemmas.{names_of, has_more, has_none, pair_there, IsLeft, names_more, whole_after, pair_rules_are, new_name}
use Rattle.bpf_object.proofs.StepLemmas.{pair_rules, pairs_at, pairs_fault, pairs_after}

-- the rules on groups at the same index, by the names that a map has
abbrev pub known_rules : Section → Part → PairsByName → ℕ → ℕ → List ObjectRule
known_rules s p by_name f l =
    rule cause.ExtensionLines (s.start + f) (is_pair s p f l)
    ∷ rule cause.ExtensionGroupTwice (s.start + f) (not (is_some (pair_for by_name (name_of s f)))) ∷ []

module _ (x : Source) (p : Part) (by_name : PairsByName) (functions lines : Option ℕ) where
  abbrev s : Section
  s = section x

  -- the rules on all groups
  abbrev all : List ObjectRule
  all = pairs_rules s p [] (groups s Functions) (groups s p)

  pub start : rest_of s Functions functions ≡ groups s Functions → rest_of s p lines ≡ groups s p → HasGroups x Functions → HasGroups x p → by_name.entries ≡ []
      → IsLeft x p by_name functions lines
  start fs ls has_functions has_lines empty = record {
    pairs = [];
    rules =
        ap (λ (gs : List ℕ). first_broken (pairs_rules s p [] gs (groups s p))) (sym fs)
        ∙ ap (λ (gs : List ℕ). first_broken (pairs_rules s p [] (rest_of s Functions functions) gs)) (sym ls);
    whole = ap (λ (gs : List ℕ). pairs_of gs (rest_of s p lines)) fs ∙ ap (λ (gs : List ℕ). pairs_of (groups s Functions) gs) ls;
    has = has_none x p by_name empty;
    functions_left = subst (All (HasGroup x Functions)) (sym fs) has_functions.groups;
    lines_left = subst (All (HasGroup x p)) (sym ls) has_lines.groups;
  }

  module _ (left : IsLeft x p by_name functions lines) where
    abbrev names : List (List ℕ)
    names = names_of s left.pairs

    -- ---- a pair

    module _ (f l : ℕ) (there : functions ≡ Some f) (here : lines ≡ Some l) where
      abbrev pair : Pair
      pair = record { functions = f; lines = l }

      at_pair : first_broken all ≡ first_broken (pairs_rules s p names (rest_of s Functions (Some f)) (rest_of s p (Some l)))
      at_pair = left.rules ∙ pairs_at s p names functions lines (Some f) (Some l) there here

      same_rules : known_rules s p by_name f l ≡ pair_rules s p names f l
      same_rules =
          ap (λ (y : Bool). rule cause.ExtensionLines (s.start + f) (is_pair s p f l) ∷ rule cause.ExtensionGroupTwice (s.start + f) (not y) ∷ [])
          (pair_rules_are x p left.pairs by_name f l left.has)

      pub fails : (e : ObjectError) → FailsRules (known_rules s p by_name f l) e → FailsRules all e
      fails (errors.Fault fault) h = at_pair ∙ pairs_fault s p names f l _ (subst (λ (rs : List ObjectRule). IsFirstFault rs fault) same_rules h)
      fails errors.Memory h = h

      pub function_there : HasGroup x Functions f
      function_there = group_there x Functions functions f there left.functions_left

      pub line_there : HasGroup x p l
      line_there = group_there x p lines l here left.lines_left

      pub more : (new : PairsByName) (fs ls : Option ℕ) → rest_of s Functions (Some f) ≡ f ∷ rest_of s Functions fs → rest_of s p (Some l) ≡ l ∷ rest_of s p ls
          → AllHold (known_rules s p by_name f l) × StoresPair by_name new (name_of s f) pair → IsLeft x p new fs ls
      more new fs ls first second added =
          let twice = rule cause.ExtensionGroupTwice (s.start + f) (not (is_some (pair_for by_name (name_of s f)))) in
          let is = head_holds cause.ExtensionLines (s.start + f) (is_pair s p f l) (twice ∷ []) added.0 in
          let fresh = head_holds cause.ExtensionGroupTwice (s.start + f) (not (is_some (pair_for by_name (name_of s f)))) [] is.1 in
          record {
            pairs = left.pairs ++ pair ∷ [];
            rules =
                at_pair ∙ pairs_after s p names f l fs ls first second (subst AllHold same_rules added.0)
                ∙ ap (λ (ns : List (List ℕ)). first_broken (pairs_rules s p ns (rest_of s Functions fs) (rest_of s p ls))) (sym (names_more s left.pairs pair));
            whole = whole_after s p left.pairs (pairs_of (groups s Functions) (groups s p)) f l functions lines fs ls there here first second left.whole;
            has = has_more x p left.pairs by_name new pair left.has (pair_there x p f l function_there line_there is.0) (new_name by_name (name_of s f) fresh.0) added.1;
            functions_left = groups_after x Functions functions f fs there first left.functions_left;
            lines_left = groups_after x p lines l ls here second left.lines_left;
          }

    -- ---- a group without another one at the same index

    pub function_only : (f : ℕ) → functions ≡ Some f → lines ≡ None → (e : ObjectError) → FailsRules (rule cause.ExtensionLines (s.start + f) false ∷ []) e → FailsRules all e
    function_only f there here (errors.Fault fault) h = left.rules ∙ pairs_at s p names functions lines (Some f) None there here ∙ h
    function_only f there here errors.Memory h = h

    pub line_only : (l : ℕ) → functions ≡ None → lines ≡ Some l → (e : ObjectError) → FailsRules (rule cause.ExtensionLines (s.start + l) false ∷ []) e → FailsRules all e
    line_only l there here (errors.Fault fault) h = left.rules ∙ pairs_at s p names functions lines None (Some l) there here ∙ h
    line_only l there here errors.Memory h = h

    -- ---- the end

    pub finished : functions ≡ None → lines ≡ None → AllHold all × HasPairs x p (pairs_of (groups s Functions) (groups s p)) by_name
    finished there here =
        let whole : left.pairs ≡ pairs_of (groups s Functions) (groups s p) =
        sym (append-nil left.pairs) ∙ ap (λ (o : Option ℕ). left.pairs ++ pairs_of (rest_of s Functions o) (rest_of s p lines)) (sym there) ∙ left.whole in
        (left.rules ∙ pairs_at s p names functions lines None None there here, subst (λ (qs : List Pair). HasPairs x p qs by_name) whole left.has)
