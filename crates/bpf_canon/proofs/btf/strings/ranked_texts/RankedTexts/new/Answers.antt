use Rattle.std.proofs.Common.{◌≡◌, ◌<◌, ℕ, List, length, arith, rules, get_or, ap, subst, sym}
use Rattle.std.specs.{List.All, List.Sorted.IsSorted, Ordering.is_lt}
use Rattle.btf_types.specs.strings.SharedNames.{suffix_cmp}
use Rattle.std.proofs.lemmas.{Fn.always_returns_same, List.Sorted.ranks_by, List.Sorted.length_permutation, List.Sorted.All-permutation}
use Rattle.bpf_canon.specs.{btf.strings.SectionTexts.HasKey, btf.strings.SectionTexts.compared, btf.strings.SectionTexts.texts_in, declared.btf.strings.ranked_texts.SectionText.SectionText}
use Rattle.bpf_canon.proofs.BtfLemmas.Strings.SortedTexts.{compared_total, sorted_texts}
use Rattle.bpf_canon.proofs.btf.strings.ranked_texts.RankedTexts.new.Goals as goal

pub common_suffixes-requires-clause-keys : goal.common_suffixes-requires-clause-keys
common_suffixes-requires-clause-keys g c =
    let section = c.args.section.now in
    let items = c.sort_unstable_by.new.self.items in
    subst (λ (l : List SectionText). All (HasKey section) l) (sym c.deref.ensures.value)
    (All-permutation (HasKey section) c.args.texts.items items c.sort_unstable_by.ensures.permutation c.requires.keys)

pub next_hosts-requires-clause-few : goal.next_hosts-requires-clause-few
next_hosts-requires-clause-few g c =
    let same = ap (λ (l : List SectionText). length l) c.deref-2.ensures.value in
    let long = length_permutation c.args.texts.items c.sort_unstable_by.new.self.items c.sort_unstable_by.ensures.permutation in
    omega (arith, same, long, c.requires.few)

pub returns-clause-ranked : goal.returns-clause-ranked
returns-clause-ranked g c =
    let section = c.args.section.now in
    let items = c.sort_unstable_by.new.self.items in
    let up = c.sort_unstable_by.ensures.sorted (λ x y. is_lt (compared section x y)) (ranks_by (compared_total section) (λ t. t))
    (always_returns_same _ (λ a r. is_lt r ≡ is_lt (compared section a.0.now a.1.0.now)) _ (λ a r g call. let e : r ≡ compared section a.0.now a.1.0.now = search rules in (ap is_lt e, search rules))) in
    let bytes : (i : ℕ) → get_or section i 0 < 256 = search rules in
    let sorted : IsSorted suffix_cmp (texts_in section items) =
    sorted_texts section items bytes (All-permutation (HasKey section) c.args.texts.items items c.sort_unstable_by.ensures.permutation c.requires.keys) up in
    search rules
