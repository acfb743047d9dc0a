-- The hosts of names are their own hosts, so a section that has them all is at least as long as their table.
use Rattle.std.proofs.Common.{◌≡◌, true, List, ℕ, ◌≤◌, length, ap, ◌∙◌, subst, arith}
use Rattle.btf_types.specs.Names.{kept, table_of}
use Rattle.btf_types.specs.strings.SharedNames.{hosts_of, hosts}
use Rattle.btf_types.proofs.Members.{Has, Has-from_filter, Has_from_any}
use Rattle.btf_types.proofs.StringLemmas.{Hosts.host_ends_none, Hosts.host_member, TableLaws.shared_is_shortest}
use Rattle.btf_types.proofs.StringLemmas.Distinct.{NoRepeats-filter, NoRepeats-kept}
use Rattle.bpf_canon.specs.btf.BtfLaws.{HostsFitSections}
use Rattle.bpf_canon.proofs.BtfLemmas.Names.HostSteps.{filter_all, distinct_same, keeps}

-- they are different names that aren't empty
hosts_kept : (xs : List (List ℕ)) → kept (hosts xs) ≡ hosts xs
hosts_kept xs = grind (arith, distinct_same, NoRepeats-filter, NoRepeats-kept, filter_all, Has-from_filter)

-- none of them ends another
ends_none : (ks : List (List ℕ)) (h : List ℕ) → Has (hosts_of ks) h → keeps (hosts_of ks) h ≡ true
ends_none ks h i = grind (arith, Has_from_any, host_ends_none, host_member)

hosts_again : (xs : List (List ℕ)) → hosts (hosts xs) ≡ hosts xs
hosts_again xs = ap hosts_of (hosts_kept xs) ∙ filter_all (keeps (hosts xs)) (hosts xs) (ends_none (kept xs))

pub hosts_fit : HostsFitSections
hosts_fit xs section ends has_all = subst (λ (hs : List (List ℕ)). length (table_of hs) ≤ length section) (hosts_again xs) (shared_is_shortest (hosts xs) section ends has_all)
