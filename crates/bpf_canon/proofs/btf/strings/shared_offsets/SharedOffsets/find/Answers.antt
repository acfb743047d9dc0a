use Rattle.std.proofs.Common.{◌≡◌, ◌<◌, ◌^◌, ℕ, List, length, map, subst, sym, ap, ◌∙◌}
use Rattle.btf_types.specs.{Reading.text_from, strings.SharedNames.shared_table}
use Rattle.bpf_canon.specs.btf.strings.{FirstUses.Noted, InHost.IsRankedFor, Longest.AreLongestOf, HostOffsets.HaveTheirHosts, HostOffsets.ArePlaced, HostOffsets.names_in, HostOffsets.new_name_offset}
use Rattle.bpf_canon.proofs.BtfLemmas.Strings.FoundOffsets.{longest_permuted, all_found, all_ranked, all_fit, all_placed}
use Rattle.bpf_canon.proofs.btf.strings.shared_offsets.SharedOffsets.find.Given.{Over}
use Rattle.bpf_canon.proofs.btf.strings.shared_offsets.SharedOffsets.find.Goals.{In_ok-ranked}
use Rattle.bpf_canon.proofs.btf.strings.shared_offsets.SharedOffsets.find.Goals as goal

ranked : (g : Over) (c : In_ok-ranked g) → IsRankedFor c.in_ok-used.used c.in_ok-ranked.ranked
ranked g c =
    let used = c.in_ok-used.used in
    let same = c.in_ok-ranked.ensures.section in
    let own = sym (ap (λ (n : Noted). n.strings) c.uses.view_is) ∙ sym same in
    let longest = subst (λ (s : List ℕ). AreLongestOf s used.slots c.in_ok-texts.texts.items) (sym same) c.in_ok-texts.ensures in
    record {
      ranked = c.in_ok-ranked.ensures.ranked;
      longest = longest_permuted c.in_ok-ranked.ranked.section.now used.slots c.in_ok-texts.texts.items c.in_ok-ranked.ranked.texts.items longest c.in_ok-ranked.ensures.permutation;
      whole = c.in_ok-used.ensures.section ∙ ap (λ (l : List ℕ). length l) own;
      few = subst (λ (s : List ℕ). length s < 2 ^ 32) own c.requires.few;
    }

room : (g : Over) (c : In_ok-ranked g) → length (shared_table (names_in c.in_ok-ranked.ranked c.in_ok-used.used)) < 2 ^ 32
room g c =
    subst (λ (s : List ℕ). length (shared_table (map (text_from s) c.in_ok-used.used.offsets)) < 2 ^ 32) (sym (ap (λ (n : Noted). n.strings) c.uses.view_is) ∙ sym c.in_ok-ranked.ensures.section)
    (subst (λ (l : List ℕ). length (shared_table (map (text_from c.args.uses.strings) l)) < 2 ^ 32) (sym c.in_ok-used.ensures.offsets) c.requires.capacity)

pub find_hosts-requires : goal.find_hosts-requires
find_hosts-requires g c = ranked g (goal.at.find_hosts-requires g c).In_ok-ranked

pub offset_hosts-requires-clause-texts : goal.offset_hosts-requires-clause-texts
offset_hosts-requires-clause-texts g c = ranked g (goal.at.offset_hosts-requires-clause-texts g c).In_ok-ranked

pub offset_hosts-requires-clause-in_hosts : goal.offset_hosts-requires-clause-in_hosts
offset_hosts-requires-clause-in_hosts g c =
    subst (HaveTheirHosts c.in_ok-used.used c.in_ok-ranked.ranked) (sym c.deref.ensures.value)
    (all_found c.in_ok-used.used c.in_ok-ranked.ranked c.in_ok-in_hosts.in_hosts.items c.in_ok-used.ensures.marked (ranked g (goal.at.offset_hosts-requires-clause-in_hosts g c).In_ok-ranked) c.in_ok-in_hosts.ensures)

pub offset_hosts-requires-clause-capacity : goal.offset_hosts-requires-clause-capacity
offset_hosts-requires-clause-capacity g c = room g (goal.at.offset_hosts-requires-clause-capacity g c).In_ok-ranked

pub new_name_offsets-requires-clause-ranked : goal.new_name_offsets-requires-clause-ranked
new_name_offsets-requires-clause-ranked g c =
    rw (c.deref-2.ensures.value, c.deref-3.ensures.value)
    (all_ranked c.in_ok-used.used c.in_ok-ranked.ranked c.in_ok-in_hosts.in_hosts.items c.in_ok-used.ensures.marked (ranked g (goal.at.new_name_offsets-requires-clause-ranked g c).In_ok-ranked) c.in_ok-in_hosts.ensures
    c.in_ok-host_offsets.host_offsets c.in_ok-host_offsets.ensures)

pub new_name_offsets-requires-clause-fits : goal.new_name_offsets-requires-clause-fits
new_name_offsets-requires-clause-fits g c =
    let at = (goal.at.new_name_offsets-requires-clause-fits g c).In_ok-ranked in
    rw (c.deref-2.ensures.value, c.deref-3.ensures.value)
    (all_fit c.in_ok-used.used c.in_ok-ranked.ranked c.in_ok-in_hosts.in_hosts.items c.in_ok-used.ensures.marked (ranked g at) c.in_ok-in_hosts.ensures c.in_ok-host_offsets.host_offsets c.in_ok-host_offsets.ensures (room g at))

pub invariant_of-result : goal.invariant_of-result
invariant_of-result g c =
    let used = c.in_ok-used.used in
    let r = c.in_ok-ranked.ranked in
    let host_offsets = c.in_ok-host_offsets.host_offsets in
    let are : c.in_ok-text_offsets.text_offsets.items ≡ map (new_name_offset host_offsets.by_rank.items) c.in_ok-in_hosts.in_hosts.items =
    c.in_ok-text_offsets.ensures ∙ ap (λ (p : List ℕ). map (new_name_offset p) c.deref-2.result.now) c.deref-3.ensures.value ∙ ap (map (new_name_offset host_offsets.by_rank.items)) c.deref-2.ensures.value in
    subst (λ (s : List ℕ). ArePlaced s used c.in_ok-text_offsets.text_offsets.items host_offsets.spans.items host_offsets.len) c.in_ok-ranked.ensures.section
    (subst (λ (l : List ℕ). ArePlaced r.section.now used l host_offsets.spans.items host_offsets.len) (sym are)
    (all_placed used r c.in_ok-in_hosts.in_hosts.items c.in_ok-used.ensures.marked (ranked g (goal.at.invariant_of-result g c).In_ok-ranked) c.in_ok-in_hosts.ensures host_offsets c.in_ok-host_offsets.ensures))
