-- The laws of the string tables, from the lemmas in this folder.
use Rattle.std.proofs.Common.{◌≡◌, ℕ, zero, suc, ◌+◌, ◌-◌, ◌≤◌, inl, inr, List, [], ◌∷◌, ◌++◌, length, get_or, take, drop, refl, sym, ap, ◌∙◌, subst, arith, append_assoc, take-append-drop}
use Rattle.std.proofs.Math.Seq.{drop-cons}
use Rattle.std.specs.{Prelude.Some, Prelude.slice_get, List.All}
use Rattle.std.proofs.lemmas.List.{length-append, append-nil, drop_all, Sums.sum_by-cons, Concat.flat_map-append}
use Rattle.std.proofs.lemmas.List.Elements.{All-nil, All-cons, All-head, All-append, All-contains}
use Rattle.btf_raw.specs.{Names.IsWithoutNul, Names.TextAt, Header.HasNulEnds}
use Rattle.btf_types.specs.Names.{IsName, with_nul, offset_within, kept}
use Rattle.btf_types.specs.strings.SharedNames.{hosts, host, shared_table, shared_offset}
use Rattle.btf_types.specs.strings.TableLaws.{SharedOffsetsHold, IsCutInto, HasName, SectionsAreCut, NamesEndStrings, HostsEndApart, SharedIsShortest, NextHasHost, TableLength, HostIsLeast, HostIsOne}
use Rattle.btf_types.proofs.Members.{Has, Has-get_or, Has-from_Contains, Contains-from_Has}
use Rattle.btf_types.proofs.StringLemmas.Texts.{text_at_offset, empty_at_zero, tail_at, Has-kept, Has-from_kept}
use Rattle.btf_types.proofs.StringLemmas.Suffixes.{Ends, Ends-length, Ends-from_suffix, suffix_from_Ends}
use Rattle.btf_types.proofs.StringLemmas.{Hosts.host_is, Hosts.host_member, Hosts.hosts_apart, Distinct.NoRepeats-filter, Distinct.NoRepeats-kept}
use Rattle.btf_types.proofs.StringLemmas.{Longest.kept_some, SuffixOrder.suffix_tie, Neighbours.next_ends, Neighbours.next_host}
use Rattle.btf_types.proofs.StringLemmas.Sections.{texts, ends_string, cut, fits}

-- the offset of a string at the end of its host
shared_offset_holds : (xs : List (List ℕ)) (x : List ℕ) → ((z : List ℕ) → Has xs z → IsWithoutNul z) → Has xs x → TextAt (shared_table xs) (shared_offset xs x) x
shared_offset_holds xs [] n h = empty_at_zero (hosts xs)
shared_offset_holds xs (b ∷ bytes) n h =
    let x : List ℕ = b ∷ bytes in
    let its = host_is (kept xs) x (Has-kept xs b bytes h) in
    let y = host xs x in
    let whole = text_at_offset (hosts xs) y its.host (n y (Has-from_kept xs y (host_member (kept xs) y its.host))) in
    let front = its.ends.0 in
    let at_end : TextAt (shared_table xs) (offset_within (hosts xs) y + length front) x =
    tail_at (shared_table xs) (offset_within (hosts xs) y) front x (subst (TextAt (shared_table xs) (offset_within (hosts xs) y)) its.ends.1 whole) in
    let same : length front ≡ length y - length x = omega (arith, length-append front x, ap length its.ends.1) in
    subst (λ (m : ℕ). TextAt (shared_table xs) (offset_within (hosts xs) y + m) x) same at_end

pub shared_offsets : (xs : List (List ℕ)) → SharedOffsetsHold xs
shared_offsets xs valid = λ k d h. record {
  text = shared_offset_holds xs (get_or xs k d) (λ z i. (All-contains IsName xs z valid (Contains-from_Has xs z i)).without_nul) (Has-get_or xs k d h);
  utf8 = (valid k d h).utf8;
}

-- the two ways to say that a section begins and ends with NUL
pub first_is : (section : List ℕ) → HasNulEnds section → slice_get section 0 ≡ Some 0
first_is [] ends = absurd (omega (arith, ends.some))
first_is (b ∷ rest) ends = ap (λ (n : ℕ). Some n) ends.first

last_is : (section : List ℕ) → HasNulEnds section → section ≡ take (length section - 1) section ++ 0 ∷ []
last_is section ends =
    let n = length section - 1 in
    let some = ends.some in
    let one : drop n section ≡ get_or section n 0 ∷ drop (suc n) section = drop-cons section n 0 (omega arith) in
    let none : drop (suc n) section ≡ [] = drop_all (suc n) section (omega arith) in
    sym (take-append-drop n section) ∙ ap (λ (t : List ℕ). take n section ++ t) (one ∙ rw (none, ends.last) refl)

pub sections_are_cut : (section : List ℕ) → SectionsAreCut section
sections_are_cut section ends =
    let c = cut (take (length section - 1) section) in (
      c.strings ++ c.last ∷ [],
      record {
        without_nul = All-append IsWithoutNul c.strings (c.last ∷ []) c.all (All-cons IsWithoutNul c.last [] c.last_all (All-nil IsWithoutNul));
        whole =
            last_is section ends ∙ ap (λ (t : List ℕ). t ++ 0 ∷ []) c.whole ∙ append_assoc (texts c.strings) c.last (0 ∷ [])
            ∙ ap (λ (t : List ℕ). texts c.strings ++ t) (sym (append-nil (with_nul c.last))) ∙ sym (flat_map-append with_nul c.strings (c.last ∷ []));
      },
    )

names_end : (section : List ℕ) (strings : List (List ℕ)) → IsCutInto section strings → (x : List ℕ) → HasName section x → (s : List ℕ) × Has strings s × Ends x s
names_end section strings into x (offset, at) = ends_string strings at.text.before x at.text.after into.without_nul at.text.without_nul (sym at.text.is_there ∙ into.whole)

pub names_end_strings : (section : List ℕ) (strings : List (List ℕ)) → NamesEndStrings section strings
names_end_strings section strings into x is_there =
    let e = names_end section strings into x is_there in
    let c = Contains-from_Has strings e.0 e.1 in
    (c.0, e.0, c.1, c.2, suffix_from_Ends x e.0 e.2)

pub hosts_end_apart : (xs : List (List ℕ)) → HostsEndApart xs
hosts_end_apart xs s h g i j e f = hosts_apart (kept xs) h g s (Has-from_Contains (hosts xs) h i) (Has-from_Contains (hosts xs) g j) (Ends-from_suffix h s e) (Ends-from_suffix g s f)

shortest : (xs : List (List ℕ)) (section : List ℕ) (strings : List (List ℕ)) → IsCutInto section strings → slice_get section 0 ≡ Some 0 → All (HasName section) xs → length (shared_table xs) ≤ length section
shortest xs section [] into first there = absurd (let e = ap (λ (s : List ℕ). slice_get s 0) into.whole in cc)
shortest xs section ((b ∷ s) ∷ ss) into first there =
    let e = ap (λ (t : List ℕ). slice_get t 0) into.whole in
    let zero_first : b ≡ 0 = cc in
    absurd (All-head IsWithoutNul (b ∷ s) ss into.without_nul zero (omega arith) zero_first)
shortest xs section ([] ∷ ss) into first there =
    let in_kept = host_member (kept xs) in
    let room : length (texts (hosts xs)) ≤ length (texts ss) =
    fits ss (hosts xs) (NoRepeats-filter _ (kept xs) (NoRepeats-kept xs)) (hosts_apart (kept xs)) (λ h i.
    let e = names_end section ([] ∷ ss) into h (All-contains (HasName section) xs h there (Contains-from_Has xs h (Has-from_kept xs h (in_kept h i)))) in
    elim e.1 [
      | inl same ↦ absurd (omega (arith, kept_some xs h (in_kept h i), Ends-length h e.0 e.2, ap length same))
      | inr has ↦ (e.0, has, e.2)
    ]) in
    omega (arith, room, ap length into.whole)

pub shared_is_shortest : (xs : List (List ℕ)) (section : List ℕ) → SharedIsShortest xs section
shared_is_shortest xs section ends there =
    let c = sections_are_cut section ends in
    shortest xs section c.0 c.1 (first_is section ends) there

pub next_tells_host : (xs sorted : List (List ℕ)) → NextHasHost xs sorted
next_tells_host xs sorted order k d z inside has proper =
    let n = NoRepeats-kept xs in
    let e = next_ends (kept xs) sorted n order.permutation order.in_order k d z inside (Has-from_Contains (kept xs) z has) proper in
    record { inside = e.0; suffix = e.1; host = next_host (kept xs) sorted n order.permutation order.in_order k d e.0 e.1 }

pub table_length : (ks : List (List ℕ)) → TableLength ks
table_length [] = refl
table_length (k ∷ ks) =
    omega (arith, table_length ks, sum_by-cons (λ (t : List ℕ). length t + 1) k ks, length-append (with_nul k) (texts ks), length-append k (0 ∷ []))

pub host_is_least : (xs : List (List ℕ)) → HostIsLeast xs
host_is_least xs x c =
    let its = host_is (kept xs) x (Has-from_Contains (kept xs) x c) in
    record {
      host = Contains-from_Has (hosts xs) (host xs x) its.host;
      suffix = suffix_from_Ends x (host xs x) its.ends;
      least = λ g h e. its.least g (Has-from_Contains (hosts xs) g h) (Ends-from_suffix x g e);
    }

pub host_is_one : (xs : List (List ℕ)) → HostIsOne xs
host_is_one xs x g h a b = suffix_tie g h (b.least g a.host a.suffix) (a.least h b.host b.suffix)
