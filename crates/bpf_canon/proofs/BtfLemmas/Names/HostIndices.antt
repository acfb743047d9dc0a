-- The search for the host of each name by its index, over the sorted names from the last one back.
use Rattle.std.proofs.Common.{◌≡◌, ℕ, ◌+◌, ◌<◌, ◌≤◌, ◌&&◌, Bool, true, false, List, [], length, map, get_or, set, sym, ap, ◌∙◌, subst, arith, Bor}
use Rattle.std.proofs.lemmas.List.{get_or-set_same, get_or-set_other, length-set, length-map, get_or-map, get_or_default}
use Rattle.btf_types.specs.Names.{is_other}
use Rattle.btf_types.specs.strings.SharedNames.{is_suffix, is_proper_suffix, hosts_of, host_in}
use Rattle.btf_types.proofs.StringLemmas.Suffixes.{Ends-from_suffix, proper_from_Ends}
use Rattle.btf_types.proofs.StringLemmas.{Distinct.NoRepeats, Distinct.apart_after, Neighbours.next_host, Neighbours.own_host}
use Rattle.bpf_canon.specs.btf.names.Interned.{AreIndexed, HaveHosts, name_at}

abbrev pub Named : Type 0
Named = Bor (List ℕ) × ℕ

abbrev pub texts : List Named → List (List ℕ)
texts sorted = map (λ (s : Named). s.0.now) sorted

-- the name of this index has its host
pub record IsHostAt (ks : List (List ℕ)) (host_indices : List ℕ) (i : ℕ) : Type 0 where
  pub inside : get_or host_indices i 0 < length ks
  pub host : name_at ks (get_or host_indices i 0) ≡ host_in (hosts_of ks) (name_at ks i)

-- so have the names from this rank on
pub record HostsFrom (ks : List (List ℕ)) (sorted : List Named) (host_indices : List ℕ) (k : ℕ) : Type 0 where
  pub whole : length host_indices ≡ length ks
  pub after : (j : ℕ) (d : Named) → k ≤ j → j < length sorted → IsHostAt ks host_indices ((get_or sorted j d).1)

module _ (ks : List (List ℕ)) (sorted : List Named) (apart : NoRepeats ks) (are : AreIndexed ks sorted) where
  text_at : (k : ℕ) (e : Named) → k < length sorted → get_or (texts sorted) k e.0.now ≡ (get_or sorted k e).0.now
  text_at k e h = get_or-map (λ (s : Named). s.0.now) sorted k e e.0.now h

  long : length (texts sorted) ≡ length sorted
  long = length-map sorted (λ (s : Named). s.0.now)

  pub name_is : (k : ℕ) (e : Named) → k < length sorted → name_at ks ((get_or sorted k e).1) ≡ (get_or sorted k e).0.now
  name_is k e h = are.names k e h

  pub index_inside : (k : ℕ) (e : Named) → k < length sorted → (get_or sorted k e).1 < length ks
  index_inside k e h = are.inside k e h

  -- one name more
  pub host_put : (host_indices : List ℕ) (k h : ℕ) (e : Named) → HostsFrom ks sorted host_indices (k + 1) → k < length sorted → h < length ks → name_at ks h ≡ host_in (hosts_of ks) (name_at ks ((get_or sorted k e).1)) → HostsFrom ks sorted (set host_indices ((get_or sorted k e).1) h) k
  host_put host_indices k h e f low inside is = grind (arith, get_or-set_same, length-set, get_or_default, get_or-set_other)

  proper : (k : ℕ) (e : Named) → k + 1 < length sorted → is_suffix ((get_or sorted k e).0.now) ((get_or sorted (k + 1) e).0.now) ≡ true → is_proper_suffix (get_or (texts sorted) k e.0.now) (get_or (texts sorted) (k + 1) e.0.now) ≡ true
  proper k e low t =
      let this = text_at k e (omega (arith, low)) in
      let next = text_at (k + 1) e low in
      let ends : is_suffix (get_or (texts sorted) k e.0.now) (get_or (texts sorted) (k + 1) e.0.now) ≡ true = ap (λ (x : List ℕ). is_suffix x (get_or (texts sorted) (k + 1) e.0.now)) this ∙ ap (is_suffix ((get_or sorted k e).0.now)) next ∙ t in
      proper_from_Ends _ _ (Ends-from_suffix _ _ ends) (apart_after ks (texts sorted) apart are.permutation k (k + 1) e.0.now (omega arith) (omega (arith, low, long)))

  -- a name that ends the next one has its host, and another name is its own
  pub host_next : (host_indices : List ℕ) (k : ℕ) (e : Named) → HostsFrom ks sorted host_indices (k + 1) → k + 1 < length sorted → is_suffix ((get_or sorted k e).0.now) ((get_or sorted (k + 1) e).0.now) ≡ true
      → HostsFrom ks sorted (set host_indices ((get_or sorted k e).1) (get_or host_indices ((get_or sorted (k + 1) e).1) 0)) k
  host_next host_indices k e f low t =
      let low_here : k < length sorted = omega (arith, low) in
      let next = f.after (k + 1) e (omega arith) low in
      let shared = next_host ks (texts sorted) apart are.permutation are.in_order k e.0.now (omega (arith, low, long)) (proper k e low t) in
      host_put host_indices k (get_or host_indices ((get_or sorted (k + 1) e).1) 0) e f low_here next.inside
      (next.host ∙ ap (host_in (hosts_of ks)) (name_is (k + 1) e low ∙ sym (text_at (k + 1) e low)) ∙ sym shared ∙ ap (host_in (hosts_of ks)) (text_at k e low_here ∙ sym (name_is k e low_here)))

  pub host_own : (host_indices : List ℕ) (k : ℕ) (e : Named) → HostsFrom ks sorted host_indices (k + 1) → k < length sorted → (k + 1 < length sorted → is_suffix ((get_or sorted k e).0.now) ((get_or sorted (k + 1) e).0.now) ≡ false)
      → HostsFrom ks sorted (set host_indices ((get_or sorted k e).1) ((get_or sorted k e).1)) k
  host_own host_indices k e f low differs =
      let none : k + 1 < length (texts sorted) → is_proper_suffix (get_or (texts sorted) k e.0.now) (get_or (texts sorted) (k + 1) e.0.now) ≡ false = λ m.
      let more : k + 1 < length sorted = omega (arith, m, long) in
      let here : is_suffix (get_or (texts sorted) k e.0.now) (get_or (texts sorted) (k + 1) e.0.now) ≡ false = ap (λ (x : List ℕ). is_suffix x (get_or (texts sorted) (k + 1) e.0.now)) (text_at k e low) ∙ ap (is_suffix ((get_or sorted k e).0.now)) (text_at (k + 1) e more) ∙ differs more in
      ap (λ (b : Bool). b && is_other (get_or (texts sorted) k e.0.now) (get_or (texts sorted) (k + 1) e.0.now)) here in
      let own = own_host ks (texts sorted) apart are.permutation are.in_order k e.0.now (omega (arith, low, long)) none in
      host_put host_indices k ((get_or sorted k e).1) e f low (index_inside k e low)
      (name_is k e low ∙ sym (text_at k e low) ∙ sym own ∙ ap (host_in (hosts_of ks)) (text_at k e low ∙ sym (name_is k e low)))

  -- the same in the form that the code needs: what was read of the sorted names, and the host of the next one
  pub host_next_read : (host_indices : List ℕ) (k h : ℕ) (p q : Named) → HostsFrom ks sorted host_indices (k + 1) → k + 1 < length sorted → p ≡ get_or sorted k p → q ≡ get_or sorted (k + 1) q → is_suffix p.0.now q.0.now ≡ true → h ≡ get_or host_indices ((get_or sorted (k + 1) p).1) 0
      → HostsFrom ks sorted (set host_indices p.1 h) k
  host_next_read host_indices k h p q f low p_is q_is t h_is =
      let next : get_or sorted (k + 1) p ≡ q = get_or_default sorted (k + 1) p q low ∙ sym q_is in
      let ends : is_suffix ((get_or sorted k p).0.now) ((get_or sorted (k + 1) p).0.now) ≡ true = ap (λ (s : Named). is_suffix s.0.now ((get_or sorted (k + 1) p).0.now)) (sym p_is) ∙ ap (λ (s : Named). is_suffix p.0.now s.0.now) next ∙ t in
      subst (λ (s : Named). HostsFrom ks sorted (set host_indices s.1 h) k) (sym p_is) (subst (λ (n : ℕ). HostsFrom ks sorted (set host_indices ((get_or sorted k p).1) n) k) (sym h_is) (host_next host_indices k p f low ends))

  pub host_own_read : (host_indices : List ℕ) (k h : ℕ) (p : Named) → HostsFrom ks sorted host_indices (k + 1) → k < length sorted → p ≡ get_or sorted k p → ((q : Named) → k + 1 < length sorted → q ≡ get_or sorted (k + 1) q → is_suffix p.0.now q.0.now ≡ false) → h ≡ p.1
      → HostsFrom ks sorted (set host_indices p.1 h) k
  host_own_read host_indices k h p f low p_is differs h_is = grind (arith, get_or_default, host_own)

  -- the host that was put is that of this name
  pub host_there : (host_indices : List ℕ) (k h : ℕ) (p e : Named) → HostsFrom ks sorted host_indices (k + 1) → k < length sorted → p ≡ get_or sorted k p → h ≡ get_or (set host_indices p.1 h) ((get_or sorted k e).1) 0
  host_there host_indices k h p e f low p_is =
      let this : get_or sorted k e ≡ p = get_or_default sorted k e p low ∙ sym p_is in
      let inside : p.1 < length host_indices = omega (arith, index_inside k p low, f.whole, ap (λ (s : Named). s.1) p_is) in
      sym (ap (λ (s : Named). get_or (set host_indices p.1 h) s.1 0) this ∙ get_or-set_same host_indices p.1 h 0 inside)

  pub hosts_all : (host_indices : List ℕ) → HostsFrom ks sorted host_indices 0 → HaveHosts ks host_indices
  hosts_all host_indices f = record {
    whole = f.whole;
    inside = λ i h. (its i h).inside;
    each = λ i h. (its i h).host;
  } where
    its : (i : ℕ) → i < length ks → IsHostAt ks host_indices i
    its i h =
        let e : Named = (record { ref_ptr = (0, 0); now = [] }, 0) in
        let at = are.each i h in
        let low : at.0 < length sorted = omega (arith, at.1, length-map sorted (λ (s : Named). s.1)) in
        subst (IsHostAt ks host_indices) (sym (get_or-map (λ (s : Named). s.1) sorted at.0 e i low) ∙ at.2) (f.after at.0 e (omega arith) low)
