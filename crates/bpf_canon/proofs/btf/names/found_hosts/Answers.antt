use Rattle.std.proofs.Common.{◌≡◌, ℕ, ◌+◌, ◌-◌, ◌<◌, length, get_or, set, sym, ap, ◌∙◌, subst, arith, true}
use Rattle.std.proofs.lemmas.List.{get_or_default}
use Rattle.btf_types.specs.strings.SharedNames.{is_suffix}
use Rattle.bpf_canon.specs.btf.names.Interned.{borrowed_texts}
use Rattle.bpf_canon.proofs.BtfLemmas.Names.HostSteps.{kept_apart}
use Rattle.bpf_canon.proofs.BtfLemmas.Names.HostIndices.{Named, HostsFrom, host_next_read, host_own_read, host_there, hosts_all}
use Rattle.bpf_canon.proofs.btf.names.found_hosts.Goals as goal
use Rattle.bpf_canon.proofs.btf.names.found_hosts.Goals.{then-rank-len, then-rank-len-via-then-rank-len, then-rank-len-via-else-rank-len+then-not-ends_with, else-rank-len+else-not-ends_with}

pub loop-rank-preserved : goal.loop-rank-preserved
loop-rank-preserved g c =
    let ks = borrowed_texts c.args.names.now in
    let apart = kept_apart ks c.requires in
    let sorted = c.in_ok-sorted.sorted.items in
    let are = c.in_ok-sorted.ensures in
    let k = c.loop-rank.rank - 1 in
    let step : c.loop-rank.rank ≡ k + 1 = omega arith in
    let host_indices = c.loop-rank.host_indices.items in
    let host = c.if-rank-len.host in
    let this = c.index.result.now in
    let low : k < length sorted = omega arith in
    let f = subst (HostsFrom ks sorted host_indices) step c.loop-rank.invariant.0 in
    let from : HostsFrom ks sorted (set host_indices this.1 host) k = elim c.if-rank-len.branch [
      | then-rank-len w ↦ host_own_read ks sorted apart are host_indices k host this f low c.index.ensures (λ q more e. elim w.then-rank-len.branch [
        | then-rank-len-via-then-rank-len u ↦ absurd (omega (arith, more, u.if-rank-len.true))
        | then-rank-len-via-else-rank-len+then-not-ends_with u ↦
            let next = u.index-else-rank-len.result.now in
            let same : q ≡ next = e ∙ get_or_default sorted (k + 1) q next more ∙ sym u.index-else-rank-len.ensures in
            ap (λ (s : Named). is_suffix this.0.now s.0.now) same ∙ ap (λ t. is_suffix t next.0.now) (sym u.as_bytes-else-rank-len.ensures.value)
            ∙ ap (is_suffix u.as_bytes-else-rank-len.result.now) (sym u.as_bytes.ensures.value) ∙ sym u.ends_with.ensures.value ∙ u.if-not-ends_with.true
      ]) w.host-is
      | else-rank-len+else-not-ends_with w ↦
          let next = w.index-else-rank-len.result.now in
          let more : k + 1 < length sorted = omega (arith, low, w.if-rank-len.false) in
          let ends : is_suffix this.0.now next.0.now ≡ true = ap (λ t. is_suffix t next.0.now) (sym w.as_bytes-else-rank-len.ensures.value)
          ∙ ap (is_suffix w.as_bytes-else-rank-len.result.now) (sym w.as_bytes.ensures.value) ∙ sym w.ends_with.ensures.value ∙ w.if-not-ends_with.false in
          let carried : c.loop-rank.host ≡ get_or host_indices ((get_or sorted (k + 1) this).1) 0 =
          subst (λ (n : ℕ). c.loop-rank.host ≡ get_or host_indices ((get_or sorted n this).1) 0) step (c.loop-rank.invariant.1 this (omega (arith, more, step))) in
          host_next_read ks sorted apart are host_indices k host this next f more c.index.ensures w.index-else-rank-len.ensures ends (w.host-is ∙ carried)
    ] in
    (from, λ e inside. host_there ks sorted apart are host_indices k host this e f low c.index.ensures)

pub returns : goal.returns
returns g c =
    let ks = borrowed_texts c.args.names.now in
    let none : c.loop-rank.rank ≡ 0 = omega arith in
    hosts_all ks c.in_ok-sorted.sorted.items (kept_apart ks c.requires) c.in_ok-sorted.ensures c.loop-rank.host_indices.items (subst (HostsFrom ks c.in_ok-sorted.sorted.items c.loop-rank.host_indices.items) none c.loop-rank.invariant.0)
