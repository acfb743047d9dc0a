use Rattle.std.proofs.Common.{◌≡◌, ℕ, ◌+◌, ◌^◌, ◌<◌, List, [], length, get_or, set, sym, ap, ◌∙◌, subst, arith}
use Rattle.bpf_canon.specs.btf.names.Interned.{borrowed_texts}
use Rattle.bpf_canon.proofs.BtfLemmas.Names.{HostSearch.no_name, HostSearch.text_at, HostSearch.texts_length, HostSteps.kept_apart}
use Rattle.bpf_canon.proofs.BtfLemmas.Names.HostTable.{PlacedTo, placed_own, placed_other, placed_room, placed_all}
use Rattle.bpf_canon.proofs.btf.names.placed_hosts.Given.{Over}
use Rattle.bpf_canon.proofs.btf.names.placed_hosts.Goals as goal
use Rattle.bpf_canon.proofs.btf.names.placed_hosts.Goals.{Then-host_indices-index, then-host_indices-index, else-host_indices-index}

-- a host leaves space for its text and a NUL
fits : (g : Over) (c : Then-host_indices-index g) → c.loop-index.len + (length ((get_or c.args.names.now c.loop-index.index no_name).now) + 1) < 2 ^ 32
fits g c =
    let names = c.args.names.now in
    let ks = borrowed_texts names in
    let low : c.loop-index.index < length names = omega arith in
    let room = placed_room ks c.args.host_indices.now (kept_apart ks c.requires.own) c.requires.host_indices c.loop-index.text_offsets.items c.loop-index.len c.loop-index.index c.loop-index.invariant (omega (arith, low, texts_length names)) c.if-host_indices-index.true in
    omega (arith, room, ap (λ (t : List ℕ). length t) (text_at names c.loop-index.index no_name low), c.requires.capacity)

pub overflow_add-len-then-host_indices-index : goal.overflow_add-len-then-host_indices-index
overflow_add-len-then-host_indices-index g c = omega (arith, fits g (goal.at.overflow_add-len-then-host_indices-index g c).Then-host_indices-index)

pub overflow_add-len : goal.overflow_add-len
overflow_add-len g c = omega (arith, fits g (goal.at.overflow_add-len g c).Then-host_indices-index)

pub overflow_cast-len : goal.overflow_cast-len
overflow_cast-len g c = omega (arith, fits g (goal.at.overflow_cast-len g c).Then-host_indices-index)

pub loop-index-preserved : goal.loop-index-preserved
loop-index-preserved g c =
    let names = c.args.names.now in
    let ks = borrowed_texts names in
    let host_indices = c.args.host_indices.now in
    let k = c.loop-index.index in
    let low : k < length ks = omega (arith, texts_length names) in
    let apart = kept_apart ks c.requires.own in
    elim c.if-host_indices-index.branch [
      | then-host_indices-index w ↦
          let own = placed_own ks host_indices apart c.requires.host_indices c.loop-index.text_offsets.items c.loop-index.len k c.loop-index.invariant low w.if-host_indices-index.true in
          let long : c.loop-index.len + (length (get_or ks k []) + 1) ≡ c.if-host_indices-index.len = ap (λ (t : List ℕ). c.loop-index.len + (length t + 1)) (text_at names k no_name (omega arith)) ∙ sym w.len-is in
          subst (λ (l : List ℕ). PlacedTo ks host_indices l c.if-host_indices-index.len (k + 1)) (sym (ap (λ v. v.items) w.text_offsets-is)) (subst (λ (n : ℕ). PlacedTo ks host_indices (set c.loop-index.text_offsets.items k c.loop-index.len) n (k + 1)) long own)
      | else-host_indices-index w ↦
          let other = placed_other ks host_indices apart c.requires.host_indices c.loop-index.text_offsets.items c.loop-index.len k c.loop-index.invariant low w.if-host_indices-index.false in
          subst (λ (l : List ℕ). PlacedTo ks host_indices l c.if-host_indices-index.len (k + 1)) (sym (ap (λ v. v.items) w.text_offsets-is)) (subst (λ (n : ℕ). PlacedTo ks host_indices c.loop-index.text_offsets.items n (k + 1)) (sym w.len-is) other)
    ]

pub returns : goal.returns
returns g c =
    let names = c.args.names.now in
    let ks = borrowed_texts names in
    let all : c.loop-index.index ≡ length ks = omega (arith, texts_length names) in
    placed_all ks c.args.host_indices.now (kept_apart ks c.requires.own) c.requires.host_indices c.loop-index.text_offsets.items c.loop-index.len (subst (PlacedTo ks c.args.host_indices.now c.loop-index.text_offsets.items c.loop-index.len) all c.loop-index.invariant)
