use Rattle.std.proofs.Common.{◌≡◌, ℕ, ◌<◌, List, [], ◌∷◌, ◌++◌, length, get_or, sym, ap, ◌∙◌, subst, arith}
use Rattle.std.proofs.lemmas.List.{get_or_read}
use Rattle.btf_types.specs.Names.{kept, table_of}
use Rattle.bpf_canon.specs.btf.names.Interned.{borrowed_texts, HaveHosts}
use Rattle.bpf_canon.proofs.BtfLemmas.Names.HostSearch.{no_name, text_at, texts_length}
use Rattle.bpf_canon.proofs.BtfLemmas.Names.HostSteps.{kept_apart, hosts_among, hosts_among_more, hosts_among_same}
use Rattle.bpf_canon.proofs.BtfLemmas.Names.HostTable.{keeps_own, keeps_other, table_more}
use Rattle.bpf_canon.proofs.btf.names.SharedNames.push_table.Goals as goal
use Rattle.bpf_canon.proofs.btf.names.SharedNames.push_table.Goals.{then-index+in_ok-extend_from_slice+in_ok-push-2, else-index}

pub loop-index-preserved : goal.loop-index-preserved
loop-index-preserved g c =
    let names = c.as_slice-names.result.now in
    let ks = borrowed_texts names in
    let host_indices = c.self.inside.host_indices.items in
    let k = c.loop-index.index in
    let old = c.args.out.now.items in
    let same : ks ≡ borrowed_texts c.self.inside.names.keys = ap borrowed_texts c.as_slice-names.ensures.keys in
    let low : k < length names = omega arith in
    let in_ks : k < length ks = omega (arith, low, texts_length names) in
    let have = subst (λ (l : List (List ℕ)). HaveHosts l host_indices) (sym same) c.self.invariant.have_hosts in
    let apart = kept_apart ks (subst (λ (l : List (List ℕ)). kept l ≡ l) (sym same) c.self.invariant.own) in
    let host : c.index.result.now ≡ get_or host_indices k 0 = get_or_read host_indices k c.index.result.now (omega (arith, in_ks, have.whole)) c.index.ensures 0 in
    elim c.if-index.branch [
      | then-index+in_ok-extend_from_slice+in_ok-push-2 w ↦
          let own : get_or host_indices k 0 ≡ k = sym host ∙ w.if-index.true in
          ap (λ v. v.items) w.out-is ∙ w.in_ok-push-2.ensures.items
          ∙ ap (λ (l : List ℕ). l ++ 0 ∷ []) (w.in_ok-extend_from_slice.ensures.items ∙ ap (λ (t : List ℕ). c.loop-index.out.items ++ t) (w.as_bytes.ensures.value ∙ sym (text_at names k no_name low)))
          ∙ table_more c.loop-index.out.items old (hosts_among ks k) (get_or ks k []) c.loop-index.invariant
          ∙ ap (λ (l : List (List ℕ)). old ++ table_of l) (sym (hosts_among_more ks k [] in_ks (keeps_own ks host_indices apart have k in_ks own)))
      | else-index w ↦
          ap (λ v. v.items) w.out-is ∙ c.loop-index.invariant
          ∙ ap (λ (l : List (List ℕ)). old ++ table_of l) (sym (hosts_among_same ks k [] in_ks (keeps_other ks host_indices apart have k in_ks (λ e. w.if-index.false (host ∙ e)))))
    ]
