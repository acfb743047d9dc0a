use Rattle.std.proofs.Common.{◌≡◌, subst, sym, ◌∙◌, List, ℕ}
use Rattle.btf_types.specs.{Names.kept, Names.names}
use Rattle.bpf_canon.proofs.BtfLemmas.{BtfFiles.ok_with, BtfFiles.canonical_is_file, Names.HostSteps.kept_again}
use Rattle.bpf_canon.proofs.btf.write.table.write_table.Goals as goal

pub new-requires-clause-own : goal.new-requires-clause-own
new-requires-clause-own g c = subst (λ (l : List (List ℕ)). kept l ≡ l) (sym c.in_ok-kept.ensures.names) (kept_again (names (g.T.TypeTable.meaning c.args.table.now)))

pub write_named-requires-clause-kept : goal.write_named-requires-clause-kept
write_named-requires-clause-kept g c = c.in_ok-names.ensures ∙ c.in_ok-kept.ensures.names

pub returns-clause-accepted : goal.returns-clause-accepted
returns-clause-accepted g c =
    ok_with _ _ (λ bytes e. canonical_is_file c.args.order (g.T.TypeTable.meaning c.args.table.now) bytes.items c.in_ok-kept.ensures.valid e) c.write_named.result c.write_named.ensures
