use Rattle.std.proofs.Common.{◌≡◌, length, map, ◌+◌, ap, ◌∙◌, ◌++◌, arith, List, ℕ, refl}
use Rattle.std.proofs.lemmas.List.{take_all}
use Rattle.btf_raw.specs.{Header.header, Frames.bytes_of, Frames.section_of}
use Rattle.btf_types.specs.{Names.kept, Names.names, Names.table_of, Values.TypeRecord, tables.TableWords.record_at}
use Rattle.btf_types.specs.strings.SharedNames.{hosts_of, shared_among}
use Rattle.bpf_canon.specs.btf.CanonicalBtf.{canonical_types, record_words}
use Rattle.bpf_canon.proofs.BtfLemmas.Write.WriteSteps.{section_pushed, types_fit, written}
use Rattle.bpf_canon.proofs.btf.write.table.write_named.Goals as goal

pub loop-index-preserved : goal.loop-index-preserved
loop-index-preserved g c =
    let v = g.T.TypeTable.meaning c.args.table.now in
    c.in_ok-push_table_record.ensures
    ∙ ap (λ (ks : List (List ℕ)). c.loop-index.types.items ++ bytes_of c.args.order (record_words (shared_among ks) (record_at v (c.loop-index.index + 1)))) c.requires.kept
    ∙ ap (λ (l : List ℕ). l ++ bytes_of c.args.order (record_words (shared_among (kept (names v))) (record_at v (c.loop-index.index + 1)))) c.loop-index.invariant
    ∙ section_pushed c.args.order (shared_among (kept (names v))) v c.loop-index.index (omega arith)

pub overflow_cast-len : goal.overflow_cast-len
overflow_cast-len g c =
    let v = g.T.TypeTable.meaning c.args.table.now in
    let all : c.loop-index.types.items ≡ canonical_types c.args.order v =
    c.loop-index.invariant ∙ ap (λ (l : List TypeRecord). section_of c.args.order (map (record_words (shared_among (kept (names v)))) l)) (take_all c.loop-index.index v (omega arith)) in
    omega (arith, c.len.ensures, types_fit c.args.order v (kept (names v)) c.loop-index.types.items c.requires.valid refl all)

pub returns : goal.returns
returns g c =
    let v = g.T.TypeTable.meaning c.args.table.now in
    let ks = kept (names v) in
    let types = c.loop-index.types.items in
    let all : types ≡ canonical_types c.args.order v =
    c.loop-index.invariant ∙ ap (λ (l : List TypeRecord). section_of c.args.order (map (record_words (shared_among ks)) l)) (take_all c.loop-index.index v (omega arith)) in
    let front = c.push_header.new.out.items in
    let more = c.extend_from_slice.new.self.items in
    let len : c.len.result ≡ length types = omega (arith, c.len.ensures) in
    written c.args.order v ks types front more c.push_table.new.out.items c.len.result c.table_len.result
    refl all len (c.table_len.ensures ∙ ap (λ (n : List (List ℕ)). length (table_of (hosts_of n))) c.requires.kept)
    (c.in_ok-push_header.ensures ∙ ap (λ (b : List ℕ). b ++ header c.args.order 24 0 c.len.result c.len.result c.table_len.result) c.new-bytes.ensures.items)
    (c.in_ok-extend_from_slice.ensures.items ∙ ap (λ (b : List ℕ). front ++ b) c.as_slice.ensures.value)
    (c.in_ok-push_table.ensures ∙ ap (λ (n : List (List ℕ)). more ++ table_of (hosts_of n)) c.requires.kept)
