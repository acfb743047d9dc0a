use Rattle.std.proofs.Common.{◌≡◌, ◌++◌, ℕ, List, length, map, sym, refl, ap, ◌∙◌, subst}
use Rattle.std.specs.List.{All, Contains}
use Rattle.btf_raw.specs.Header.{header}
use Rattle.btf_types.specs.{Names.kept, Names.names, Reading.text_from, Sections.records_in}
use Rattle.bpf_canon.specs.btf.{CanonicalBtf.canonical, strings.NamesByOffset.texts_by_offset, write.NameOffsets.all_offsets}
use Rattle.bpf_canon.proofs.BtfLemmas.BtfFiles.{canonical_is_file}
use Rattle.bpf_canon.proofs.BtfLemmas.Write.SectionFiles.{each_noted, kept_uses, sections_written}
use Rattle.bpf_canon.proofs.btf.write.sections.write_sections.Given.{Over}
use Rattle.bpf_canon.proofs.btf.write.sections.write_sections.Goals.{In_ok-push_table}
use Rattle.bpf_canon.proofs.btf.write.sections.write_sections.Goals as goal

pub push_records-requires-clause-noted : goal.push_records-requires-clause-noted
push_records-requires-clause-noted g c =
    let offs : List ℕ = all_offsets c.args.sections.now.frames in
    subst (λ (noted : List ℕ). All (Contains noted) offs) (sym (c.in_ok-names.ensures.offsets ∙ c.in_ok-uses.ensures.offsets)) (each_noted offs)

-- the header, the records and the table
canonical_bytes : (g : Over) (c : In_ok-push_table g) → c.push_table.new.out.items ≡ canonical c.args.to (records_in c.args.sections.now)
canonical_bytes g c =
    let s = c.args.sections.now in
    let n = c.in_ok-names.names in
    let front = c.push_header.new.out.items in
    let types_len = length c.types-types_len.result.now in
    let len = c.table_len-table_len.result in
    let same : kept (texts_by_offset n) ≡ kept (names (records_in s)) =
    ap (λ (t : List ℕ). kept (map (text_from t) n.offsets)) (c.in_ok-names.ensures.strings ∙ c.in_ok-uses.ensures.strings)
    ∙ ap (λ (l : List ℕ). kept (map (text_from s.strings) l)) (c.in_ok-names.ensures.offsets ∙ c.in_ok-uses.ensures.offsets)
    ∙ kept_uses s c.types-types_len.ensures.table in
    sections_written s c.types-types_len.ensures.table s.order c.args.to c.types-types_len.result.now (texts_by_offset n)
    front c.push_records.new.out.items c.push_table.new.out.items types_len len
    c.types-types_len.ensures.section same refl c.table_len-table_len.ensures
    (c.in_ok-push_header.ensures ∙ ap (λ (b : List ℕ). b ++ header c.args.to 24 0 types_len types_len len) c.in_ok-bytes.ensures.items)
    c.in_ok-push_records.ensures
    c.in_ok-push_table.ensures

pub returns-clause-form : goal.returns-clause-form
returns-clause-form g c = canonical_bytes g (goal.at.returns-clause-form g c).In_ok-push_table

pub returns-clause-accepted : goal.returns-clause-accepted
returns-clause-accepted g c =
    canonical_is_file c.args.to (records_in c.args.sections.now) c.push_table.new.out.items c.types-types_len.ensures.table.valid
    (canonical_bytes g (goal.at.returns-clause-accepted g c).In_ok-push_table)
