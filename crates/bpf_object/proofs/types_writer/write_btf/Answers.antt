use Rattle.std.proofs.Common.{◌++◌, List, ℕ, ap, length, refl, sym, ◌∙◌}
use Rattle.btf_raw.specs.Frames.{section_of}
use Rattle.bpf_object.specs.private.{NotedStrings.text_offset, WrittenRecords.renewed}
use Rattle.bpf_object.proofs.TypesLength.{types_length, btf_pushed, btf_short, btf_long}
use Rattle.bpf_object.proofs.types_writer.write_btf.Goals as goal

pub returns-then-not-is_short : goal.returns-then-not-is_short
returns-then-not-is_short g c =
    let s = c.args.sections.now in
    let w = renewed s c.args.ids.now c.args.numbers.now in
    let types = c.types-types_len.result.now in
    let len =
    types_length w c.requires.writable.table s.order c.args.order (text_offset c.args.names.now) (section_of s.order w.frames) refl ∙ c.requires.writable.bytes
    ∙ sym (ap length c.types-types_len.ensures.section) in
    btf_long c.args.order w c.args.names.now (length types) (length c.table-table.result.now) len (ap length c.table-table.ensures.value)
    c.args.limit (sym c.is_short.ensures ∙ c.if-not-is_short.true)

pub returns : goal.returns
returns g c =
    let s = c.args.sections.now in
    let w = renewed s c.args.ids.now c.args.numbers.now in
    let types = c.types-types_len.result.now in
    let table = c.table-table.result.now in
    let len =
    types_length w c.requires.writable.table s.order c.args.order (text_offset c.args.names.now) (section_of s.order w.frames) refl ∙ c.requires.writable.bytes
    ∙ sym (ap length c.types-types_len.ensures.section) in (
      btf_short c.args.order w c.args.names.now (length types) (length table) len (ap length c.table-table.ensures.value)
          c.args.limit (sym c.is_short.ensures ∙ c.if-not-is_short.false),
      btf_pushed c.args.order w c.args.names.now (length types) (length table) len (ap length c.table-table.ensures.value) c.push_header.new.out.items
          c.push_records.new.out.items c.extend_from_slice.new.self.items (rw c.new-out.ensures.items at c.in_ok-push_header.ensures) c.in_ok-push_records.ensures
          (c.in_ok-extend_from_slice.ensures.items ∙ ap (λ (t : List ℕ). c.push_records.new.out.items ++ t) c.table-table.ensures.value),
    )
