use Rattle.std.proofs.Common.{◌≡◌, ◌++◌, ◌∙◌, ap, arith}
use Rattle.std.specs.List.{flat_map}
use Rattle.btf_types.specs.{Names.item_name, Values.item_value}
use Rattle.bpf_text.specs.btf.{BtfText.quoted_byte, LineParts.item_end, LineParts.item_fields, LineParts.item_start}
use Rattle.bpf_text.proofs.BtfLemmas.LinePartsLemmas.{item_parts}
use Rattle.bpfcanon.proofs.CommandsLemmas.LongNameLemmas.{last_gathers, last_refused, name_unwritten, some_end, some_item}
use Rattle.bpfcanon.proofs.CommandsLemmas.PiecesLemmas.{gathers_handed, gathers_none}
use Rattle.bpfcanon.proofs.commands.btf_show.put_item.Goals as goal

pub returns-in_err-append_item_start-clause-gathered : goal.returns-in_err-append_item_start-clause-gathered
returns-in_err-append_item_start-clause-gathered g c = grind (arith, gathers_none, some_item)

pub returns-in_err-put_name-clause-gathered : goal.returns-in_err-put_name-clause-gathered
returns-in_err-put_name-clause-gathered g c =
    let opened : c.append_item_start.new.text.items ≡ c.args.piece.now.items ++ item_start (item_value c.args.item) = c.in_ok-append_item_start.ensures in
    let same : c.as_bytes.result.now ≡ item_name (item_value c.args.item) = c.as_bytes.ensures.value ∙ c.name.ensures in
    gathers_handed _ _ _ c.in_err-put_name.field-0.0 c.from_residual-in_err-put_name.result c.from_residual-in_err-put_name.ensures.1
    (name_unwritten c.args.piece.now.items (item_start (item_value c.args.item)) (flat_map quoted_byte (item_name (item_value c.args.item))) (item_end c.args.signed (item_value c.args.item)) _ (item_parts c.args.signed (item_value c.args.item)) _ c.append_item_start.new.text.items (flat_map quoted_byte c.as_bytes.result.now) c.put_name.new.piece.items c.in_err-put_name.field-0.0 opened
    (ap (flat_map quoted_byte) same) c.in_err-put_name.ensures)

pub returns-in_err-append_item_end-clause-gathered : goal.returns-in_err-append_item_end-clause-gathered
returns-in_err-append_item_end-clause-gathered g c =
    let opened : c.append_item_start.new.text.items ≡ c.args.piece.now.items ++ item_start (item_value c.args.item) = c.in_ok-append_item_start.ensures in
    let same : c.as_bytes.result.now ≡ item_name (item_value c.args.item) = c.as_bytes.ensures.value ∙ c.name.ensures in
    let gathered = rw same at (rw opened at c.in_ok-put_name.ensures) in
    gathers_handed _ _ _ _ c.from_residual-in_err-append_item_end.result c.from_residual-in_err-append_item_end.ensures.1
    (last_refused c.args.piece.now.items (item_start (item_value c.args.item)) (flat_map quoted_byte (item_name (item_value c.args.item))) (item_end c.args.signed (item_value c.args.item)) _ (item_parts c.args.signed (item_value c.args.item)) _ _ _ _ _ (some_end (item_fields c.args.signed (item_value c.args.item))) gathered)

pub returns-clause-gathered : goal.returns-clause-gathered
returns-clause-gathered g c =
    let opened : c.append_item_start.new.text.items ≡ c.args.piece.now.items ++ item_start (item_value c.args.item) = c.in_ok-append_item_start.ensures in
    let same : c.as_bytes.result.now ≡ item_name (item_value c.args.item) = c.as_bytes.ensures.value ∙ c.name.ensures in
    let closed : c.append_item_end.new.text.items ≡ c.put_name.new.piece.items ++ item_end c.args.signed (item_value c.args.item) = c.in_ok-append_item_end.ensures in
    let gathered = rw same at (rw opened at c.in_ok-put_name.ensures) in
    last_gathers c.args.piece.now.items (item_start (item_value c.args.item)) (flat_map quoted_byte (item_name (item_value c.args.item))) (item_end c.args.signed (item_value c.args.item)) _ (item_parts c.args.signed (item_value c.args.item)) _ _ _ _ _ _ _ _ gathered c.put_long_piece.result (rw closed at c.put_long_piece.ensures.gathered)
