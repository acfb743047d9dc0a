use Rattle.std.proofs.Common.{◌≡◌, ◌++◌, ◌∙◌, ap, arith}
use Rattle.std.specs.List.{flat_map}
use Rattle.btf_types.specs.{Names.head_name, Values.head_value}
use Rattle.bpf_text.specs.btf.{BtfText.quoted_byte, LineParts.head_end, LineParts.head_fields, LineParts.head_start}
use Rattle.bpf_text.proofs.BtfLemmas.LinePartsLemmas.{head_parts}
use Rattle.bpfcanon.proofs.CommandsLemmas.LongNameLemmas.{last_gathers, last_refused, name_unwritten, some_end, some_head}
use Rattle.bpfcanon.proofs.CommandsLemmas.PiecesLemmas.{gathers_handed, gathers_none}
use Rattle.bpfcanon.proofs.commands.btf_show.put_head.Goals as goal

pub returns-in_err-append_head_start-clause-gathered : goal.returns-in_err-append_head_start-clause-gathered
returns-in_err-append_head_start-clause-gathered g c = grind (arith, gathers_none, some_head)

pub returns-in_err-put_name-clause-gathered : goal.returns-in_err-put_name-clause-gathered
returns-in_err-put_name-clause-gathered g c =
    let opened : c.append_head_start.new.text.items ≡ c.args.piece.now.items ++ head_start c.args.id (head_value c.args.head) = c.in_ok-append_head_start.ensures in
    let same : c.as_bytes.result.now ≡ head_name (head_value c.args.head) = c.as_bytes.ensures.value ∙ c.name.ensures in
    gathers_handed _ _ _ c.in_err-put_name.field-0.0 c.from_residual-in_err-put_name.result c.from_residual-in_err-put_name.ensures.1
    (name_unwritten c.args.piece.now.items (head_start c.args.id (head_value c.args.head)) (flat_map quoted_byte (head_name (head_value c.args.head))) (head_end (head_value c.args.head) c.args.items) _ (head_parts c.args.id (head_value c.args.head) c.args.items) _ c.append_head_start.new.text.items (flat_map quoted_byte c.as_bytes.result.now) c.put_name.new.piece.items c.in_err-put_name.field-0.0 opened
    (ap (flat_map quoted_byte) same) c.in_err-put_name.ensures)

pub returns-in_err-append_head_end-clause-gathered : goal.returns-in_err-append_head_end-clause-gathered
returns-in_err-append_head_end-clause-gathered g c =
    let opened : c.append_head_start.new.text.items ≡ c.args.piece.now.items ++ head_start c.args.id (head_value c.args.head) = c.in_ok-append_head_start.ensures in
    let same : c.as_bytes.result.now ≡ head_name (head_value c.args.head) = c.as_bytes.ensures.value ∙ c.name.ensures in
    let gathered = rw same at (rw opened at c.in_ok-put_name.ensures) in
    gathers_handed _ _ _ _ c.from_residual-in_err-append_head_end.result c.from_residual-in_err-append_head_end.ensures.1
    (last_refused c.args.piece.now.items (head_start c.args.id (head_value c.args.head)) (flat_map quoted_byte (head_name (head_value c.args.head))) (head_end (head_value c.args.head) c.args.items) _ (head_parts c.args.id (head_value c.args.head) c.args.items) _ _ _ _ _ (some_end (head_fields (head_value c.args.head) c.args.items)) gathered)

pub returns-clause-gathered : goal.returns-clause-gathered
returns-clause-gathered g c =
    let opened : c.append_head_start.new.text.items ≡ c.args.piece.now.items ++ head_start c.args.id (head_value c.args.head) = c.in_ok-append_head_start.ensures in
    let same : c.as_bytes.result.now ≡ head_name (head_value c.args.head) = c.as_bytes.ensures.value ∙ c.name.ensures in
    let closed : c.append_head_end.new.text.items ≡ c.put_name.new.piece.items ++ head_end (head_value c.args.head) c.args.items = c.in_ok-append_head_end.ensures in
    let gathered = rw same at (rw opened at c.in_ok-put_name.ensures) in
    last_gathers c.args.piece.now.items (head_start c.args.id (head_value c.args.head)) (flat_map quoted_byte (head_name (head_value c.args.head))) (head_end (head_value c.args.head) c.args.items) _ (head_parts c.args.id (head_value c.args.head) c.args.items) _ _ _ _ _ _ _ _ gathered c.put_long_piece.result (rw closed at c.put_long_piece.ensures.gathered)
