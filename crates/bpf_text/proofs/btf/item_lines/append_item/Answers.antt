use Rattle.std.proofs.Common.{◌≡◌, ◌++◌, ◌∙◌, ℕ, List, ap}
use Rattle.std.specs.List.{flat_map}
use Rattle.btf_types.specs.{Names.item_name, Values.item_value}
use Rattle.bpf_text.specs.btf.BtfText.{quoted_byte}
use Rattle.bpf_text.proofs.BtfLemmas.LinePartsLemmas.{appended, item_parts}
use Rattle.bpf_text.proofs.btf.item_lines.append_item.Goals as goal

pub returns : goal.returns
returns g c =
    let same : c.as_bytes.result.now ≡ item_name (item_value c.args.item) = c.as_bytes.ensures.value ∙ c.name.ensures in
    let name = c.in_ok-append_quoted_part.ensures ∙ ap (λ (t : List ℕ). c.append_item_start.new.text.items ++ flat_map quoted_byte t) same in
    appended c.append_item_end.result c.args.text.now.items _ _ _ _ _ _ _ (item_parts c.args.signed (item_value c.args.item)) c.in_ok-append_item_start.ensures name
    c.append_item_end.ensures
