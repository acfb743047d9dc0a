use Rattle.std.proofs.Common.{◌≡◌, ◌++◌, ◌∙◌, ℕ, List, ap}
use Rattle.std.specs.List.{flat_map}
use Rattle.btf_types.specs.{Names.head_name, Values.head_value}
use Rattle.bpf_text.specs.btf.BtfText.{quoted_byte}
use Rattle.bpf_text.proofs.BtfLemmas.LinePartsLemmas.{appended, head_parts}
use Rattle.bpf_text.proofs.btf.head_lines.append_head.Goals as goal

pub returns : goal.returns
returns g c =
    let same : c.as_bytes.result.now ≡ head_name (head_value c.args.head) = c.as_bytes.ensures.value ∙ c.name.ensures in
    let name = c.in_ok-append_quoted_part.ensures ∙ ap (λ (t : List ℕ). c.append_head_start.new.text.items ++ flat_map quoted_byte t) same in
    appended c.append_head_end.result c.args.text.now.items _ _ _ _ _ _ _ (head_parts c.args.id (head_value c.args.head) c.args.items) c.in_ok-append_head_start.ensures name
    c.append_head_end.ensures
