use Rattle.std.proofs.Common.{◌++◌, codes, decimal}
use Rattle.bpf_text.specs.btf.BtfText.{flag_text, component_text}
use Rattle.bpf_text.proofs.BtfLemmas.AppendingLemmas.{appended_after_label}
use Rattle.bpf_text.proofs.btf.head_lines.append_fields.Goals as goal

pub returns-in_ok-append_number-in-KDeclTag : goal.returns-in_ok-append_number-in-KDeclTag
returns-in_ok-append_number-in-KDeclTag g c =
    let tag = c.in-KDeclTag in
    rw tag.is (appended_after_label c.append_component.result c.args.text.now.items c.flag_and_label.result.now (codes " flag=" ++ flag_text tag.flag ++ codes " type=")
    (decimal tag.target) (codes " component=") (component_text tag.component) c.append_number-in-KDeclTag.new.text.items c.append_component.new.text.items
    c.flag_and_label.ensures c.in_ok-append_number-in-KDeclTag.ensures c.append_component.ensures)
