use Rattle.std.proofs.Common.{◌∙◌, ap, sym, option_and_then}
use Rattle.bpf_object.specs.Extension.{Section}
use Rattle.bpf_object.specs.SourceLines.{extension, line_in}
use Rattle.bpf_object.proofs.accepted.AcceptedObject.source_line.Goals as goal

pub returns : goal.returns
returns c =
    let is = c.in_ok-group.ensures in
    c.line_in.ensures
    ∙ ap (λ (s : Section). line_in s c.args.offset c.in_ok-group.group.start) is.source
    ∙ sym (ap (option_and_then (line_in (extension c.args.self.now) c.args.offset)) is.is)
