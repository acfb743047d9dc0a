use Rattle.std.proofs.Common.{rules, string_bytes}
use Rattle.bpfcanon_object.proofs.answer.refused_answer.Goals as goal

pub returns : goal.returns
returns g c = (string_bytes c.in_ok-text.text, (c.in_ok-text.ensures, search rules))
