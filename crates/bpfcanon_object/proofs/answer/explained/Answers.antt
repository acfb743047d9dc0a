use Rattle.std.proofs.Common.{rules, string_bytes}
use Rattle.bpfcanon_object.proofs.answer.explained.Goals as goal

pub returns : goal.returns
returns g c = (string_bytes c.in_ok-more.more, (c.in_ok-more.ensures, search rules))
