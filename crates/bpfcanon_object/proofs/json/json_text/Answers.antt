use Rattle.std.proofs.Common.{flat_map, sym, ap, ◌∙◌, map-id}
use Rattle.std.proofs.lemmas.Iterator.{YieldsList-from_chars}
use Rattle.std.proofs.lemmas.Iterator.Consumers.{YieldsList-end}
use Rattle.bpfcanon_object.specs.Json.{json_char}
use Rattle.bpfcanon_object.proofs.EscapeLemmas.{IsPrintable-json_char, IsPrintable-flat_map}
use Rattle.bpfcanon_object.proofs.json.json_text.Goals as goal

-- the loop has yielded all characters
pub returns-clause-text : goal.returns-clause-text
returns-clause-text g c =
    let end = YieldsList-end (YieldsList-from_chars c.args.text.now c.utf8.text cc) c.loop-c.yielded _ c.loop-c.yielded_by _ _ c.in-None.is c.next.ensures.steps in
    c.loop-c.invariant ∙ ap (flat_map json_char) (sym (map-id c.loop-c.yielded) ∙ end.0)

pub returns-clause-shown : goal.returns-clause-shown
returns-clause-shown g c =
    rw c.loop-c.invariant (IsPrintable-flat_map json_char IsPrintable-json_char c.loop-c.yielded)
