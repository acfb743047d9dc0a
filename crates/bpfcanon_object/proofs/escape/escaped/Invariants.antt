use Rattle.std.proofs.Common.{◌≡◌, string_bytes, flat_map}
use Rattle.bpfcanon_object.specs.Escape.{escaped_char}
use Rattle.bpfcanon_object.proofs.escape.escaped.Given as goal

abbrev pub invariant-loop-c : goal.invariant-loop-c
invariant-loop-c g l = string_bytes l.text ≡ flat_map escaped_char l.yielded
