use Rattle.std.proofs.Common.{◌≡◌, string_bytes, flat_map}
use Rattle.bpfcanon_object.specs.Json.{json_char}
use Rattle.bpfcanon_object.proofs.json.json_text.Given as goal

abbrev pub invariant-loop-c : goal.invariant-loop-c
invariant-loop-c g l = string_bytes l.json ≡ flat_map json_char l.yielded
