use Rattle.std.proofs.Common.{◌≡◌, string_bytes, flat_map}
use Rattle.bpfcanon_object.specs.Github.{github_char}
use Rattle.bpfcanon_object.proofs.github.github_text.Given as goal

abbrev pub invariant-loop-c : goal.invariant-loop-c
invariant-loop-c g l = string_bytes l.value ≡ flat_map (github_char l.part) l.yielded
