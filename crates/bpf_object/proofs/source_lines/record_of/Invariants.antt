use Rattle.std.proofs.Common.{◌≡◌, ◌<◌}
use Rattle.std.specs.Prelude.{nat_le, MatchOption, ⊤}
use Rattle.bpf_object.specs.declared.extension.Part.TheVariants.{Lines}
use Rattle.bpf_object.specs.Lines.{insn_off}
use Rattle.bpf_object.specs.Sources.{section}
use Rattle.bpf_object.specs.SourceLines.{last_of}
use Rattle.bpf_object.proofs.source_lines.record_of.Given as goal

abbrev pub invariant-loop-k : goal.invariant-loop-k
invariant-loop-k l =
    (l.found ≡ last_of l.k (λ k. nat_le (insn_off (section l.x) Lines l.group k) l.offset)) × MatchOption l.found ⊤ (λ k. k < l.k)
