use Rattle.std.proofs.Common.{◌≡◌, ◌++◌, decimal, take}
use Rattle.std.specs.List.{flat_map}
use Rattle.bpf_text.proofs.btf.text_parts.append_numbers.Given as goal

abbrev pub invariant-loop-label : goal.invariant-loop-label
invariant-loop-label g l =
    l.text.items ≡ l.fn.text.items ++ flat_map (λ n. n.0.now ++ decimal n.1) (take l.label-index l.numbers)
