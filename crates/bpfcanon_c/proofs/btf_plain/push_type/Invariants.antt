use Rattle.std.proofs.Common.{◌≡◌, ◌++◌, take}
use Rattle.std.specs.List.{flat_map}
use Rattle.bpf_words.specs.declared.Order.TheVariants.{Little}
use Rattle.btf_raw.specs.Frames.{bytes_of}
use Rattle.bpfcanon_c.specs.BtfPlain as spec
use Rattle.bpfcanon_c.proofs.btf_plain.push_type.Given as goal

-- the head, and the items so far
abbrev pub invariant-loop-k : goal.invariant-loop-k
invariant-loop-k l =
    l.out.items ≡ (l.fn.out.items ++ bytes_of Little (spec.head_words l.start l.row l.flag)) ++ bytes_of Little (flat_map (spec.words_of l.start l.row.kind) (take l.k l.own))
