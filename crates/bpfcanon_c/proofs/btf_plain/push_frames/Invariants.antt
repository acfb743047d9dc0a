use Rattle.std.proofs.Common.{◌≡◌, ◌++◌, take}
use Rattle.bpf_words.specs.declared.Order.TheVariants.{Little}
use Rattle.btf_raw.specs.Frames.{section_of}
use Rattle.bpfcanon_c.specs.BtfPlain as spec
use Rattle.bpfcanon_c.proofs.btf_plain.push_frames.Given as goal

-- the records so far
abbrev pub invariant-loop-k : goal.invariant-loop-k
invariant-loop-k l = l.out.items ≡ l.fn.out.items ++ section_of Little (spec.frames l.start (take l.k l.types) l.items)
