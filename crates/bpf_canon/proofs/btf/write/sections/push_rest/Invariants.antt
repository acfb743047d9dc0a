use Rattle.std.proofs.Common.{◌≡◌, ◌++◌, take, drop}
use Rattle.btf_raw.specs.Frames.{bytes_of}
use Rattle.bpf_canon.proofs.btf.write.sections.push_rest.Given as goal

-- the 32-bit words so far
abbrev pub invariant-loop-k : goal.invariant-loop-k
invariant-loop-k g l = l.out.items ≡ l.initial.out.items ++ bytes_of l.to (take l.k (drop 3 l.this))
