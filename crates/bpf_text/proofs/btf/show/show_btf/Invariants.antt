use Rattle.std.proofs.Common.{◌≡◌, take}
use Rattle.bpf_text.specs.btf.BtfText.{text_of}
use Rattle.bpf_text.proofs.btf.show.show_btf.Given as goal

abbrev pub invariant-loop-index : goal.invariant-loop-index
invariant-loop-index g l = l.text.items ≡ text_of (take l.index (g.T.TypeTable.meaning l.table))
