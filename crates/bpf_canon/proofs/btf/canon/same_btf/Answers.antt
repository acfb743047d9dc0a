use Rattle.std.proofs.Common.{◌≡◌}
use Rattle.std.specs.Cmp.Lexicographic.{told_text}
use Rattle.bpf_insn.proofs.ReadLemmas.{mapped_value}
use Rattle.bpf_canon.proofs.{TestOfEquality.test_decides, BtfLemmas.ComparedFiles.compares}
use Rattle.bpf_canon.proofs.btf.canon.same_btf.Goals as goal

pub returns-clause-same : goal.returns-clause-same
returns-clause-same g c =
    let test = rw (c.as_slice.ensures.value, c.as_slice-2.ensures.value) at c.eq-2.ensures in
    let same = test_decides (c.in_ok-first.first.items ≡ c.in_ok-second.second.items) c.eq-2.result (told_text _ _ c.eq-2.result test) in
    let first = mapped_value c.recode_btf.result c.map_err-2.result _ _ _ c.in_ok-first.first c.recode_btf.ensures.ok c.map_err-2.ensures.cases c.in_ok-first.was in
    let second = mapped_value c.recode_btf-2.result c.map_err-3.result _ _ _ c.in_ok-second.second c.recode_btf-2.ensures.ok c.map_err-3.ensures.cases c.in_ok-second.was in
    compares c.args.a.now c.args.b.now _ _ c.eq-2.result first second same
