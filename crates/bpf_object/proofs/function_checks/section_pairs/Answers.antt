use Rattle.std.proofs.Common.{ap, ◌∙◌}
use Rattle.bpf_elf.specs.Sections.{name}
use Rattle.bpf_object.specs.private.Pairs.{pair_for}
use Rattle.bpf_object.proofs.PairLemmas.{pair_pushed}
use Rattle.bpf_object.proofs.function_checks.section_pairs.Goals as goal

pub loop-i-preserved : goal.loop-i-preserved
loop-i-preserved g c =
    pair_pushed c.loop-i.found.items c.push.new.self.items c.copied-pair.result c.loop-i.i (λ i. pair_for c.args.by_name.now (name c.args.elf.now i)) c.in_ok-push.ensures.items
    c.loop-i.invariant.0 c.loop-i.invariant.1 (c.copied-pair.ensures ∙ c.get.ensures.value ∙ ap (pair_for c.args.by_name.now) c.name-name.ensures)
