use Rattle.std.proofs.Common.{rules, []}
use Rattle.std.proofs.lemmas.Bool.{leb-true}
use Rattle.bpf_elf.proofs.RuleLemmas.{head_holds}
use Rattle.bpf_elf.proofs.SectionLemmas.{total_more}
use Rattle.bpf_elf.proofs.section_checks.check_section.Goals as goal

pub returns : goal.returns
returns c =
    let short = leb-true _ _ (head_holds _ _ _ [] c.in_ok-require-5.ensures).0 in (
      search rules,
      search rules,
      total_more c.args.bytes.now c.args.i c.args.total c.kept_size.result c.requires.total c.kept_size.ensures.value short,
    )
