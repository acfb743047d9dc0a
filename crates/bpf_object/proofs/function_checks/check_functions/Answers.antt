use Rattle.std.proofs.Common.{List, Option, sym, ◌∙◌, subst}
use Rattle.bpf_elf.specs.Sections.{name}
use Rattle.bpf_object.specs.declared.pairs.Pair.{Pair}
use Rattle.bpf_object.specs.FunctionLines.{group_pairs}
use Rattle.bpf_object.specs.private.Pairs.{HasSectionPairs}
use Rattle.bpf_object.specs.Sources.{section}
use Rattle.bpf_object.proofs.function_checks.check_functions.Goals as goal

pub check_all-requires-clause-found : goal.check_all-requires-clause-found
check_all-requires-clause-found g c =
    let found = c.in_ok-found.ensures in
    let pairs = c.requires.pairs in
    subst (λ (xs : List (Option Pair)). HasSectionPairs c.args.elf.now c.args.x c.args.part (group_pairs (section c.args.x)) xs) (sym c.deref.ensures.value)
    (record {
      length_is = found.0;
      found = λ i lt. found.1 i lt ∙ pairs.found (name c.args.elf.now i);
      each = λ i pair lt is. pairs.each (name c.args.elf.now i) pair (sym (found.1 i lt) ∙ is);
    })
