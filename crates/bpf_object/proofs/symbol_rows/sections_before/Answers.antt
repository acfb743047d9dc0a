use Rattle.std.proofs.Common.{◌≤◌, ℕ, subst, sym}
use Rattle.bpf_elf.specs.Numbers.{count}
use Rattle.bpf_object.specs.Kept.{is_kept_section}
use Rattle.bpf_object.proofs.KeptLemmas.{number_at, number_below, numbers_long}
use Rattle.bpf_object.proofs.symbol_rows.sections_before.Goals as goal

pub bounds-numbers-i : goal.bounds-numbers-i
bounds-numbers-i c = numbers_long (is_kept_section c.args.elf.now) c.args.numbers.now (count c.args.elf.now) c.args.i c.requires.numbers c.requires.there

pub returns-clause-value : goal.returns-clause-value
returns-clause-value c = number_at (is_kept_section c.args.elf.now) c.args.numbers.now (count c.args.elf.now) c.args.i c.requires.numbers c.requires.there

pub returns-clause-small : goal.returns-clause-small
returns-clause-small c =
    subst (λ (n : ℕ). n ≤ c.args.i)
    (sym (number_at (is_kept_section c.args.elf.now) c.args.numbers.now (count c.args.elf.now) c.args.i c.requires.numbers c.requires.there))
    (number_below (is_kept_section c.args.elf.now) c.args.i)
