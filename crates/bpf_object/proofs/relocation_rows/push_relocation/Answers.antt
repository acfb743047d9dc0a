use Rattle.std.proofs.Common.{◌≡◌, ◌++◌, ℕ, List, ap, subst, ◌∙◌}
use Rattle.std.specs.Prelude.{OnOk}
use Rattle.bpf_object.specs.Kept.{symbol_number}
use Rattle.bpf_object.proofs.KeptLemmas.{number_at, numbers_long, row_is}
use Rattle.bpf_object.proofs.relocation_rows.push_relocation.Goals as goal

pub bounds-numbers-row : goal.bounds-numbers-row
bounds-numbers-row g c = numbers_long _ _ _ _ c.requires.numbers c.relocation-row.ensures.there

pub returns : goal.returns
returns g c =
    let b = c.args.elf.now in
    let row = c.relocation-row.ensures.fields in
    let number = number_at _ _ _ _ c.requires.numbers c.relocation-row.ensures.there ∙ ap (symbol_number b) row.symbol in
    let same = row_is b c.args.i c.args.k c.order.result _ c.order.ensures row.offset number row.relocation_type in
    subst (λ (t : List ℕ). OnOk c.push_row.result (c.push_row.new.out.items ≡ c.args.out.now.items ++ t)) same c.push_row.ensures
