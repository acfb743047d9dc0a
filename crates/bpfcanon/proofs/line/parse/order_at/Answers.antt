use Rattle.std.proofs.Common.{rules, ◌≡◌, ◌∙◌, Some, None, Option, sym}
use Rattle.clap.specs.Words.{Text, found_of, first_of, rows_of}
use Rattle.clap.proofs.WalkLemmas.{first_value-rows}
use Rattle.bpfcanon.specs.Verbs.{setting_name}
use Rattle.bpfcanon.proofs.line.parse.order_at.Goals as goal

pub returns-in-Some : goal.returns-in-Some
returns-in-Some c =
    let e : first_of (setting_name c.args.setting) (rows_of (found_of c.args.matches.now)) ≡ Some c.in-Some.name.now =
    sym (first_value-rows (found_of c.args.matches.now) (setting_name c.args.setting)) ∙ sym (rw c.name.ensures at c.in-Some.ensures) in
    rw (← c.if-not-takes.ensures, e) c.order_named.ensures

pub returns-in-None : goal.returns-in-None
returns-in-None c =
    let no : Option Text = None in
    let e : first_of (setting_name c.args.setting) (rows_of (found_of c.args.matches.now)) ≡ no =
    sym (first_value-rows (found_of c.args.matches.now) (setting_name c.args.setting)) ∙ sym (rw c.name.ensures at c.in-None.ensures) in
    rw (← c.if-not-takes.ensures, e) (search rules)
