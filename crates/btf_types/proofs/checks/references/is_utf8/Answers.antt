use Rattle.btf_types.proofs.CheckLemmas.Utf8Steps.{whole_text, through}
use Rattle.btf_types.proofs.checks.references.is_utf8.Goals as goal

pub returns-in-None : goal.returns-in-None
returns-in-None c text t =
    let utf8 = rw c.in-None.is at c.requires.marks in
    through c.begins_char.ensures (whole_text c.args.strings.now c.args.off text utf8 t)

pub returns-in-Some : goal.returns-in-Some
returns-in-Some c text t =
    let marks = rw c.in-Some.is at c.requires.marks in
    marks.right c.args.off text t
