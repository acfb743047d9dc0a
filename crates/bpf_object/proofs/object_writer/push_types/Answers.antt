use Rattle.std.proofs.Common.{ℕ, List, Option, sym, subst}
use Rattle.std.specs.Borrow.{Bor}
use Rattle.bpf_object.specs.private.ObjectWriter.{Writes, name_with, section_with}
use Rattle.bpf_object.specs.private.Written.{content_of}
use Rattle.bpf_object.proofs.object_writer.push_types.Goals as goal

pub returns-in-Some : goal.returns-in-Some
returns-in-Some g c =
    let names = c.args.names.now in
    let x = c.args.name.now in
    subst (λ (content : Option (Bor (List ℕ))). Writes names.limit (name_with x (content_of content)) (section_with x (content_of content)) names c.push_own.new.names c.args.file.now c.push_own.new.file c.push_own.result)
    (sym c.in-Some.is) c.push_own.ensures
