use Rattle.std.proofs.Common.{◌≡◌, ℕ, sym, subst}
use Rattle.std.specs.List.{Contains}
use Rattle.bpf_elf.specs.Names.{string_at}
use Rattle.bpf_object.specs.private.NotedStrings.{text_offset}
use Rattle.bpf_object.proofs.WrittenStrings.{name_noted, placed_at}
use Rattle.bpf_object.proofs.extension_writer.new_name_offset.Goals as goal

pub new_offset-requires : goal.new_offset-requires
new_offset-requires g c =
    let noted = name_noted c.args.names.now c.args.x c.args.part c.args.group c.requires.names in
    subst (Contains c.args.names.now.offsets) (sym c.word.ensures.value) noted

pub returns : goal.returns
returns g c =
    let strings = c.args.x.strings.now in
    let here = placed_at c.args.names.now strings c.word.result c.new_offset.result c.requires.names.strings c.new_offset.ensures in
    subst (λ (o : ℕ). c.new_offset.result ≡ text_offset c.args.names.now (string_at strings o)) c.word.ensures.value here
