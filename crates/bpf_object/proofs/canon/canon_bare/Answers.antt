use Rattle.std.proofs.Common.{None, refl}
use Rattle.bpf_object.proofs.ObjectLemmas.{with_contents}
use Rattle.bpf_object.proofs.canon.canon_bare.Goals as goal

pub returns : goal.returns
returns g c =
    with_contents (λ out. out.items) c.args.elf.now None c.write_object.result c.requires.elf (c.requires.bare, c.in_ok-check_no_extension.ensures) refl
    (c.write_object.ensures None (record { types_are = refl; extension_is = refl }))
