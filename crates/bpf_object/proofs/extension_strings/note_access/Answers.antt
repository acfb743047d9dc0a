use Rattle.bpf_object.proofs.InsideLemmas.{access_is_inside}
use Rattle.bpf_object.proofs.extension_strings.note_access.Goals as goal

pub note-requires : goal.note-requires
note-requires g c =
    rw (c.access_off.ensures.value, c.requires.strings) (access_is_inside c.args.x c.args.group c.args.k c.requires.inside c.requires.there)
