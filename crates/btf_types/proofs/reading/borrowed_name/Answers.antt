-- The bytes up to the end are the string, which is UTF-8.
use Rattle.btf_types.proofs.StringLemmas.LongEnds.{text_to_end}
use Rattle.btf_types.proofs.reading.borrowed_name.Goals as goal

pub from_utf8_unchecked-requires : goal.from_utf8_unchecked-requires
from_utf8_unchecked-requires c = rw (text_to_end c.args.strings.now c.args.off c.text_end_with.result _ c.requires.is_there c.text_end_with.ensures) c.requires.is_there.utf8

pub returns : goal.returns
returns c = rw c.from_utf8_unchecked.ensures (text_to_end c.args.strings.now c.args.off c.text_end_with.result _ c.requires.is_there c.text_end_with.ensures)
