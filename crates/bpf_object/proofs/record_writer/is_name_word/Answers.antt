-- Items with names aren't empty.
use Rattle.std.proofs.Common.{◌∙◌, sym}
use Rattle.btf_types.proofs.CheckLemmas.RoleSteps.{named_words}
use Rattle.bpf_object.proofs.record_writer.is_name_word.Goals as goal

pub nonzero_rem-result : goal.nonzero_rem-result
nonzero_rem-result c = rw c.item_words.ensures.words (named_words c.args.kind (sym c.has_item_names.ensures ∙ c.if-has_item_names.true))
