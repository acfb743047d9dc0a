-- The names that records are sorted by are noted.
use Rattle.std.proofs.Common.{length, sym, subst}
use Rattle.std.proofs.lemmas.Result.{IfOk-weaker}
use Rattle.bpf_object.specs.private.{NameRanks.AreNoted, TypeSteps.AreNameOffsets, TypeSteps.AreRanked}
use Rattle.bpf_object.proofs.NameOffsets.{names_ranked}
use Rattle.bpf_object.proofs.type_names.type_names.Goals as goal

pub returns-clause-ranked : goal.returns-clause-ranked
returns-clause-ranked g c =
    let s = c.args.sections.now in
    let offsets = c.deref.result.now in
    let are = subst (AreNameOffsets s (length s.frames)) (sym c.deref.ensures.value) c.in_ok-offsets.ensures in
    IfOk-weaker c.new.result (λ names. AreNoted names offsets) (λ names. AreRanked s names) (λ names noted. names_ranked s offsets names are noted) c.new.ensures.noted
