use Rattle.std.proofs.Common.{List, [], ◌∷◌, ◌++◌, MatchResult, sym, ◌∙◌, subst, append_assoc}
use Rattle.bpf_words.specs.declared.Order.{Order}
use Rattle.bpf_object.specs.File.{WrittenSection}
use Rattle.bpf_object.specs.private.FileWriter.{FailsToHold, IsFileOf, section_of}
use Rattle.bpf_object.proofs.ObjectWriterLemmas.{failed_one, held_more}
use Rattle.bpf_object.proofs.object_writer.write_last.Goals as goal

pub returns-in_err-push : goal.returns-in_err-push
returns-in_err-push g c limit ss h =
    let s = section_of c.args.symtab.now c.args.rows.now in
    let t = section_of c.args.strtab.now c.args.table.now in
    failed_one c.from_residual.result _ (FailsToHold limit (ss ++ (s ∷ t ∷ []))) _ c.from_residual.ensures.0 c.from_residual.ensures.1
    (λ e is. subst (λ (l : List WrittenSection). FailsToHold limit l e) (append_assoc ss (s ∷ []) (t ∷ []))
    (held_more limit (ss ++ s ∷ []) (t ∷ []) e (subst (FailsToHold limit (ss ++ s ∷ [])) (sym is) (c.in_err-push.ensures limit ss h))))

pub returns-in_err-push-2 : goal.returns-in_err-push-2
returns-in_err-push-2 g c limit ss h =
    let s = section_of c.args.symtab.now c.args.rows.now in
    let t = section_of c.args.strtab.now c.args.table.now in
    failed_one c.from_residual-in_err-push-2.result _ (FailsToHold limit (ss ++ (s ∷ t ∷ []))) _ c.from_residual-in_err-push-2.ensures.0 c.from_residual-in_err-push-2.ensures.1
    (λ e is. subst (λ (l : List WrittenSection). FailsToHold limit l e) (append_assoc ss (s ∷ []) (t ∷ []))
    (subst (FailsToHold limit ((ss ++ s ∷ []) ++ t ∷ [])) (sym is) (c.in_err-push-2.ensures limit (ss ++ s ∷ []) (c.in_ok-push.ensures limit ss h).0)))

pub returns : goal.returns
returns g c limit ss h =
    let s = section_of c.args.symtab.now c.args.rows.now in
    let t = section_of c.args.strtab.now c.args.table.now in
    let first = c.in_ok-push.ensures limit ss h in
    let second = c.in_ok-push-2.ensures limit (ss ++ s ∷ []) first.0 in
    subst (λ (l : List WrittenSection). MatchResult c.finish.result (λ out. IsFileOf limit c.args.file.order c.args.flags l out.items) (FailsToHold limit l)) (append_assoc ss (s ∷ []) (t ∷ []))
    (subst (λ (o : Order). MatchResult c.finish.result (λ out. IsFileOf limit o c.args.flags ((ss ++ s ∷ []) ++ t ∷ []) out.items) (FailsToHold limit ((ss ++ s ∷ []) ++ t ∷ []))) (second.1 ∙ first.1) (c.finish.ensures limit ((ss ++ s ∷ []) ++ t ∷ []) second.0))
