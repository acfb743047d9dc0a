use Rattle.std.proofs.Common.{[], ◌∙◌, arith, refl}
use Rattle.std.proofs.KnownBytes.{Appends-nil, Appends-trans}
use Rattle.bpfcanon_object.specs.Written.IsPartWritten.{nothing, some}
use Rattle.bpfcanon_object.proofs.WrittenLemmas.{no_part, on_err, part_after, part_of_more}
use Rattle.bpfcanon_object.proofs.check.put_accepted.Goals as goal

pub returns-clause-whole : goal.returns-clause-whole
returns-clause-whole g c =
    let put = c.in_ok-seen.ensures.whole in
    let own = put.1.1 in
    let first = rw (c.as_bytes.ensures.value ∙ c.in_ok-first.ensures) at c.in_ok-write_bytes.ensures.whole in
    (_, (_, ((c.in_ok-seen.seen, (c.count_status.ensures, (put.0, (put.1.0, (refl, refl))))), (Appends-trans _ _ _ _ _ first own.0, own.1))))

pub returns-in_err-first-clause-part : goal.returns-in_err-first-clause-part
returns-in_err-first-clause-part g c = on_err _ (nothing (Appends-nil _) (Appends-nil _))

pub returns-in_err-write_bytes-clause-part : goal.returns-in_err-write_bytes-clause-part
returns-in_err-write_bytes-clause-part g c = let part = rw (c.as_bytes.ensures.value ∙ c.in_ok-first.ensures) at c.in_err-write_bytes.ensures.part in
    on_err _ (some _ _ (0, (0, (omega arith, ([], ((refl, refl), (refl, refl)))))) (part_of_more _ _ _ _ part) (no_part _ _))

pub returns-in_err-seen-clause-part : goal.returns-in_err-seen-clause-part
returns-in_err-seen-clause-part g c = let put = c.in_err-seen.ensures.part in
    let own = put.1.1.1.1.1 in
    let first = rw (c.as_bytes.ensures.value ∙ c.in_ok-first.ensures) at c.in_ok-write_bytes.ensures.whole in
    on_err _ (some _ _ (put.0, (put.1.0, (put.1.1.1.0, (put.1.1.0, (put.1.1.1.1.0, (refl, refl)))))) (part_after _ _ _ _ _ first own.0) own.1)
