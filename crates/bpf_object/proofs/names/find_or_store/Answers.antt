use Rattle.std.proofs.Common.{ℕ, Option, Some, length, ap, ◌∙◌, arith}
use Rattle.std.specs.BTreeMap.Entry.{map_with_value}
use Rattle.std.specs.Option.{unwrap_or}
use Rattle.bpf_object.proofs.NamesLemmas.{updated_at}
use Rattle.bpf_object.proofs.names.find_or_store.Goals as goal

pub returns : goal.returns
returns g c =
    let x = c.args.text.now in
    let found = c.or_insert.result.now in
    record {
      found_is = c.or_insert.ensures.value ∙ ap (λ (o : Option ℕ). unwrap_or o c.args.offset) c.in_ok-by_text.ensures.value;
      offsets = λ y.
          let p = updated_at x y c.args.by_text.now (map_with_value c.in_ok-by_text.field-0 found) (Some found) ((c.in_ok-by_text.ensures.update.0 found).0 (length y, record { ref_ptr = (0, 0); now = y })) in
          grind (arith, p);
    }
