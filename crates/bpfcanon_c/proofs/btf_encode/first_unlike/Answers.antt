-- The types are compared one after the other.
use Rattle.std.proofs.Common.{◌≡◌, ◌+◌, ◌∙◌, true, false, Some, length, get_or, refl, sym, subst, inl, inr, arith}
use Rattle.std.specs.Prelude.{slice_get}
use Rattle.std.proofs.lemmas.Option.{get_or_from_slice_get}
use Rattle.std.proofs.lemmas.Slice.Zip.{AllZip-long}
use Rattle.btf_types.specs.{Values.TypeRecord, tables.TableWords.record_at}
use Rattle.bpfcanon_c.specs.declared.btf_rows.TypeRow.{TypeRow}
use Rattle.bpfcanon_c.specs.BtfRows.{bare_type}
use Rattle.bpfcanon_c.specs.BtfPlanSteps.{HasFields}
use Rattle.bpfcanon_c.proofs.BtfRows.{record_is}
use Rattle.bpfcanon_c.proofs.BtfSays.{zip_here, zip_next}
use Rattle.bpfcanon_c.proofs.btf_encode.first_unlike.Goals as goal

pub returns-then-types-count : goal.returns-then-types-count
returns-then-types-count c =
    let other : length c.args.types.now ≡ length c.args.table.now → ⊥ = λ e. c.if-types-count.true (e ∙ sym c.count.ensures.count) in
    record {
      before = tt;
      here = λ row r e. absurd (other e);
      inside = inr refl;
      none = λ zip. other (sym (AllZip-long (HasFields c.args.items.now) c.args.types.now c.args.table.now zip));
    }

pub returns-then-not-is_type : goal.returns-then-not-is_type
returns-then-not-is_type c =
    let v = c.args.table.now in
    let k = c.loop-k.k in
    let R : TypeRow → TypeRecord → Type 0 = HasFields c.args.items.now in
    let no : c.is_type.result ≡ false = c.if-not-is_type.true in
    let is = record_is v k (omega (arith, c.if-types-count.false, c.count.ensures.count)) in
    record {
      before = c.loop-k.invariant;
      here = λ row r e row-is r-is fields.
          let row-same : row ≡ get_or c.args.types.now k (bare_type 0) = sym (get_or_from_slice_get c.args.types.now k row (bare_type 0) row-is) in
          let given : slice_get v k ≡ Some r = r-is in
          let r-same : r ≡ record_at v (k + 1) = cc in
          let yes : c.is_type.result ≡ true =
          c.is_type.ensures.1 (subst (λ (t : TypeRow). R t (record_at v (k + 1))) row-same (subst (λ (t : TypeRecord). R row t) r-same fields))
          in
          absurd (cc);
      inside = inl c.loop-k-test.true;
      none = λ zip.
          let yes : c.is_type.result ≡ true = c.is_type.ensures.1 (zip_here R c.args.types.now v k (bare_type 0) (record_at v (k + 1)) c.loop-k-test.true is zip) in
          absurd (cc);
    }

pub loop-k-preserved : goal.loop-k-preserved
loop-k-preserved c =
    let v = c.args.table.now in
    let k = c.loop-k.k in
    zip_next (HasFields c.args.items.now) c.args.types.now v k (bare_type 0) (record_at v (k + 1))
    c.loop-k-test.true (omega (arith, c.if-types-count.false, c.count.ensures.count)) (record_is v k (omega (arith, c.if-types-count.false, c.count.ensures.count)))
    c.loop-k.invariant (c.is_type.ensures.0 c.if-not-is_type.false)
