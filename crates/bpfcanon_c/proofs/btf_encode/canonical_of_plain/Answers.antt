-- What was read back is what the records say.
use Rattle.std.proofs.Common.{◌≡◌, ◌∙◌, ap, inr, subst, arith}
use Rattle.btf_raw.specs.{declared.cause.BtfFault.BtfFault, Cause.number_of}
use Rattle.btf_types.specs.{declared.error.BtfError.BtfError, declared.error.BtfError.TheVariants.Fault, tables.Tables.Fails}
use Rattle.bpfcanon_c.specs.BtfRefusal.{IsIndexAt}
use Rattle.bpfcanon_c.proofs.BtfDenoted.{is_encoded}
use Rattle.bpfcanon_c.proofs.BtfReadBack.{all_back}
use Rattle.bpfcanon_c.proofs.BtfRefused.{refused_faulty, refused_other}
use Rattle.bpfcanon_c.proofs.btf_encode.canonical_of_plain.Goals as goal

pub returns : goal.returns
returns c =
    let out = c.in_ok-write_btf-in-None.field-0.items in
    is_encoded c.args.to c.args.types.now c.args.items.now c.args.strings.now c.args.plan _ out c.requires.plan c.in_ok-write_btf-in-None.ensures.accepted.valid
    (all_back c.args.types.now c.args.items.now c.args.strings.now c.args.plan c.args.plain.now _ c.requires.plan c.requires.plain c.in-Ok.ensures c.in-None.ensures)
    c.in_ok-write_btf-in-None.ensures.form

pub returns-in-Some : goal.returns-in-Some
returns-in-Some c = record {
  ends = inr (
    record { cause = 0; pos = c.in-Some.index; line = 0 },
    (refused_other c.args.types.now c.args.items.now c.args.strings.now c.args.plan c.args.plain.now _ c.in-Some.index c.requires.plan c.requires.plain c.in-Ok.ensures c.in-Some.ensures, c.no_type-in-Some.ensures),
  );
}

pub returns-in-Err-Fault : goal.returns-in-Err-Fault
returns-in-Err-Fault c =
    let types = c.args.types.now in
    let plain = c.args.plain.now in
    let fault = c.in-Err-Fault.fault in
    let fails : Fails plain (Fault fault) = subst (λ (e : BtfError). Fails plain e) c.in-Err-Fault.field-0-is c.in-Err-Fault.ensures in
    let cause : c.number.result ≡ number_of fault.cause = c.number.ensures ∙ ap (λ (f : BtfFault). number_of f.cause) c.in-Err-Fault.fault-is in
    let at : IsIndexAt types fault.pos c.index_at.result = subst (λ (f : BtfFault). IsIndexAt types f.pos c.index_at.result) c.in-Err-Fault.fault-is c.index_at.ensures in
    record {
      ends = inr (
        record { cause = c.number.result; pos = c.index_at.result; line = 0 },
        (
          refused_faulty types c.args.items.now c.args.strings.now c.args.plan plain fault c.number.result c.index_at.result c.requires.plan c.requires.plain (λ i. omega (arith, c.type_inv.plain i)) fails cause at,
          c.no_type.ensures,
        ),
      );
    }
