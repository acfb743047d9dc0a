-- What was written is the canonical bytes of the types that the records say.
use Rattle.std.proofs.Common.{List, ℕ, refl, sym, subst, inl, inr}
use Rattle.bpfcanon_c.specs.declared.answer.Ending.{Ending}
use Rattle.bpfcanon_c.specs.BtfEncoding.{IsEncodedBtf, IsNoBtf, EndsBtfEncodeIn}
use Rattle.bpfcanon_c.proofs.Rooms.{ends_output}
use Rattle.bpfcanon_c.proofs.btf_encode.encoded_in.Goals as goal

pub returns-in-Ok : goal.returns-in-Ok
returns-in-Ok c =
    let types = c.args.types.now in
    let items = c.args.items.now in
    let strings = c.args.strings.now in
    ends_output (IsEncodedBtf c.args.to types items strings) (IsNoBtf types items strings) c.args.out.now c.put.new.buffer c.deref.result.now c.put.result
    (subst (λ (out : List ℕ). IsEncodedBtf c.args.to types items strings out) (sym c.deref.ensures.value) c.in-Ok.ensures) c.put.ensures

pub returns-in-Err : goal.returns-in-Err
returns-in-Err c =
    let types = c.args.types.now in
    let items = c.args.items.now in
    let strings = c.args.strings.now in
    let old = c.args.out.now in
    let Ends : Ending → Type 0 = λ e. EndsBtfEncodeIn c.args.to types items strings old old e in
    elim c.in-Err.ensures.ends [
      | inl is ↦ subst Ends (sym is) refl
      | inr found ↦ subst Ends (sym found.1.1) (found.1.0, refl)
    ]
