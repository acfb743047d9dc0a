use lib.Dec.{eqb}
use Rattle.std.proofs.Common.{◌≡◌, ◌∙◌, ◌↔◌, ℕ, Bool, List, IsTrue, ap, arith, sym, subst}
use Rattle.std.specs.Cmp.Lexicographic.{bytes_decides, pointwise}
use Rattle.bpf_words.specs.{Words.IsBytes}
use Rattle.bpf_canon.specs.declared.engine.SideError.{SideError}
use Rattle.bpf_object.specs.declared.fault.{ObjectError.ObjectError, ObjectFault.ObjectFault}
use Rattle.bpf_object.specs.declared.fault.ObjectError.TheVariants as errors
use Rattle.bpf_object.specs.{Canonical.canonical, Denotes.IsCanonicalFile, ObjectFaults.Fails}
use Rattle.bpf_object.specs.SameObjects.{ComparesObjects, NamesObjectSide, on_second}
use Rattle.bpf_object.proofs.CanonDenotes.{canonical_apart}
use Rattle.bpf_object.proofs.same.same_objects.Goals as goal

second_fails : (a b x : List ℕ) (e : ObjectError) → IsCanonicalFile a x → Fails b e → NamesObjectSide a b (on_second e)
second_fails a b x (errors.Fault f) (v, p) fails = ((v, p.0), fails)
second_fails a b x errors.Memory made fails = fails

pub returns-in-Err-canon_object-clause-fault : goal.returns-in-Err-canon_object-clause-fault
returns-in-Err-canon_object-clause-fault g c =
    let a = c.args.a.now in
    let b = c.args.b.now in
    subst (λ (e : SideError ObjectFault). NamesObjectSide a b e) (sym c.on_second.ensures)
    (second_fails a b c.in-Ok.canon.items c.in-Err-canon_object.error c.in-Ok.ensures.found c.in-Err-canon_object.ensures.fault)

compares : (a b x y : List ℕ) (same : Bool) → IsBytes a → IsBytes b → IsCanonicalFile a x → IsCanonicalFile b y
    → same ≡ pointwise eqb x y → ComparesObjects a b same
compares a b x y same left right (v, p) (w, q) test =
    let told : same ≡ pointwise eqb (canonical v) (canonical w) = test ∙ (λ i. pointwise eqb (p.1 i) (q.1 i)) in
    let files : IsTrue same ↔ (canonical v ≡ canonical w) = (
      λ t. (bytes_decides (canonical v) (canonical w)).0 (sym told ∙ t),
      λ e. told ∙ (bytes_decides (canonical v) (canonical w)).1 e,
    ) in
    record {
      first = v;
      second = w;
      first_file = p.0;
      second_file = q.0;
      files = files;
      objects = (λ t. canonical_apart a b v w left right p.0 q.0 (files.0 t), λ e. files.1 (ap canonical e));
    }

pub returns-clause-same : goal.returns-clause-same
returns-clause-same g c =
    compares c.args.a.now c.args.b.now c.in-Ok.canon.items c.in-Ok-canon_object.canon.items c.eq.result
    (λ i. omega (arith, c.type_inv.a i)) (λ i. omega (arith, c.type_inv.b i))
    c.in-Ok.ensures.found c.in-Ok-canon_object.ensures.found
    (c.eq.ensures ∙ (λ i. pointwise eqb (c.as_slice.ensures.value i) (c.as_slice-2.ensures.value i)))
