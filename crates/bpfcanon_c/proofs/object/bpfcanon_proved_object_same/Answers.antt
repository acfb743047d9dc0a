-- The fault that a comparison reports is that of a file that denotes no object.
use Rattle.std.proofs.Common.{◌≡◌, ℕ, List, Bool, true, false, Result, Ok, Err, refl, arith}
use Rattle.std.specs.Prelude.{IfOk, IfErr}
use Rattle.bpf_words.specs.Words.{IsBytes}
use Rattle.bpf_canon.specs.declared.engine.SideError.{SideError}
use Rattle.bpf_canon.specs.declared.engine.SideError.TheVariants as side
use Rattle.bpf_object.specs.declared.fault.ObjectFault.{ObjectFault}
use Rattle.bpf_object.specs.{ObjectFaults.IsFault, SameObjects.ComparesObjects, SameObjects.NamesObjectSide}
use Rattle.bpf_object.proofs.ObjectLemmas.{faultless}
use Rattle.bpfcanon_c.specs.declared.answer.Ending.{Ending}
use Rattle.bpfcanon_c.specs.{Answers.EndsCompared, Objects.code_of_object, Objects.IsObjectCode, Objects.EndsSameObjects}
use Rattle.bpfcanon_c.proofs.object.bpfcanon_proved_object_same.Goals as goal

faulty : (b : List ℕ) (f : ObjectFault) → IsBytes b → IsFault b f → IsObjectCode b (code_of_object f)
faulty b f bytes first = record { fault = f; first = first; numbers = refl; none = λ x d. faultless b x f bytes d first }

same_ends : (a b : List ℕ) (r : Result Bool (SideError ObjectFault)) (e : Ending) → IsBytes a → IsBytes b
    → IfOk r (ComparesObjects a b) → IfErr r (NamesObjectSide a b) → EndsCompared (λ f code. code ≡ code_of_object f) r e → EndsSameObjects a b e
same_ends a b (Ok true) e left right same fault is = rw is same
same_ends a b (Ok false) e left right same fault is = rw is same
same_ends a b (Err (side.First f)) e left right same fault (code, (numbers, is)) = rw (is, numbers) (faulty a f left fault)
same_ends a b (Err (side.Second f)) e left right same (held, fault) (code, (numbers, is)) = rw (is, numbers) (held, faulty b f right fault)
same_ends a b (Err side.Memory) e left right same fault is = rw is tt

pub returns : goal.returns
returns c = record {
  ending = c.compared.result;
  answers = c.report.ensures;
  holds =
      same_ends c.args.first.now c.args.second.now c.same_objects.result c.compared.result (λ i. omega (arith, c.type_inv.first i))
      (λ i. omega (arith, c.type_inv.second i)) c.same_objects.ensures.same c.same_objects.ensures.fault c.compared.ensures;
}
