use Rattle.std.proofs.Common.{◌≡◌, ℕ, zero, suc, ◌+◌, arith, List, [], ◌∷◌, ◌++◌, take, ap, sym, ◌∙◌, append-nil, subst}
use native.Mathlib.Numerals.{unary_clauses}
use Rattle.std.proofs.{Math.Seq.take-suc, lemmas.List.Concat.flat_map-append, lemmas.List.Elements.All-append, lemmas.Grind.common_steps}
use Rattle.std.specs.List.{All}
use Rattle.bpf_insn.specs.{declared.insn.Insn.Insn, Table.IsInsn, Encoding.InsnFile, Encoding.file_of, Encoding.encoding}
use Rattle.bpf_canon.proofs.insn.canon.write_insns.Goals as goal

one_insn : (i : Insn) → IsInsn i → All IsInsn (i ∷ [])
one_insn i valid zero d h = valid
one_insn i valid (suc k) d h = absurd (omega (arith, h))

pub loop-insn-preserved : goal.loop-insn-preserved
loop-insn-preserved g c =
    let i = c.insn-item.result in
    let done = take c.loop-insn.insn-index c.args.insns.now in
    let more : take (c.loop-insn.insn-index + 1) c.args.insns.now ≡ done ++ i ∷ [] =
    simp unary_clauses (take-suc c.args.insns.now c.loop-insn.insn-index i c.loop-insn-test.true) ∙ ap (λ (x : Insn). done ++ x ∷ []) (sym c.insn-item.is) in
    let items : c.extend_from_slice.new.self.items ≡ c.loop-insn.bytes.items ++ encoding c.args.order i = grind (arith, common_steps) in
    subst (λ (l : List Insn). InsnFile c.args.order c.extend_from_slice.new.self.items l) (sym more) (
      All-append IsInsn done (i ∷ []) c.loop-insn.invariant.0 (one_insn i c.insn_bytes-encoded.ensures.in_range),
      items ∙ ap (λ (b : List ℕ). b ++ encoding c.args.order i) c.loop-insn.invariant.1
          ∙ ap (λ (b : List ℕ). file_of c.args.order done ++ b) (sym (append-nil (encoding c.args.order i))) ∙ sym (flat_map-append (encoding c.args.order) done (i ∷ [])),
    )
