use Rattle.std.proofs.Common.{◌≡◌, ◌<◌, ◌↔◌, ℕ, true, List, length, map, subst, ◌∙◌, arith}
use Rattle.std.specs.List.{Contains}
use Rattle.std.proofs.lemmas.List.{length-set, get_or_default}
use Rattle.bpf_object.specs.private.TakenNames.{key_of, IsMarked}
use Rattle.bpf_object.proofs.TakenLemmas.{marks_more, as_many, key_at}
use Rattle.bpf_object.proofs.taken_names.marks_at.Goals as goal

pub index_mut-requires : goal.index_mut-requires
index_mut-requires g c =
    let many = as_many c.args.strings.now c.args.offsets.now c.in_ok-own.own.items c.in_ok-own.ensures in
    let low : c.loop-k.k < length c.args.offsets.now = omega (arith, c.loop-k-test.true, c.len-k-end.ensures, c.in_ok-own.own.ok.0, many) in
    omega (arith, c.requires.there c.loop-k.k 0 low, c.loop-k.invariant.whole, c.loop-k.marks.ok.0)

pub loop-k-preserved : goal.loop-k-preserved
loop-k-preserved g c =
    let strings = c.args.strings.now in
    let offsets = c.args.offsets.now in
    let many = as_many strings offsets c.in_ok-own.own.items c.in_ok-own.ensures in
    let own : c.loop-k.k < length c.in_ok-own.own.items = omega (arith, c.loop-k-test.true, c.len-k-end.ensures, c.in_ok-own.own.ok.0) in
    let low : c.loop-k.k < length offsets = omega (arith, own, many) in
    let key = key_at strings offsets c.in_ok-own.own.items c.loop-k.k c.index.result.now c.in_ok-own.ensures own c.index.ensures in
    let told = subst (λ (y : List ℕ). (c.is_among.result ≡ true) ↔ Contains (map key_of c.args.names.now) y) key c.is_among.ensures in
    record {
      whole = length-set _ _ _ ∙ c.loop-k.invariant.whole;
      done =
          marks_more strings c.args.names.now offsets c.loop-k.marks.items c.loop-k.k c.is_among.result (omega (arith, c.requires.there c.loop-k.k 0 low, c.loop-k.invariant.whole)) told
          c.loop-k.invariant.done;
    }

pub returns : goal.returns
returns g c = λ k d lt.
    let strings = c.args.strings.now in
    let offsets = c.args.offsets.now in
    let many = as_many strings offsets c.in_ok-own.own.items c.in_ok-own.ensures in
    let before : k < c.loop-k.k = omega (arith, lt, c.loop-k-test.false, c.len-k-end.ensures, c.in_ok-own.own.ok.0, many) in
    subst (λ (off : ℕ). IsMarked strings c.args.names.now c.loop-k.marks.items off) (get_or_default offsets k 0 d lt) (c.loop-k.invariant.done k before)
