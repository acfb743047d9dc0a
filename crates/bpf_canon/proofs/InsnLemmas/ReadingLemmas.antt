-- Reading the complete instructions at the start of a buffer, and across the held bytes and a piece.
use Rattle.std.proofs.Common.{◌≡◌, ◌<◌, ◌≤◌, ◌+◌, ◌-◌, ◌++◌, ◌∙◌, ℕ, List, [], ◌∷◌, Option, Some, None, length, take, drop, min, refl, sym, ap, subst, inl, inr, All, arith, append_assoc, length-append, length-drop}
use Rattle.std.proofs.lemmas.Grind.{common_steps}
use Rattle.std.proofs.lemmas.{Bool.cases_lt}
use Rattle.std.proofs.lemmas.List.{length-take, length-take-le, take_all, drop-append-le, drop-drop, take-append-drop, take-append-le, Elements.All-head, Elements.All-nil}
use Rattle.std.proofs.lemmas.List.Concat.{flat_map-append}
use Rattle.std.proofs.Math.Seq.{drop-append-add, take-append_seam}
use Rattle.bpf_words.specs.declared.Order.{Order}
use Rattle.bpf_insn.specs.declared.{insn.Insn.Insn, whole_insns.InsnFront.InsnFront, fault.SlotCause.SlotCause, fault.SlotFault.SlotFault}
use Rattle.bpf_insn.specs.{Table.IsInsn, Fronts.IsInsnFront, Fronts.StopsAt, Encoding.file_of, Encoding.encoding, Encoding.InsnFile}
use Rattle.bpf_insn.specs.Faults.{BeginsWith, IsFront, IsSlotFault}
use Rattle.bpf_insn.proofs.{FrontLemmas.front_of, StayLemmas.slot_fault_stays}
use Rattle.bpf_canon.specs.insn.FrontReads.{BeginsNone, ReadsFront}
use Rattle.bpf_canon.proofs.InsnLemmas.FrontLaws.{front_fits, front_joins, truncated_or_not}

-- ---- an instruction that begins in what is held

-- what is held and the rest of a piece after its first bytes
cut_across : (held piece : List ℕ) (used : ℕ) → (held ++ take used piece) ++ drop used piece ≡ held ++ piece
cut_across held piece used = append_assoc held (take used piece) (drop used piece) ∙ ap (λ x. held ++ x) (take-append-drop used piece)

-- what is held begins with no instruction, so one that begins across is longer
across_longer : (o : Order) (i : Insn) (held more : List ℕ) → BeginsNone o held → BeginsWith o i (held ++ more)
    → length held ≤ length (encoding o i)
across_longer o i held more none b = elim (cases_lt (length (encoding o i)) (length held)) [
  | inl less ↦
      let n = length (encoding o i) in
      let front : take n held ≡ encoding o i =
      sym (take-append-le n held more (omega arith)) ∙ ap (take n) b.1.1 ∙ take-append_seam (encoding o i) b.1.0 in
      absurd (none i (b.0, (drop n held, sym (take-append-drop n held) ∙ ap (λ (x : List ℕ). x ++ drop n held) front)))
  | inr more ↦ more
]

-- and so are several instructions
first_longer : (o : Order) (l : List Insn) (held more rest : List ℕ) → BeginsNone o held → All IsInsn l → held ++ more ≡ file_of o l ++ rest → 0 < length l
    → length held ≤ length (file_of o l)
first_longer o [] held more rest none each whole some = absurd (omega (arith, some))
first_longer o (i ∷ l) held more rest none each whole some =
    let begins = whole ∙ append_assoc (encoding o i) (file_of o l) rest in
    omega (arith, across_longer o i held more none (All-head IsInsn i l each, (file_of o l ++ rest, begins)), length-append (encoding o i) (file_of o l))

-- so if any instruction is read, all that is held is
pub across_begun : (o to : Order) (held more : List ℕ) (first : InsnFront) (old new : List ℕ) → BeginsNone o held → ReadsFront o to (held ++ more) first old new
    → 0 < first.count → length held ≤ first.len
across_begun o to held more first old new none r some =
    let rest = drop first.len (held ++ more) in
    let longer = first_longer o r.insns held more rest none r.front.each r.front.front (omega (arith, some, r.counted)) in
    omega (arith, longer, front_fits o o (held ++ more) r.insns rest r.front, length-drop first.len (held ++ more), r.within)

-- a fault of the held bytes and the first bytes of a piece is that with the entire piece: no further bytes can change it, or the piece has no more
across_fault : (o : Order) (held piece : List ℕ) (used at : ℕ) (cause : SlotCause) → used ≡ min (length piece) (16 - length held) → length held < 16
    → IsSlotFault o (held ++ take used piece) (record { pos = at; cause = cause })
    → IsSlotFault o (held ++ piece) (record { pos = at; cause = cause })
across_fault o held piece used at cause fits short f = elim (truncated_or_not cause) [
  | inl t ↦ grind (arith, take_all, length-append, length-take)
  | inr t ↦
      let P : List ℕ → Type 0 = λ s. IsSlotFault o s (record { pos = at; cause = cause }) in
      subst P (cut_across held piece used) (slot_fault_stays o (held ++ take used piece) (drop used piece) at cause t f)
]

-- what stops at the held bytes and the first bytes of a piece stops at them with the entire piece too, at the same fault
none_stops : (o : Order) (held piece : List ℕ) (used : ℕ) (stop : Option SlotFault) → used ≡ min (length piece) (16 - length held)
    → 0 < length held → length held < 16 → StopsAt o (held ++ take used piece) stop → BeginsNone o (held ++ piece) × StopsAt o (held ++ piece) stop
none_stops o held piece used None fits some short e = absurd (omega (arith, some, ap length e, length-append held (take used piece)))
none_stops o held piece used (Some f) fits some short e =
    let whole = across_fault o held piece used f.pos f.cause fits short e in
    (whole.unencoded, whole)

no_insns : (l : List Insn) → length l ≡ 0 → l ≡ []
no_insns [] e = refl
no_insns (i ∷ l) e = absurd (omega (arith, e))

-- no instruction is complete in what is held and the first bytes of a piece, so none is with the entire piece
pub across_none : (o to : Order) (held piece : List ℕ) (used : ℕ) (first : InsnFront) (old new : List ℕ) → used ≡ min (length piece) (16 - length held)
    → 0 < length held → length held < 16 → ReadsFront o to (held ++ take used piece) first old new → first.count ≡ 0 → ReadsFront o to (held ++ piece) first old new
across_none o to held piece used first old new fits some short r zero =
    let empty = no_insns r.insns (omega (arith, zero, r.counted)) in
    let at : first.len ≡ 0 = omega (arith, ap (λ l. length (file_of o l)) empty, front_fits o o _ _ _ r.front, length-drop first.len (held ++ take used piece), r.within) in
    let P : ℕ → Type 0 = λ n. StopsAt o (drop n (held ++ take used piece)) first.stop in
    let none = none_stops o held piece used first.stop fits some short (subst P at r.stops) in
    let F : ℕ → Type 0 = λ n. IsFront o (held ++ piece) [] (drop n (held ++ piece)) in
    let S : ℕ → Type 0 = λ n. StopsAt o (drop n (held ++ piece)) first.stop in
    record {
      insns = [];
      front = subst F (sym at) (front_of o (held ++ piece) [] (held ++ piece) (All-nil IsInsn) refl none.0);
      stops = subst S (sym at) none.1;
      counted = zero;
      within = omega (arith, at);
      grows = r.grows ∙ ap (λ l. old ++ file_of to l) empty;
    }

-- the instructions across, and the complete instructions after them
pub across_more : (o to : Order) (held piece : List ℕ) (used : ℕ) (first rest : InsnFront) (old middle new : List ℕ) → used ≤ length piece → length held ≤ first.len
    → ReadsFront o to (held ++ take used piece) first old middle → ReadsFront o to (drop (first.len - length held) piece) rest middle new
    → ReadsFront o to (held ++ piece) (record { len = rest.len + first.len; count = rest.count + first.count; stop = rest.stop }) old new
across_more o to held piece used first rest old middle new fits begun f r =
    let joined : List ℕ = held ++ take used piece in
    let n = first.len - length held in
    let first_is : first.len ≡ length held + n = omega arith in
    let size : length (take used piece) ≡ used = length-take-le used piece fits in
    let within : n ≤ length (take used piece) = omega (arith, f.within, length-append held (take used piece)) in
    let past : drop first.len joined ≡ drop n (take used piece) = ap (λ k. drop k joined) first_is ∙ drop-append-add held (take used piece) n in
    let after : drop first.len joined ++ drop used piece ≡ drop n piece =
    ap (λ x. x ++ drop used piece) past ∙ sym (drop-append-le n (take used piece) (drop used piece) within) ∙ ap (drop n) (take-append-drop used piece) in
    let left : drop (rest.len + first.len) (held ++ piece) ≡ drop rest.len (drop n piece) =
    ap (λ k. drop k (held ++ piece)) (omega (arith, first_is)) ∙ drop-append-add held piece (n + rest.len) ∙ sym (drop-drop rest.len n piece) in
    let P : List ℕ → Type 0 = λ s. IsFront o s r.insns (drop rest.len (drop n piece)) in
    let Q : List ℕ → Type 0 = λ s. IsFront o s (f.insns ++ r.insns) (drop rest.len (drop n piece)) in
    let whole = subst Q (cut_across held piece used) (front_joins o joined (drop used piece) f.insns r.insns _ _ f.front (subst P (sym after) r.front)) in
    let F : List ℕ → Type 0 = λ s. IsFront o (held ++ piece) (f.insns ++ r.insns) s in
    let S : List ℕ → Type 0 = λ s. StopsAt o s rest.stop in
    record {
      insns = f.insns ++ r.insns;
      front = subst F (sym left) whole;
      stops = subst S (sym left) r.stops;
      counted = omega (arith, f.counted, r.counted, length-append f.insns r.insns);
      within = omega (arith, r.within, within, size, fits, length-drop n piece, length-append held piece);
      grows = r.grows ∙ ap (λ x. x ++ file_of to r.insns) f.grows ∙ append_assoc old (file_of to f.insns) (file_of to r.insns)
          ∙ ap (λ x. old ++ x) (sym (flat_map-append (encoding to) f.insns r.insns));
    }

-- the complete instructions, appended in another order
pub front_recoded : (o to : Order) (bytes : List ℕ) (read : InsnFront) (old new : List ℕ) → IsInsnFront o bytes read
    → ((insns : List Insn) → InsnFile o (take read.len bytes) insns → new ≡ old ++ file_of to insns)
    → ReadsFront o to bytes read old new
front_recoded o to bytes read old new r written = grind (arith, common_steps)

-- the rest of a piece, as the code cuts it
pub rest_of : (piece : List ℕ) (used : ℕ) → take (length piece - used) (drop used piece) ≡ drop used piece
rest_of piece used = take_all (length piece - used) (drop used piece) (omega (arith, length-drop used piece))
