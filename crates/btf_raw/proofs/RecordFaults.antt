-- The faults of the record at an offset: in info, 4 bytes on, or in the length of its data, 12 bytes on.
use Rattle.std.proofs.Common.{◌≡◌, ◌⊎◌, ℕ, ◌+◌, ◌*◌, ◌<◌, ◌≤◌, List, length, drop, refl, sym, subst, ◌∙◌, inl, inr, arith}
use Rattle.std.proofs.lemmas.List.{length-drop}
use Rattle.bpf_words.specs.{declared.Order.Order, Words.word32_at}
use Rattle.bpf_words.proofs.WordLemmas.{word32_at-drop}
use Rattle.btf_raw.specs.{declared.cause.BtfCause.BtfCause, Cause.LeastByOffset}
use Rattle.btf_raw.specs.declared.cause.BtfCause.TheVariants.{RecordCut, TailCut, InfoBits, KindNumber, FlagSet, Vlen}
use Rattle.btf_raw.specs.{Kinds.kind_of, Kinds.vlen_of, Kinds.tail_words, Heads.HeadFault, Heads.LeastOfInfo}
use Rattle.btf_raw.specs.Frames.{InfoFault, RecordFault, HasInfo, IsAllowed}

abbrev pub info_at : Order → List ℕ → ℕ → ℕ
info_at o types pos = word32_at o types (pos + 4)

abbrev tail_end : Order → List ℕ → ℕ → ℕ
tail_end o types pos = pos + 12 + 4 * tail_words (kind_of (info_at o types pos)) (vlen_of (info_at o types pos))

record OfInfo (o : Order) (types : List ℕ) (pos at_offset : ℕ) (cause : BtfCause) : Type 0 where
  fault : InfoFault (info_at o types pos) cause
  at : at_offset ≡ pos + 4

record OfTail (o : Order) (types : List ℕ) (pos at_offset : ℕ) (cause : BtfCause) : Type 0 where
  cause_is : cause ≡ TailCut
  cut : length types < tail_end o types pos
  at : at_offset ≡ pos + 12

info_is : (o : Order) (types : List ℕ) (pos info : ℕ) → HasInfo o (drop pos types) info → info ≡ info_at o types pos
info_is o types pos info has = has.1 ∙ word32_at-drop o types pos 4

has_info : (o : Order) (types : List ℕ) (pos : ℕ) → pos + 12 ≤ length types → HasInfo o (drop pos types) (info_at o types pos)
has_info o types pos there = (omega (arith, length-drop pos types), sym (word32_at-drop o types pos 4))

says : (o : Order) (types : List ℕ) (pos offset at_offset : ℕ) (cause : BtfCause) → pos + 12 ≤ length types → RecordFault o (drop pos types) offset cause → at_offset ≡ pos + offset → OfInfo o types pos at_offset cause ⊎ OfTail o types pos at_offset cause
says o types pos offset at_offset RecordCut there fault is = absurd (omega (arith, length-drop pos types, fault.1))
says o types pos offset at_offset TailCut there fault is =
    let info-is = info_is o types pos fault.0 fault.1 in
    let short : length (drop pos types) < 12 + 4 * tail_words (kind_of (info_at o types pos)) (vlen_of (info_at o types pos)) = rw (← info-is) fault.4 in
    inr (record { cause_is = refl; cut = omega (arith, length-drop pos types, short); at = omega (arith, fault.5) })
says o types pos offset at_offset cause there fault is =
    inl (record { fault = subst (λ (i : ℕ). InfoFault i cause) (info_is o types pos fault.0 fault.1) fault.2; at = omega (arith, fault.3) })

of_info : (o : Order) (types : List ℕ) (pos : ℕ) (cause : BtfCause) → pos + 12 ≤ length types → InfoFault (info_at o types pos) cause → RecordFault o (drop pos types) 4 cause
of_info o types pos RecordCut there fault = absurd fault
of_info o types pos TailCut there fault = absurd fault
of_info o types pos cause there fault = (info_at o types pos, has_info o types pos there, fault, refl)

-- no cause holds for what is allowed
pub allowed_has_none : (info : ℕ) (cause : BtfCause) → IsAllowed info → ¬ InfoFault info cause
allowed_has_none info InfoBits allowed fault = fault allowed.unused
allowed_has_none info KindNumber allowed fault = let kind = allowed.kind in absurd cc
allowed_has_none info FlagSet allowed fault =
    elim allowed.flag [ inl none ↦ fault.1 none | inr has ↦ let not = fault.2 in absurd cc ]
allowed_has_none info Vlen allowed fault =
    elim allowed.vlen [ inl none ↦ fault.1 none | inr has ↦ let not = fault.2 in absurd cc ]
allowed_has_none info cause allowed fault = absurd fault

pub least_of_info : (o : Order) (types : List ℕ) (pos at_offset : ℕ) (cause : BtfCause) → pos + 12 ≤ length types → at_offset ≡ pos + 4 → LeastOfInfo (info_at o types pos) cause → LeastByOffset (HeadFault o types pos) at_offset cause
least_of_info o types pos at_offset cause there at least = record {
  holds = (4, of_info o types pos cause there least.holds, at);
  least = λ q d h. elim (says o types pos h.0 q d there h.1 h.2) [
    | inl info ↦ inr (at ∙ sym info.at, least.least d info.fault)
    | inr tail ↦ inl (let later : q ≡ pos + 12 = tail.at in omega arith)
  ];
}

pub tail_cut : (o : Order) (types : List ℕ) (pos at_offset : ℕ) → pos + 12 ≤ length types → at_offset ≡ pos + 12 → IsAllowed (info_at o types pos) → length types < tail_end o types pos → LeastByOffset (HeadFault o types pos) at_offset TailCut
tail_cut o types pos at_offset there at allowed cut = record {
  holds = (12, (info_at o types pos, has_info o types pos there, allowed.kind, omega (arith, length-drop pos types), omega (arith, length-drop pos types), refl), at);
  least = λ q d h. elim (says o types pos h.0 q d there h.1 h.2) [
    | inl info ↦ absurd (allowed_has_none (info_at o types pos) d allowed info.fault)
    | inr tail ↦ inr (at ∙ sym tail.at, rw tail.cause_is (omega arith))
  ];
}
