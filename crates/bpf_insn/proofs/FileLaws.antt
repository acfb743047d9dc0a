-- Laws of encodings and of files.
use Rattle.std.proofs.Common.{Bool, true, false, IfSome, ◌≡◌, ◌≢◌, ℕ, ◌+◌, ◌≤◌, ℤ, List, [], ◌∷◌, ◌++◌, length, drop, slice_range, refl, ap, sym, ◌∙◌, arith, inl, inr, Option, Some, None, append_assoc, length-append, All, FitsSigned, Result, Ok, Err, IfOk, IfErr}
use Rattle.std.proofs.{Math.Seq.drop-append_seam, lemmas.List.append-nil, lemmas.List.nil_from_length, lemmas.List.Elements.All-head, lemmas.List.Elements.All-tail}
use Rattle.std.specs.Int.{w32, cast_unsigned}
use Rattle.std.specs.Option.{is_some}
use Rattle.bpf_words.specs.{declared.Order.Order, Words.word32, Slots.Fields, Slots.encoded}
use Rattle.bpf_words.proofs.OneEncoding.{same_fields, word-injective_32, signed_32, pattern_fits_32}
use Rattle.bpf_insn.specs.Table.{fields_of, next_imm_of, IsInsn}
use Rattle.bpf_insn.specs.Encoding.{encoding, second_slot, file_of, InsnFile}
use Rattle.bpf_insn.specs.Faults.{BeginsWith, IsSlotFault, IsInsnFault, moved_by}
use Rattle.bpf_insn.proofs.FormLemmas.{insn_form, same_form, opcode_of_form}
use Rattle.bpf_insn.proofs.FieldLemmas as field
use Rattle.bpf_words.proofs.SlotLemmas.{slot_length}
use Rattle.bpf_insn.proofs.{FaultLemmas.begins_agrees, InsnLaws.same_insn}
use Rattle.bpf_insn.proofs.WideLemmas.{second_next, second_length}
use Rattle.bpf_insn.specs.declared.{fault.SlotCause.SlotCause, fault.SlotFault.SlotFault, insn.Insn.Insn, insn.Insn.TheVariants.Wide}
use Rattle.bpf_insn.specs.declared.fault.SlotCause.TheVariants.{Truncated, Opcode}
use Rattle.bpf_insn.specs.declared.form.Form.{Form}
use Rattle.bpf_insn.specs.declared.form.Form.TheVariants as form

-- ---- one instruction

-- an instruction has a next_imm if its form is that of wide loads
abbrev has_next : Form → Bool
has_next form.Wide = true
has_next _ = false

next_of_form : (i : Insn) → is_some (next_imm_of i) ≡ has_next (insn_form i)
next_of_form (Wide d what) = refl
next_of_form _ = refl

next_fits : (i : Insn) → IsInsn i → IfSome (next_imm_of i) (FitsSigned w32)
next_fits (Wide d what) h = field.wide_next_fits what h.1
next_fits _ h = tt

-- equal bytes of second slots have the same next_imm
same_next : (order : Order) (m n : Option ℤ) (r q : List ℕ) → IfSome m (FitsSigned w32) → IfSome n (FitsSigned w32) → is_some m ≡ is_some n
    → second_slot order m ++ r ≡ second_slot order n ++ q → m ≡ n
same_next order None None r q hm hn some e = refl
same_next order (Some m) (Some n) r q hm hn some e =
    let words : word32 order (cast_unsigned w32 m) ≡ word32 order (cast_unsigned w32 n) =
    sym (second_next order m r) ∙ ap (λ (l : List ℕ). slice_range l 4 8) e ∙ second_next order n q in
    ap (λ (z : ℤ). Some z) (signed_32 m n hm hn (word-injective_32 order _ _ (pattern_fits_32 m hm) (pattern_fits_32 n hn) words))
same_next order _ _ r q hm hn some e = absurd (cc)

-- bytes begin with at most one encoding
pub begins_once : (order : Order) (i j : Insn) (s : List ℕ) → BeginsWith order i s → BeginsWith order j s → i ≡ j
unfolding encoding
begins_once order i j s b c =
    let f = fields_of i in
    let g = fields_of j in
    let r = second_slot order (next_imm_of i) ++ b.1.0 in
    let q = second_slot order (next_imm_of j) ++ c.1.0 in
    let e : encoded order f ++ r ≡ encoded order g ++ q =
    sym (append_assoc (encoded order f) (second_slot order (next_imm_of i)) b.1.0) ∙ sym b.1.1 ∙ c.1.1 ∙ append_assoc (encoded order g) (second_slot order (next_imm_of j)) c.1.0 in
    let agrees = begins_agrees order i (encoded order g ++ q) (b.0, (b.1.0, sym e ∙ sym (append_assoc (encoded order f) (second_slot order (next_imm_of i)) b.1.0))) in
    let k = field.compared order i g q b.0 (field.fields_in_range j c.0) in
    let same : f ≡ g = same_fields f g (k.opcode.0 agrees.0) (k.dst.0 agrees.1) (k.src.0 agrees.2) (k.off.0 agrees.3) (k.imm.0 agrees.4) in
    let form_same : insn_form i ≡ insn_form j = same_form i (insn_form j) (ap (λ (h : Fields). h.opcode) same ∙ opcode_of_form j) in
    let length_same : length (encoded order f) ≡ length (encoded order g) = slot_length order f ∙ sym (slot_length order g) in
    let tails : r ≡ q =
    sym (drop-append_seam (encoded order f) r) ∙ ap (λ (n : ℕ). drop n (encoded order f ++ r)) length_same ∙ ap (drop (length (encoded order g))) e ∙ drop-append_seam (encoded order g) q in
    same_insn i j b.0 c.0 same (same_next order (next_imm_of i) (next_imm_of j) b.1.0 c.1.0 (next_fits i b.0) (next_fits j c.0)
    (next_of_form i ∙ ap has_next form_same ∙ sym (next_of_form j)) tails)

pub at_least_a_slot : (order : Order) (i : Insn) → 8 ≤ length (encoding order i)
unfolding encoding
at_least_a_slot order i = omega (arith, length-append (encoded order (fields_of i)) (second_slot order (next_imm_of i)), slot_length order (fields_of i))

second_at_most : (order : Order) (m : Option ℤ) → length (second_slot order m) ≤ 8
second_at_most order None = omega arith
second_at_most order (Some m) = omega (arith, second_length order m)

pub at_most_two : (order : Order) (i : Insn) → length (encoding order i) ≤ 16
unfolding encoding
at_most_two order i =
    omega (arith, second_at_most order (next_imm_of i), length-append (encoded order (fields_of i)) (second_slot order (next_imm_of i)), slot_length order (fields_of i))

-- no two instructions have the same encoding, and no encoding is a proper prefix of another
pub no_proper_prefix : (order : Order) (i j : Insn) (more : List ℕ) → IsInsn i → IsInsn j → encoding order j ≡ encoding order i ++ more → (i ≡ j) × (more ≡ [])
no_proper_prefix order i j more hi hj e =
    let same = begins_once order i j (encoding order j) (hi, (more, e)) (hj, ([], sym (append-nil (encoding order j)))) in
    (same, nil_from_length more (omega (arith, ap length e, length-append (encoding order i) more, ap (λ (x : Insn). length (encoding order x)) same)))

-- ---- files

-- the bytes after the same encoding in two equal lists are equal
pub rests_same : (order : Order) (i j : Insn) (r q : List ℕ) → i ≡ j → encoding order i ++ r ≡ encoding order j ++ q → r ≡ q
rests_same order i j r q same e =
    let long : length (encoding order i) ≡ length (encoding order j) = ap (λ (x : Insn). length (encoding order x)) same in
    sym (drop-append_seam (encoding order i) r) ∙ ap (λ (n : ℕ). drop n (encoding order i ++ r)) long ∙ ap (drop (length (encoding order j))) e ∙ drop-append_seam (encoding order j) q

pub cons_same : {i j : Insn} {xs ys : List Insn} → i ≡ j → xs ≡ ys → i ∷ xs ≡ j ∷ ys
cons_same e f = cc

pub empty_begins_none : (order : Order) (i : Insn) → ¬ BeginsWith order i []
empty_begins_none order i b = omega (arith, ap length b.1.1, length-append (encoding order i) b.1.0, at_least_a_slot order i)

-- two sequences of encodings at the start of the same bytes have the same first instruction
same_heads : (order : Order) (i j : Insn) (xs ys : List Insn) (r q : List ℕ) → All IsInsn (i ∷ xs) → All IsInsn (j ∷ ys) → file_of order (i ∷ xs) ++ r ≡ file_of order (j ∷ ys) ++ q
    → (i ≡ j) × (file_of order xs ++ r ≡ file_of order ys ++ q)
same_heads order i j xs ys r q hx hy e =
    let whole : encoding order i ++ (file_of order xs ++ r) ≡ encoding order j ++ (file_of order ys ++ q) =
    sym (append_assoc (encoding order i) (file_of order xs) r) ∙ e ∙ append_assoc (encoding order j) (file_of order ys) q in
    let same = begins_once order i j (encoding order i ++ (file_of order xs ++ r)) (All-head IsInsn i xs hx, (file_of order xs ++ r, refl)) (All-head IsInsn j ys hy, (file_of order ys ++ q, whole)) in
    (same, rests_same order i j (file_of order xs ++ r) (file_of order ys ++ q) same whole)

-- one of two sequences of encodings at the start of the same bytes is a prefix of the other
-- (the first is at least as long as the second if the bytes after it don't begin with an encoding)
pub longest_front : (order : Order) (xs ys : List Insn) (r q : List ℕ) → All IsInsn xs → All IsInsn ys → file_of order xs ++ r ≡ file_of order ys ++ q
    → ((i : Insn) → ¬ BeginsWith order i r) → length ys ≤ length xs
longest_front order xs [] r q hx hy e none = omega arith
longest_front order [] (j ∷ ys) r q hx hy e none =
    absurd (none j (All-head IsInsn j ys hy, (file_of order ys ++ q, e ∙ append_assoc (encoding order j) (file_of order ys) q)))
longest_front order (i ∷ xs) (j ∷ ys) r q hx hy e none =
    omega (arith, longest_front order xs ys r q (All-tail IsInsn i xs hx) (All-tail IsInsn j ys hy) (same_heads order i j xs ys r q hx hy e).1 none)

-- two sequences of the same number of instructions at the start of the same bytes
pub fronts_same : (order : Order) (xs ys : List Insn) (r q : List ℕ) → All IsInsn xs → All IsInsn ys → length xs ≡ length ys → file_of order xs ++ r ≡ file_of order ys ++ q → (xs ≡ ys) × (r ≡ q)
fronts_same order [] [] r q hx hy n e = (refl, e)
fronts_same order (i ∷ xs) (j ∷ ys) r q hx hy n e =
    let heads = same_heads order i j xs ys r q hx hy e in
    let more = fronts_same order xs ys r q (All-tail IsInsn i xs hx) (All-tail IsInsn j ys hy) (omega arith) heads.1 in
    (cons_same heads.0 more.0, more.1)
fronts_same order _ _ r q hx hy n e = absurd (omega arith)

-- if the bytes after a sequence of encodings in a file don't begin with an encoding, the sequence is the file
whole_front : (order : Order) (xs ys : List Insn) (r : List ℕ) → All IsInsn xs → All IsInsn ys → file_of order xs ++ r ≡ file_of order ys
    → ((i : Insn) → ¬ BeginsWith order i r) → (xs ≡ ys) × (r ≡ [])
whole_front order xs ys r hx hy e none =
    let whole : file_of order xs ++ r ≡ file_of order ys ++ [] = e ∙ sym (append-nil (file_of order ys)) in
    fronts_same order xs ys r [] hx hy
    (omega (arith, longest_front order xs ys r [] hx hy whole none, longest_front order ys xs [] r hy hx (sym whole) (empty_begins_none order))) whole

-- a file is the encoding of at most one list of instructions
pub one_list : (order : Order) (bytes : List ℕ) (xs ys : List Insn) → InsnFile order bytes xs → InsnFile order bytes ys → xs ≡ ys
one_list order bytes xs ys a b = (whole_front order xs ys [] a.0 b.0 (append-nil (file_of order xs) ∙ sym a.1 ∙ b.1) (empty_begins_none order)).0

-- if the bytes after a sequence of encodings don't begin with an encoding and aren't empty, their fault is that of the file
pub file_fault : (order : Order) (bytes : List ℕ) (xs : List Insn) (rest : List ℕ) (fault reported : SlotFault) → All IsInsn xs → bytes ≡ file_of order xs ++ rest → rest ≢ []
    → IsSlotFault order rest fault → reported ≡ moved_by (length (file_of order xs)) fault → IsInsnFault order bytes reported
file_fault order bytes xs rest fault reported h e ne f m =
    let longest : (others : List Insn) (more : List ℕ) → All IsInsn others → bytes ≡ file_of order others ++ more → length others ≤ length xs =
    λ others more ho eo. longest_front order xs others rest more h ho (sym e ∙ eo) f.unencoded in
    record {
      no_file = λ insns file. ne (whole_front order xs insns rest h file.0 (sym e ∙ file.1) f.unencoded).1;
      insns = xs;
      rest = rest;
      front = record { each = h; front = e; longest = longest };
      slot = fault;
      slot_fault = f;
      moved = m;
    }

-- the offset of a fault is within the bytes
pub fault_within : (order : Order) (s : List ℕ) (at : ℕ) (cause : SlotCause) → IsSlotFault order s (record { pos = at; cause = cause }) → at ≤ length s
fault_within order s at Truncated f = elim f.first [ inl h ↦ omega (arith, h.1) | inr h ↦ omega (arith, h.0, h.3) ]
fault_within order s at Opcode f = omega (arith, f.first.2)
fault_within order s at _ f = omega (arith, f.first.0, f.first.2)

-- decoding succeeds if the bytes begin with an encoding
pub answered : (order : Order) (s : List ℕ) (r : Result (Insn × ℕ) SlotFault) → IfOk r (λ x. BeginsWith order x.0 s × (x.1 ≡ length (encoding order x.0))) → IfErr r (IsSlotFault order s)
    → (i : Insn) → BeginsWith order i s → r ≡ Ok (i, length (encoding order i))
answered order s (Ok (j, n)) found fault i b =
    let same : j ≡ i = begins_once order j i s found.0 b in
    let len : n ≡ length (encoding order j) = found.1 in
    cc
answered order s (Err f) found fault i b = absurd (fault.unencoded i b)
