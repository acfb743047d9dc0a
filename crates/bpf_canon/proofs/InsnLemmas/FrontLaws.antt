-- Fronts of byte lists: how they join, grow and compare.
use Rattle.std.proofs.Common.{◌≡◌, ◌<◌, ◌≤◌, ◌+◌, ◌*◌, ◌++◌, ◌⊎◌, ◌∙◌, ℕ, List, [], ◌∷◌, length, refl, sym, ap, subst, arith, append_assoc, length-append, All}
use Rattle.std.proofs.lemmas.List.{append-nil, Elements.All-append, Elements.All-head, Elements.All-nil, Elements.All-push, Elements.All-tail}
use Rattle.std.proofs.lemmas.List.Concat.{flat_map-append}
use Rattle.bpf_words.specs.{declared.Order.Order}
use Rattle.bpf_words.proofs.SlotLemmas.{slot_length}
use Rattle.bpf_insn.specs.declared.{insn.Insn.Insn, fault.SlotFault.SlotFault, fault.SlotCause.SlotCause}
use Rattle.bpf_insn.specs.declared.fault.SlotCause.TheVariants.{Truncated}
use Rattle.bpf_insn.specs.{Table.IsInsn, Faults.IsFront, Faults.IsSlotFault}
use Rattle.bpf_insn.specs.Encoding.{InsnFile, file_of, encoding}
use Rattle.bpf_insn.proofs.UniqueLemmas.{one_fault}
use Rattle.bpf_insn.proofs.FileLaws.{begins_once, rests_same}
use Rattle.bpf_insn.proofs.FrontLemmas.{empty_begins_none, front_of, length-at_most_file, one_front}
use Rattle.bpf_canon.specs.insn.{FrontReads.BeginsNone, FeedStream.IsSound}

-- ---- lengths

-- an encoding is as long in one order as in the other
pub length-encoding_same : (o p : Order) (i : Insn) → length (encoding o i) ≡ length (encoding p i)
unfolding encoding
length-encoding_same o p i = grind (arith, slot_length)

-- and so are the bytes of some instructions
pub length-file_same : (o p : Order) (l : List Insn) → length (file_of o l) ≡ length (file_of p l)
length-file_same o p [] = refl
length-file_same o p (i ∷ l) = grind (arith, length-append, length-encoding_same, (length-file_same o p l))

-- what is read is no more than what there is, in either order
pub front_fits : (o to : Order) (b : List ℕ) (l : List Insn) (rest : List ℕ) → IsFront o b l rest
    → length (file_of to l) + length rest ≡ length b
front_fits o to b l rest f = omega (arith, ap length f.front, length-append (file_of o l) rest, length-file_same o to l)

pub front_counts : (o : Order) (b : List ℕ) (l : List Insn) (rest : List ℕ) → IsFront o b l rest → 8 * length l + length rest ≤ length b
front_counts o b l rest f = omega (arith, length-at_most_file o l, front_fits o o b l rest f)

-- ---- the rest after the complete instructions doesn't begin with an instruction

-- the bytes of one instruction more
pub file-push : (o : Order) (l : List Insn) (i : Insn) → file_of o (l ++ i ∷ []) ≡ file_of o l ++ encoding o i
file-push o l i = flat_map-append (encoding o) l (i ∷ []) ∙ ap (λ s. file_of o l ++ s) (append-nil (encoding o i))

pub front_begins_none : (o : Order) (b : List ℕ) (l : List Insn) (rest : List ℕ) → IsFront o b l rest → BeginsNone o rest
front_begins_none o b l rest f i g =
    let whole : b ≡ file_of o (l ++ i ∷ []) ++ g.1.0 = grind (arith, append_assoc, file-push) in
    omega (arith, f.longest (l ++ i ∷ []) g.1.0 (All-push IsInsn l i f.each g.0) whole, length-append l (i ∷ []))

pub front-nil : (o : Order) → IsFront o [] [] []
front-nil o = front_of o [] [] [] (All-nil IsInsn) refl (empty_begins_none o)

-- all instructions of a file are at its start
pub file_front : (o : Order) (b : List ℕ) (l : List Insn) → InsnFile o b l → IsFront o b l []
file_front o b l f = front_of o b l [] f.0 (f.1 ∙ sym (append-nil (file_of o l))) (empty_begins_none o)

-- ---- longer bytes

-- the instructions at the start of the rest and of what follows it are appended to those before
pub front_joins : (o : Order) (b more : List ℕ) (l m : List Insn) (rest left : List ℕ) → IsFront o b l rest → IsFront o (rest ++ more) m left
    → IsFront o (b ++ more) (l ++ m) left
front_joins o b more l m rest left f g =
    let whole : b ++ more ≡ file_of o (l ++ m) ++ left = grind (arith, append_assoc, flat_map-append) in
    front_of o (b ++ more) (l ++ m) left (All-append IsInsn l m f.each g.each) whole (front_begins_none o (rest ++ more) m left g)

grows : (o : Order) (l m : List Insn) (r s : List ℕ) → All IsInsn l → All IsInsn m → file_of o l ++ r ≡ file_of o m ++ s → BeginsNone o s
    → (k : List Insn) × (m ≡ l ++ k)
grows o [] m r s hl hm e none = (m, refl)
grows o (i ∷ l) [] r s hl hm e none = grind (arith, All-head, append_assoc)
grows o (i ∷ l) (j ∷ m) r s hl hm e none =
    let whole : encoding o i ++ (file_of o l ++ r) ≡ encoding o j ++ (file_of o m ++ s) = grind (arith, append_assoc) in
    let same = begins_once o i j (encoding o i ++ (file_of o l ++ r)) (All-head IsInsn i l hl, (file_of o l ++ r, refl)) (All-head IsInsn j m hm, (file_of o m ++ s, whole)) in
    let tails = rests_same o i j (file_of o l ++ r) (file_of o m ++ s) same whole in
    let more = grows o l m r s (All-tail IsInsn i l hl) (All-tail IsInsn j m hm) tails none in
    (more.0, ap (λ k. k ∷ m) (sym same) ∙ ap (λ t. i ∷ t) more.1)

-- the instructions at the start of bytes are at the start of longer bytes
pub front_grows : (o : Order) (l m : List Insn) (b x r s : List ℕ) → IsFront o b l r → IsFront o (b ++ x) m s → (k : List Insn) × (m ≡ l ++ k)
front_grows o l m b x r s f g =
    grows o l m (r ++ x) s f.each g.each
    (sym (append_assoc (file_of o l) r x) ∙ ap (λ t. t ++ x) (sym f.front) ∙ g.front) (front_begins_none o (b ++ x) m s g)

-- ---- faults

pub truncated_or_not : (cause : SlotCause) → (cause ≡ Truncated) ⊎ (cause ≡ Truncated → ⊥)
truncated_or_not cause = grind arith

pub lasting_length : (o : Order) (s : List ℕ) (at : ℕ) (cause : SlotCause) → (cause ≡ Truncated → ⊥)
    → IsSlotFault o s (record { pos = at; cause = cause }) → 8 ≤ length s
lasting_length o s at cause t f = grind arith

pub cut_length : (o : Order) (s : List ℕ) (at : ℕ) (cause : SlotCause) → cause ≡ Truncated
    → IsSlotFault o s (record { pos = at; cause = cause }) → length s < 16
cut_length o s at cause t f = grind arith

-- a valid file is without fault
pub sound_file : (o : Order) (b : List ℕ) (l : List Insn) → IsFront o b l [] → IsSound o b
sound_file o b l front f fault = absurd (fault.no_file l (front.each, front.front ∙ append-nil (file_of o l)))

-- bytes whose last instruction is cut have no other fault
pub sound_cut : (o : Order) (b : List ℕ) (l : List Insn) (rest : List ℕ) (e : SlotFault) → IsFront o b l rest → IsSlotFault o rest e → e.cause ≡ Truncated
    → IsSound o b
sound_cut o b l rest e front slot same f fault =
    let once = one_front o b fault.insns l fault.rest rest fault.front front in
    let P : List ℕ → Type 0 = λ r. IsSlotFault o r fault.slot in
    let one = one_fault o rest fault.slot e (subst P once.1 fault.slot_fault) slot in
    ap (λ (x : SlotFault). x.cause) fault.moved ∙ ap (λ (x : SlotFault). x.cause) one ∙ same
