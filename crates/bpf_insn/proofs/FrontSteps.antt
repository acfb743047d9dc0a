-- Reading the complete instructions at the start of the bytes in turn.
use Rattle.std.proofs.Common.{◌≡◌, ◌<◌, ◌≤◌, ◌+◌, ◌-◌, ◌*◌, ◌/◌, ◌++◌, ◌∙◌, ℕ, List, [], ◌∷◌, Option, Some, None, length, take, drop, refl, sym, ap, subst, arith, append_assoc, length-append, length-drop}
use Rattle.std.proofs.lemmas.List.{drop_all, drop-drop, take_all, Concat.flat_map-append, Elements.All-append, Elements.All-nil}
use Rattle.bpf_words.specs.declared.Order.{Order}
use Rattle.bpf_insn.specs.{declared.fault.SlotFault.SlotFault, declared.whole_insns.InsnFront.InsnFront, declared.insn.Insn.Insn, Table.IsInsn, FileSteps.ReadsTo, Fronts.IsInsnFront, Fronts.StopsAt}
use Rattle.bpf_insn.specs.{Encoding.file_of, Encoding.encoding, Faults.BeginsWith, Faults.IsInsnFault, Faults.IsSlotFault, Faults.moved_by}
use Rattle.bpf_insn.proofs.{DecodeLemmas.step, FrontLemmas.empty_begins_none, FrontLemmas.front_fault, FrontLemmas.front_of, FrontLemmas.length-at_most_file}

pub reads_none : (order : Order) (bytes : List ℕ) → ReadsTo order bytes 0 0
reads_none order bytes = record { insns = []; encoded = (omega arith, All-nil IsInsn, refl, refl); counted = refl }

module _ (order : Order) (bytes : List ℕ) (at n : ℕ) (read : ReadsTo order bytes at n) where
  -- the bytes from the offset on
  rest_is : take (length bytes - at) (drop at bytes) ≡ drop at bytes
  rest_is = take_all (length bytes - at) (drop at bytes) (omega (arith, length-drop at bytes))

  -- each instruction that was read has at least 8 of the bytes before the offset
  pub count_below : 8 * n ≤ at
  count_below = omega (arith, read.encoded.3, read.counted, length-at_most_file order read.insns)

  -- one instruction more
  pub reads_one_more : (i : Insn) (len : ℕ) → BeginsWith order i (take (length bytes - at) (drop at bytes)) × (len ≡ length (encoding order i)) → ReadsTo order bytes (at + len) (n + 1)
  reads_one_more i len h =
      record {
        insns = read.insns ++ i ∷ [];
        encoded = step order bytes read.insns at read.encoded i len h;
        counted = omega (arith, read.counted, length-append read.insns (i ∷ []));
      }

  -- a run of instructions at the offset
  pub reads_run_more : (len m : ℕ) → ReadsTo order (take (length bytes - at) (drop at bytes)) len m → ReadsTo order bytes (at + len) (n + m)
  reads_run_more len m h =
      let P : List ℕ → Type 0 = λ s. ReadsTo order s len m in
      let run : ReadsTo order (drop at bytes) len m = subst P rest_is h in
      let file : file_of order (read.insns ++ run.insns) ≡ file_of order read.insns ++ file_of order run.insns =
      flat_map-append (encoding order) read.insns run.insns in
      record {
        insns = read.insns ++ run.insns;
        encoded = (
          omega (arith, read.encoded.0, run.encoded.0, length-drop at bytes),
          All-append IsInsn read.insns run.insns read.encoded.1 run.encoded.1,
          read.encoded.2 ∙ ap (λ s. file_of order read.insns ++ s) run.encoded.2
              ∙ sym (append_assoc (file_of order read.insns) (file_of order run.insns) (drop len (drop at bytes)))
              ∙ ap (λ s. s ++ drop len (drop at bytes)) (sym file)
              ∙ ap (λ s. file_of order (read.insns ++ run.insns) ++ s) (drop-drop len at bytes),
          omega (arith, read.encoded.3, run.encoded.3, ap length file, length-append (file_of order read.insns) (file_of order run.insns)),
        );
        counted = omega (arith, read.counted, run.counted, length-append read.insns run.insns);
      }

  -- one plain instruction more
  pub reads_plain_more : (i : Insn) → BeginsWith order i (take (length bytes - at) (drop at bytes)) × (length (encoding order i) ≡ 8) → n ≡ at / 8 → ReadsTo order bytes (at + 8) ((at + 8) / 8)
  reads_plain_more i h e =
      let P : ℕ → Type 0 = λ m. ReadsTo order bytes (at + 8) m in
      subst P (omega (arith, e)) (reads_one_more i 8 (h.0, sym h.1))

  -- reading ended with a fault
  pub stops_at_fault : (fault : SlotFault) → IsSlotFault order (take (length bytes - at) (drop at bytes)) fault → IsInsnFront order bytes (record { len = at; count = n; stop = Some fault })
  stops_at_fault fault h =
      let P : List ℕ → Type 0 = λ s. IsSlotFault order s fault in
      let there : IsSlotFault order (drop at bytes) fault = subst P rest_is h in
      record {
        insns = read.insns;
        is = front_of order bytes read.insns (drop at bytes) read.encoded.1 read.encoded.2 there.unencoded;
        within = read.encoded.0;
        counted = read.counted;
        stops = there;
      }

  -- reading ended at the end of the bytes
  pub stops_at_end : length bytes ≤ at → IsInsnFront order bytes (record { len = at; count = n; stop = None })
  stops_at_end h =
      let none : drop at bytes ≡ [] = drop_all at bytes h in
      let P : List ℕ → Type 0 = λ s. (i : Insn) → ¬ BeginsWith order i s in
      record {
        insns = read.insns;
        is = front_of order bytes read.insns (drop at bytes) read.encoded.1 read.encoded.2 (subst P (sym none) (empty_begins_none order));
        within = read.encoded.0;
        counted = read.counted;
        stops = none;
      }

-- an instruction that is not plain, and the plain ones that follow it
pub reads_other_and_plain : (order : Order) (bytes : List ℕ) (at n : ℕ) (i : Insn) (len plain : ℕ) → ReadsTo order bytes at n
    → BeginsWith order i (take (length bytes - at) (drop at bytes)) × (len ≡ length (encoding order i))
    → ReadsTo order (take (length bytes - (at + len)) (drop (at + len) bytes)) plain (plain / 8)
    → ReadsTo order bytes (at + (len + plain)) (n + (1 + plain / 8))
reads_other_and_plain order bytes at n i len plain read one run =
    let all = reads_run_more order bytes (at + len) (n + 1) (reads_one_more order bytes at n read i len one) plain (plain / 8) run in
    let P : ℕ → Type 0 = λ to. ReadsTo order bytes to (n + (1 + plain / 8)) in
    let Q : ℕ → Type 0 = λ m. ReadsTo order bytes (at + len + plain) m in
    subst P (omega arith) (subst Q (omega arith) all)

-- how insn_front ends
pub ruleset front_ends = (stops_at_end, stops_at_fault)

-- the fault that stopped the reading, at its offset in the bytes
pub read_fault : (o : Order) (bytes : List ℕ) (read : InsnFront) (f : SlotFault) → IsInsnFront o bytes read → read.stop ≡ Some f
    → read.len < length bytes → IsInsnFault o bytes (moved_by read.len f)
read_fault o bytes read f r e some =
    let P : Option SlotFault → Type 0 = λ x. StopsAt o (drop read.len bytes) x in
    let slot : IsSlotFault o (drop read.len bytes) f = subst P e r.stops in
    let size = length-drop read.len bytes in
    front_fault o bytes r.insns (drop read.len bytes) f read.len r.is (omega (arith, size, some)) slot (omega (arith, size, r.within))
