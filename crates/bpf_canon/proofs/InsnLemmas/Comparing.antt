-- A file that is compared with another one in the other order, slot by slot.
use Rattle.std.proofs.Common.{◌≡◌, ◌≢◌, ◌↔◌, ◌<◌, ◌++◌, ◌∙◌, ℕ, Bool, List, [], true, false, length, take, drop, sym, ap, arith, append_assoc, IsTrue, nat_eq, take-append-drop, rules}
use Rattle.std.proofs.lemmas.Grind.{common_steps}
use Rattle.std.specs.{List.flat_map, Cmp.Lexicographic.other_text, Cmp.Lexicographic.pointwise}
use Rattle.std.proofs.{lemmas.List.append_cancel_left, Math.Seq.take-append_seam}
use Rattle.bpf_words.specs.{declared.Order.Order, Slots.AreFields, Slots.Fields, Slots.encoded}
use Rattle.bpf_words.proofs.SwappedSlots.{Rewrites, all_rewritten, one_rewritten, rewritten_rest}
use Rattle.bpf_insn.specs.{declared.insn.Insn.Insn, Encoding.InsnFile, Encoding.file_of}
use Rattle.bpf_canon.proofs.InsnLemmas.Recoding.{file_slots, file_encoded, slots_of_file}

-- the slots of `a` before `left` are, in the other order, at the start of `b`, and `right` follows them
pub record SwappedFront (order to : Order) (a left b right : List ℕ) : Type 0 where
  pub written : List ℕ
  pub rewrites : Rewrites order to a left [] written
  pub front : b ≡ written ++ right

-- what a test for a prefix found
pub prefix_found : (xs prefix rest : List ℕ) → pointwise nat_eq (take (length prefix) xs) prefix ≡ true → rest ≡ drop (length prefix) xs → xs ≡ prefix ++ rest
prefix_found xs prefix rest t e = search (rules, take-append-drop)

module _ (order to : Order) (a left following b right : List ℕ) (slot : Fields) (so_far : SwappedFront order to a left b right) (first : left ≡ encoded order slot ++ following) (fit : AreFields slot) where
  longer : Rewrites order to a following [] (so_far.written ++ encoded to slot)
  longer = one_rewritten order to a left following [] so_far.written slot so_far.rewrites first fit

  -- the next slots agree
  pub swapped_more : (others : List ℕ) → right ≡ encoded to slot ++ others → SwappedFront order to a following b others
  swapped_more others e = grind (arith, longer, append_assoc)

  -- the next slots differ
  pub swapped_apart : (bytes : List ℕ) → bytes ≡ encoded to slot → pointwise nat_eq (take (length bytes) right) bytes ≡ false → (insns : List Insn) → InsnFile order a insns → b ≢ file_of to insns
  swapped_apart bytes is differ insns file same =
      let left_over = rewritten_rest order to a following [] (so_far.written ++ encoded to slot) longer (slots_of_file insns) [] (file_slots order a insns file) in
      let tail = flat_map (encoded to) left_over.0 in
      let whole : so_far.written ++ right ≡ (so_far.written ++ encoded to slot) ++ tail =
      sym so_far.front ∙ same ∙ file_encoded to insns ∙ left_over.1.1 in
      let next : right ≡ encoded to slot ++ tail = grind (arith, append_cancel_left, append_assoc) in
      let found : right ≡ bytes ++ tail = next ∙ ap (λ xs. xs ++ tail) (sym is) in
      other_text (take (length bytes) right) bytes (sym differ) (ap (take (length bytes)) found ∙ take-append_seam bytes tail)

-- a test for no bytes
none_left : (is_empty : Bool) (xs : List ℕ) → is_empty ≡ nat_eq (length xs) 0 → IsTrue is_empty ↔ (xs ≡ [])
none_left is_empty xs e = grind (arith, common_steps)

-- all slots agree, and the files are the same if nothing follows
pub swapped_end : (order to : Order) (a left b right : List ℕ) (is_empty : Bool) → SwappedFront order to a left b right → length left < 8 → is_empty ≡ nat_eq (length right) 0
    → (insns : List Insn) → InsnFile order a insns → IsTrue is_empty ↔ (b ≡ file_of to insns)
swapped_end order to a left b right is_empty so_far short empty insns file =
    let whole : so_far.written ≡ file_of to insns =
    (all_rewritten order to a left [] so_far.written so_far.rewrites short (slots_of_file insns) [] (file_slots order a insns file)).0 ∙ sym (file_encoded to insns) in
    grind (arith, common_steps, append_cancel_left)
