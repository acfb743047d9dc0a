-- The instructions of the lines read so far, and the calls that took them.
use Rattle.std.proofs.Common.{◌≡◌, ℕ, ◌+◌, List, [], ◌∷◌, ◌++◌, Option, Some, None, Result, Ok, MutBor, refl, sym, ap, ◌∙◌, subst, append_assoc, append-nil}
use Rattle.std.specs.{Option.option_to_list, List.flat_map, List.FoldsTo, declared.alloc.AllocError.AllocError}
use Rattle.bpf_insn.specs.{declared.insn.Insn.Insn, Table.IsInsn}
use Rattle.bpf_text.specs.insn.{Listing.lines_of, Listing.ListsLine, Listing.Lists, Reading.TakesOne, Reading.TakesAll}
use Rattle.bpf_text.proofs.InsnLemmas.ListingLemmas.{ReadSoFar, starts, one_more, at_the_end}

module _ {S : Type 0} (call : MutBor S → Insn → Result (Unit {0}) AllocError → MutBor S → Type 0) where
  -- the lines before the rest list the instructions that the calls took, and the rest begins with line number n
  pub record TakenSoFar (text rest : List ℕ) (before after : S) (n : ℕ) : Type 0 where
    pub insns : List Insn
    pub so_far : ReadSoFar text rest insns n
    pub taken : FoldsTo (TakesOne call) before insns after

  -- the calls took the instructions of the listing
  abbrev pub TookListed : List ℕ → S → S → Type 0
  TookListed text before after = (insns : List Insn) × Lists text insns × TakesAll call before insns after

  pub none_taken : (text : List ℕ) (s : S) → TakenSoFar text text s s 1
  none_taken text s = record { insns = []; so_far = starts text [] refl; taken = refl }

  -- a line with an instruction, which a call took, and a line without one
  pub one_taken : (line : List ℕ) (found : Option Insn) (i : Insn) (s t : S) (v w : MutBor S) → found ≡ Some i → ListsLine line (option_to_list found) → v.now ≡ s → t ≡ w.now → call v i (Ok tt) w → FoldsTo (TakesOne call) s (option_to_list found) t
  one_taken line found i s t v w e h before after ran = rw e (t, ((rw e at h).0, (v, w, before, sym after, ran)), refl)

  pub no_more_taken : (found : Option Insn) (s t : S) → found ≡ None → t ≡ s → FoldsTo (TakesOne call) s (option_to_list found) t
  no_more_taken found s t e same = rw e (sym same)

  both : (s t u : S) (xs ys : List Insn) → FoldsTo (TakesOne call) s xs t → FoldsTo (TakesOne call) t ys u → FoldsTo (TakesOne call) s (xs ++ ys) u
  both s t u [] ys h k = subst (λ (p : S). FoldsTo (TakesOne call) p ys u) (sym h) k
  both s t u (x ∷ xs) ys h k = (h.0, h.1, both h.0 t u xs ys h.2 k)

  pub one_more_taken : (text rest line next : List ℕ) (found : List Insn) (n : ℕ) (s t u : S) → TakenSoFar text rest s t n → lines_of rest ≡ line ∷ lines_of next → ListsLine line found → FoldsTo (TakesOne call) t found u
      → TakenSoFar text next s u (n + 1)
  one_more_taken text rest line next found n s t u before e h more =
      record {
        insns = before.insns ++ found;
        so_far = one_more text rest line next before.insns (before.insns ++ found) found n before.so_far e h refl;
        taken = both s t u before.insns found before.taken more;
      }

  pub all_taken : (text rest line : List ℕ) (found : List Insn) (n : ℕ) (s t u : S) → TakenSoFar text rest s t n → lines_of rest ≡ line ∷ [] → ListsLine line found → FoldsTo (TakesOne call) t found u → TookListed text s u
  all_taken text rest line found n s t u before e h more = (
    before.insns ++ found,
    at_the_end text rest line before.insns (before.insns ++ found) found n before.so_far e h refl,
    record { calls = both s t u before.insns found before.taken more },
  )

  module _ {T : Type 0} (items : S → List T) (spell : Insn → List T) where
    -- each call appends what `spell` gives for its instruction
    abbrev pub EachAppends : Type 0
    EachAppends = (v w : MutBor S) (i : Insn) → IsInsn i → call v i (Ok tt) w → items w.now ≡ items v.now ++ spell i

    appended : (s t : S) (insns : List Insn) → FoldsTo (TakesOne call) s insns t → EachAppends → items t ≡ items s ++ flat_map spell insns
    appended s t [] h each = sym (ap items h) ∙ sym (append-nil (items s))
    appended s t (i ∷ insns) h each =
        let w = h.1.1 in
        let first : items h.0 ≡ items s ++ spell i = ap items (sym w.3) ∙ each w.0 w.1 i h.1.0 w.4 ∙ ap (λ p. items p ++ spell i) w.2 in
        appended h.0 t insns h.2 each ∙ ap (λ x. x ++ flat_map spell insns) first ∙ append_assoc (items s) (spell i) (flat_map spell insns)

    -- from an empty sink
    pub listed_from_none : (text : List ℕ) (s t : S) → items s ≡ [] → TookListed text s t → EachAppends → (l : List Insn) × Lists text l × (items t ≡ flat_map spell l)
    listed_from_none text s t none (l, listed, took) each = (l, listed, appended s t l took.calls each ∙ ap (λ x. x ++ flat_map spell l) none)
