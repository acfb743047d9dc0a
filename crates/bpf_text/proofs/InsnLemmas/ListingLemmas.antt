-- The lines that have been read so far.
use Rattle.std.proofs.Common.{◌≡◌, ℕ, ◌+◌, List, [], ◌∷◌, ◌++◌, Option, Some, None, MatchOption, Result, Ok, Err, MatchResult, not, length, get_or, take, drop, refl, sym, ap, ◌∙◌, arith, append_assoc, append-nil, length-append}
use Rattle.std.proofs.lemmas.{Bool.false_from_ne_true, Bool.not_from_false, Grind.get_or_default_zero}
use Rattle.std.specs.{Borrow.Bor, Result.IsErrAnd, List.AllZip, List.flat_map, List.position_or_len, List.after_first}
use Rattle.memchr.specs.Find.{Nowhere, NoneBefore, Passes, is_byte}
use Rattle.bpf_insn.specs.declared.insn.Insn.{Insn}
use Rattle.bpf_text.specs.insn.{Tokens.is_newline, Reading.RefusesText, Reading.RefusesLine, Listing.lines_of, Listing.ListsLine, Listing.Lists}
use Rattle.bpf_text.specs.declared.insn.fault.ListError.{ListError, TheVariants.Fault, TheVariants.Memory}
use Rattle.std.proofs.lemmas.List.{Concat.flat_map-append, Splits.slice_split_none, Splits.slice_split_first}
use Rattle.bpf_text.proofs.InsnLemmas.ZipLemmas.{zip_push}
use Rattle.bpf_text.proofs.InsnLemmas.TokenLemmas.{run_found}

-- the lines before the rest list the instructions, and the rest begins with line number n
pub record ReadSoFar (text rest : List ℕ) (insns : List Insn) (n : ℕ) : Type 0 where
  pub front : List (List ℕ)
  pub listed : List (List Insn)
  pub lines : lines_of text ≡ front ++ lines_of rest
  pub each : AllZip ListsLine front listed
  pub whole : insns ≡ flat_map (λ found. found) listed
  pub line_number : n ≡ length front + 1

-- an input whose first newline is at this index
pub ends_at : (text : List ℕ) (end : ℕ) → NoneBefore (Passes (is_byte 10) text) 0 (length text) end × Passes (is_byte 10) text end → lines_of text ≡ take end text ∷ lines_of (drop (end + 1) text)
ends_at text end h =
    let line_number : end ≡ position_or_len is_newline text = run_found (λ b. not (is_newline b)) text end h.0.high (λ k l. not_from_false (is_newline (get_or text k 0)) (false_from_ne_true (is_newline (get_or text k 0)) (h.0.before k (omega arith) l))) (ap not h.1) in
    let after : drop (end + 1) text ≡ after_first is_newline text = ap (λ n. drop (n + 1) text) line_number in
    rw (after, line_number) (slice_split_first is_newline text 0 (omega (arith, h.0.high, line_number)))

-- an input without a newline is one line
pub ends_nowhere : (text : List ℕ) → Nowhere (Passes (is_byte 10) text) 0 (length text) → lines_of text ≡ text ∷ []
ends_nowhere text h = slice_split_none is_newline text (λ k d l. ap is_newline (get_or_default_zero text k d l) ∙ false_from_ne_true (is_newline (get_or text k 0)) (h k (omega arith) l))

-- in both cases the input begins with a line
pub line_first : (text line : List ℕ) (following : Option (Bor (List ℕ))) → MatchOption following (lines_of text ≡ line ∷ []) (λ b. lines_of text ≡ line ∷ lines_of b.now) → (back : List (List ℕ)) × (lines_of text ≡ line ∷ back)
line_first text line None h = ([], h)
line_first text line (Some b) h = (lines_of b.now, h)

joined : (listed : List (List Insn)) (found : List Insn) → flat_map (λ f. f) (listed ++ found ∷ []) ≡ flat_map (λ f. f) listed ++ found
joined listed found = flat_map-append (λ f. f) listed (found ∷ []) ∙ ap (λ x. flat_map (λ f. f) listed ++ x) (append-nil found)

pub starts : (text : List ℕ) (insns : List Insn) → insns ≡ [] → ReadSoFar text text insns 1
starts text insns e = record { front = []; listed = []; lines = refl; each = tt; whole = e; line_number = refl }

pub one_more : (text rest line next : List ℕ) (insns more found : List Insn) (n : ℕ) → ReadSoFar text rest insns n → lines_of rest ≡ line ∷ lines_of next → ListsLine line found → more ≡ insns ++ found
    → ReadSoFar text next more (n + 1)
one_more text rest line next insns more found n s e h f =
    record {
      front = s.front ++ line ∷ [];
      listed = s.listed ++ found ∷ [];
      lines = s.lines ∙ ap (λ x. s.front ++ x) e ∙ sym (append_assoc s.front (line ∷ []) (lines_of next));
      each = zip_push ListsLine s.front s.listed line found s.each h;
      whole = f ∙ ap (λ x. x ++ found) s.whole ∙ sym (joined s.listed found);
      line_number = omega (arith, s.line_number, length-append s.front (line ∷ []));
    }

pub at_the_end : (text rest line : List ℕ) (insns more found : List Insn) (n : ℕ) → ReadSoFar text rest insns n → lines_of rest ≡ line ∷ [] → ListsLine line found → more ≡ insns ++ found → Lists text more
at_the_end text rest line insns more found n s e h f =
    record {
      listed = s.listed ++ found ∷ [];
      each = rw (s.lines, e) (zip_push ListsLine s.front s.listed line found s.each h);
      whole = f ∙ ap (λ x. x ++ found) s.whole ∙ sym (joined s.listed found);
    }

pub at_a_fault : {T : Type 0} (P : T → Type 0) (text rest line : List ℕ) (following : Option (Bor (List ℕ))) (insns : List Insn) (n : ℕ) (e : ListError) (r : Result T ListError)
    → ReadSoFar text rest insns n → MatchOption following (lines_of rest ≡ line ∷ []) (λ b. lines_of rest ≡ line ∷ lines_of b.now) → RefusesLine line n e
    → IsErrAnd r (λ x. x ≡ e) → MatchResult r P (RefusesText text)
at_a_fault P text rest line following insns n e (Ok x) s m refuses same = absurd same
at_a_fault P text rest line following insns n (Fault fault) (Err reported) s m refuses same = rw same (record {
  front = s.front;
  line = line;
  back = (line_first rest line following m).0;
  lines = s.lines ∙ ap (λ x. s.front ++ x) (line_first rest line following m).1;
  before = (s.listed, s.each);
  line_number = refuses.0 ∙ s.line_number;
  cause = refuses.1;
})
at_a_fault P text rest line following insns n Memory (Err reported) s m refuses same = absurd refuses
