-- The fault of an input is unique.
use Rattle.std.proofs.Common.{◌≡◌, ℕ, suc, ◌+◌, true, List, [], ◌∷◌, ◌++◌, length, refl, sym, ap, ◌∙◌, subst}
use Rattle.std.specs.List.{AllZip, list_any}
use Rattle.std.proofs.lemmas.Bool.{false≢true}
use Rattle.bpf_insn.specs.declared.insn.Insn.{Insn}
use Rattle.bpf_text.specs.declared.insn.fault.LineCause.{LineCause, TheVariants.Char, TheVariants.Word, TheVariants.Shape, TheVariants.Range}
use Rattle.bpf_text.specs.{declared.insn.fault.LineFault.LineFault, insn.Tokens.code_of, insn.Tokens.is_stray, insn.Tokens.AreTokens}
use Rattle.bpf_text.specs.insn.Listing.{IsMnemonic, IsForm, IsCause, ListsLine, IsListFault}
use Rattle.bpf_text.proofs.InsnLemmas.{OneReading.one_tokens, Excludes.no_stray, Excludes.excludes}

-- ---- one cause

tokens_or_stray : (line : List ℕ) (ts : List (List ℕ)) → list_any is_stray (code_of line) ≡ true → AreTokens (code_of line) ts → ⊥
tokens_or_stray line ts stray h = false≢true (sym (no_stray (code_of line) ts h) ∙ stray)

-- the first token of a line is unique, and so is the list of tokens after it
module _ (line word word' : List ℕ) (ts ts' : List (List ℕ)) (h : AreTokens (code_of line) (word ∷ ts)) (k : AreTokens (code_of line) (word' ∷ ts')) where
  same_mnemonic : word ≡ word'
  same_mnemonic = let same : word ∷ ts ≡ word' ∷ ts' = one_tokens (code_of line) (word ∷ ts) (word' ∷ ts') h k in cc

  same_tokens : ts ≡ ts'
  same_tokens = let same : word ∷ ts ≡ word' ∷ ts' = one_tokens (code_of line) (word ∷ ts) (word' ∷ ts') h k in cc

  pub mnemonic_or_none : ¬ IsMnemonic word → IsMnemonic word' → ⊥
  mnemonic_or_none none w = none (subst (λ (x : List ℕ). IsMnemonic x) (sym same_mnemonic) w)

  pub form_or_none : ¬ IsForm word ts → IsForm word' ts' → ⊥
  form_or_none none w =
      none (subst (λ (x : List ℕ). IsForm x ts) (sym same_mnemonic) (subst (λ (x : List (List ℕ)). IsForm word' x) (sym same_tokens) w))

mnemonic_of_form : (word : List ℕ) (ts : List (List ℕ)) → IsForm word ts → IsMnemonic word
mnemonic_of_form word ts form = (form.0, form.1, form.2)

one_cause : (line : List ℕ) (c d : LineCause) → IsCause line c → IsCause line d → c ≡ d
one_cause line Char Char h k = refl
one_cause line Char _ h k = absurd (tokens_or_stray line (k.0 ∷ k.1) h k.2)
one_cause line _ Char h k = absurd (tokens_or_stray line (h.0 ∷ h.1) k h.2)
one_cause line Word Word h k = refl
one_cause line Word Shape h k = absurd (mnemonic_or_none line h.0 k.0 h.1 k.1 h.2 k.2 h.3 k.3)
one_cause line Word Range h k = absurd (mnemonic_or_none line h.0 k.0 h.1 k.1 h.2 k.2 h.3 (mnemonic_of_form k.0 k.1 k.3))
one_cause line Shape Word h k = absurd (mnemonic_or_none line k.0 h.0 k.1 h.1 k.2 h.2 k.3 h.3)
one_cause line Shape Shape h k = refl
one_cause line Shape Range h k = absurd (form_or_none line h.0 k.0 h.1 k.1 h.2 k.2 h.4 k.3)
one_cause line Range Word h k = absurd (mnemonic_or_none line k.0 h.0 k.1 h.1 k.2 h.2 k.3 (mnemonic_of_form h.0 h.1 h.3))
one_cause line Range Shape h k = absurd (form_or_none line k.0 h.0 k.1 h.1 k.2 h.2 k.4 h.3)
one_cause line Range Range h k = refl

-- ---- one line

abbrev ListsNothing : List ℕ → Type 0
ListsNothing line = (found : List Insn) → ¬ ListsLine line found

-- lines that each list something can't begin with a line that lists nothing
first_clash : (line x : List ℕ) (back rest : List (List ℕ)) (listed : List (List Insn)) → line ∷ back ≡ x ∷ rest → ListsNothing line → (front : List (List ℕ)) → AllZip ListsLine (x ∷ front) listed → ⊥
first_clash line x back rest [] e none front h = absurd h
first_clash line x back rest (f ∷ listed) e none front h = let same : line ≡ x = cc in none f (subst (λ (y : List ℕ). ListsLine y f) (sym same) h.0)

abbrev SamePlace : List (List ℕ) → List (List ℕ) → List ℕ → List ℕ → Type 0
SamePlace front front' line line' = (length front ≡ length front') × (line ≡ line')

one_place : (front front' back back' : List (List ℕ)) (line line' : List ℕ) (listed listed' : List (List Insn)) → front ++ line ∷ back ≡ front' ++ line' ∷ back'
    → AllZip ListsLine front listed → AllZip ListsLine front' listed' → ListsNothing line → ListsNothing line' → SamePlace front front' line line'
one_place [] [] back back' line line' listed listed' e h k none none' = (refl, (let same : line ∷ back ≡ line' ∷ back' = e in cc))
one_place [] (x ∷ front') back back' line line' listed listed' e h k none none' = absurd (first_clash line x back (front' ++ line' ∷ back') listed' e none front' k)
one_place (x ∷ front) [] back back' line line' listed listed' e h k none none' = absurd (first_clash line' x back' (front ++ line ∷ back) listed (sym e) none' front h)
one_place (x ∷ front) (y ∷ front') back back' line line' [] listed' e h k none none' = absurd h
one_place (x ∷ front) (y ∷ front') back back' line line' (f ∷ listed) [] e h k none none' = absurd k
one_place (x ∷ front) (y ∷ front') back back' line line' (f ∷ listed) (g ∷ listed') e h k none none' =
    let following : front ++ line ∷ back ≡ front' ++ line' ∷ back' = cc in
    let more = one_place front front' back back' line line' listed listed' following h.1 k.1 none none' in
    (ap suc more.0, more.1)

abbrev fault_at : ℕ → LineCause → LineFault
fault_at n c = record { line = n; cause = c }

pub one_fault : (text : List ℕ) (f g : LineFault) → IsListFault text f → IsListFault text g → f ≡ g
one_fault text f g h k =
    let place = one_place h.front k.front h.back k.back h.line k.line h.before.0 k.before.0 (sym h.lines ∙ k.lines) h.before.1 k.before.1 (λ found. excludes h.line f.cause found h.cause) (λ found. excludes k.line g.cause found k.cause) in
    let number : f.line ≡ g.line = h.line_number ∙ ap (λ n. n + 1) place.0 ∙ sym k.line_number in
    let cause : f.cause ≡ g.cause = one_cause h.line f.cause g.cause h.cause (subst (λ (x : List ℕ). IsCause x g.cause) (sym place.1) k.cause) in
    ap (λ n. fault_at n f.cause) number ∙ ap (fault_at g.line) cause
