-- A faulty line lists nothing.
use Rattle.std.proofs.Common.{◌≡◌, ℕ, Bool, true, false, not, ◌||◌, List, [], ◌∷◌, ◌++◌, ◌⊎◌, inl, inr, refl, sym, ap, ◌∙◌, Result, Ok, Err, MatchResult}
use Rattle.std.specs.{Result.IsErrAnd, List.list_any, List.list_all}
use Rattle.std.proofs.lemmas.{Bool.and_parts, Bool.or_from, Bool.false≢true, List.Folds.list_any-append}
use Rattle.bpf_insn.specs.declared.insn.Insn.{Insn}
use Rattle.bpf_text.specs.declared.insn.fault.LineCause.{LineCause, TheVariants.Char, TheVariants.Word, TheVariants.Shape, TheVariants.Range}
use Rattle.bpf_text.specs.declared.insn.fault.{ListError.ListError, ListError.TheVariants.Fault, ListError.TheVariants.Memory, LineFault.LineFault}
use Rattle.bpf_text.specs.insn.{Table.operands_of, Reading.RefusesText}
use Rattle.bpf_text.specs.insn.Tokens.{code_of, is_blank, is_word_byte, is_symbol, is_stray, IsTokenBefore, AreTokens}
use Rattle.bpf_text.specs.insn.Listing.{IsTokenForm, ListsLine, IsCause, Lists, IsListFault}
use Rattle.bpf_text.proofs.InsnLemmas.ZipLemmas.{zip_at}
use Rattle.bpf_text.proofs.InsnLemmas.OneReading.{one_tokens}

known : (a b c : Bool) → (a ≡ true) ⊎ (b ≡ true) ⊎ (c ≡ true) → not (a || b || c) ≡ false
known true b c h = refl
known false true c h = refl
known false false true h = refl
known false false false h = elim h [ inl e ↦ absurd (false≢true e) | inr e ↦ elim e [ inl f ↦ absurd (false≢true f) | inr f ↦ absurd (false≢true f) ] ]

none_of : (p : ℕ → Bool) → ((b : ℕ) → p b ≡ true → is_stray b ≡ false) → (xs : List ℕ) → list_all p xs ≡ true → list_any is_stray xs ≡ false
none_of p each [] h = refl
none_of p each (x ∷ xs) h =
    let passed = and_parts (p x) (list_all p xs) h in
    or_from (is_stray x) (list_any is_stray xs) (each x passed.0) (none_of p each xs passed.1)

blank_known : (b : ℕ) → is_blank b ≡ true → is_stray b ≡ false
blank_known b h = known (is_blank b) (is_word_byte b) (is_symbol b) (inl h)

mnemonic_known : (b : ℕ) → is_word_byte b ≡ true → is_stray b ≡ false
mnemonic_known b h = known (is_blank b) (is_word_byte b) (is_symbol b) (inr (inl h))

symbol_known : (b : ℕ) → is_symbol b ≡ true → is_stray b ≡ false
symbol_known b h = known (is_blank b) (is_word_byte b) (is_symbol b) (inr (inr h))

token_known : (token rest : List ℕ) → IsTokenBefore token rest → list_any is_stray token ≡ false
token_known token rest (inl h) = none_of is_word_byte mnemonic_known token h.1
token_known token rest (inr h) = rw h.1 (or_from (is_stray h.0) false (symbol_known h.0 h.2) refl)

pub no_stray : (bytes : List ℕ) (ts : List (List ℕ)) → AreTokens bytes ts → list_any is_stray bytes ≡ false
no_stray bytes [] h = none_of is_blank blank_known bytes h
no_stray bytes (t ∷ ts) h =
    let s = h.1 in
    let blanks : list_any is_stray s.blanks ≡ false = none_of is_blank blank_known s.blanks s.blank in
    let front : list_any is_stray (s.blanks ++ t) ≡ false = list_any-append is_stray s.blanks t ∙ or_from (list_any is_stray s.blanks) (list_any is_stray t) blanks (token_known t h.0 s.longest) in
    ap (list_any is_stray) s.whole ∙ list_any-append is_stray (s.blanks ++ t) h.0 ∙ or_from (list_any is_stray (s.blanks ++ t)) (list_any is_stray h.0) front (no_stray h.0 ts h.2)

some_tokens : (line : List ℕ) (f : List Insn) → ListsLine line f → (ts : List (List ℕ)) × AreTokens (code_of line) ts
some_tokens line [] h = ([], h)
some_tokens line (i ∷ []) h = (h.1.0, h.1.1)
some_tokens line (i ∷ j ∷ more) h = absurd h

form_of : (line word : List ℕ) (ts : List (List ℕ)) (i : Insn) → AreTokens (code_of line) (word ∷ ts) → ListsLine line (i ∷ []) → IsTokenForm (word ∷ ts) i
form_of line word ts i t h =
    let same = one_tokens (code_of line) h.1.0 (word ∷ ts) h.1.1 t in rw same at h.1.2

none_there : (line word : List ℕ) (ts : List (List ℕ)) → AreTokens (code_of line) (word ∷ ts) → AreTokens (code_of line) [] → ⊥
none_there line word ts t h =
    let same = one_tokens (code_of line) (word ∷ ts) [] t h in cc

pub excludes : (line : List ℕ) (c : LineCause) (f : List Insn) → IsCause line c → ListsLine line f → ⊥
excludes line Char f c h = let t = some_tokens line f h in false≢true (sym (no_stray (code_of line) t.0 t.1) ∙ c)
excludes line _ [] c h = none_there line c.0 c.1 c.2 h
excludes line Word (i ∷ []) c h = c.3 (i, h.0, (form_of line c.0 c.1 i c.2 h).0)
excludes line Shape (i ∷ []) c h = let form = form_of line c.0 c.1 i c.2 h in c.4 (i, h.0, form.0, (operands_of i, refl, form.1))
excludes line Range (i ∷ []) c h = c.4 i h.0 (form_of line c.0 c.1 i c.2 h)
excludes line _ (i ∷ j ∷ more) c h = h

pub no_listing : (text : List ℕ) (fault : LineFault) (l : List Insn) → IsListFault text fault → Lists text l → ⊥
no_listing text fault l h k =
    let w = zip_at ListsLine h.front h.line h.back k.listed (rw h.lines at k.each) in
    excludes h.line fault.cause w.0 h.cause w.1

-- ---- what an error says

-- a listing is refused only if memory runs out
pub only_memory : {T : Type 0} (P : T → Type 0) (text : List ℕ) (e : ListError) (r : Result T ListError) → IsErrAnd r (λ x. x ≡ e) → RefusesText text e → (l : List Insn) → Lists text l
    → MatchResult r P (λ x. x ≡ Memory)
only_memory P text e (Ok v) same h l k = absurd same
only_memory P text (Fault fault) (Err reported) same h l k = absurd (no_listing text fault l h k)
only_memory P text Memory (Err reported) same h l k = same
