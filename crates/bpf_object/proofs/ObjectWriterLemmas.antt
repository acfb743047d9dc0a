-- The steps of a file that is written section by section, with the offsets of all strings that it will have.
use Rattle.std.proofs.Common.{◌≡◌, ℕ, zero, suc, ◌+◌, ◌<◌, ◌≤◌, Bool, true, false, inl, inr, Result, Ok, Err, MatchResult, List, [], ◌∷◌, ◌++◌, length, map, refl, sym, ap, ◌∙◌, subst, append-nil, append_assoc, length-append, add-one, arith}
use Rattle.std.specs.Prelude.{IsErr, IsErrAnd, if◌then◌else◌}
use Rattle.std.specs.List.{flat_map}
use Rattle.std.proofs.lemmas.Bool.{cases_lt}
use Rattle.std.proofs.lemmas.Bool.Decides.{nat_tests}
use Rattle.std.proofs.lemmas.List.{map-append, Concat.flat_map-append}
use Rattle.btf_types.specs.Names.{kept, with_nul, table_of}
use Rattle.bpf_canon.specs.btf.strings.DistinctNames.{distinct_offset}
use Rattle.bpf_canon.proofs.BtfLemmas.Names.{HostSteps.kept_again}
use Rattle.bpf_canon.proofs.BtfLemmas.Strings.FirstUseSteps.{same_push}
use Rattle.bpf_object.specs.declared.fault.ObjectError.{ObjectError}
use Rattle.bpf_object.specs.declared.fault.ObjectError.TheVariants as errors
use Rattle.bpf_object.specs.Canonical.{strings_of, offset_of, written_section, symbol_bytes}
use Rattle.bpf_object.specs.Kept.{listed, is_kept_section, kept_section, kept_symbol}
use Rattle.bpf_object.specs.Objects.{KeptSection, KeptSymbol}
use Rattle.bpf_elf.specs.{Numbers.order_of, Sections.name, Symbols.is_kept_symbol, Symbols.symbol_name}
use Rattle.bpf_object.specs.File.{WrittenSection}
use Rattle.bpf_object.specs.private.FileOf.{is_small_file, contents, padded}
use Rattle.bpf_object.specs.private.FileWriter.{FileSoFar, Holds, FailsToHold}
use Rattle.bpf_object.specs.private.Names.{Strings, Adds, FailsToAdd, Extends}
use Rattle.bpf_object.specs.private.ObjectWriter.{FailsToWrite, HasWritten, Writes, name_if, written_if, section_names, written_first, HasRows, WritesRows, symbol_name_if, symbol_if, symbol_names, symbols_first}
use Rattle.bpf_object.proofs.NamesLemmas.{extends_less, added_later}

-- ---- lists of strings

-- a list that begins with the strings of a longer table begins with those of a shorter one
pub extends_part : (all xs ys : List (List ℕ)) → Extends all (kept (xs ++ ys)) → Extends all (kept xs)
extends_part all xs [] more = subst (λ (l : List (List ℕ)). Extends all (kept l)) (append-nil xs) more
extends_part all xs (y ∷ ys) more =
    let longer = extends_part all (xs ++ y ∷ []) ys (subst (λ (l : List (List ℕ)). Extends all (kept l)) (sym (append_assoc xs (y ∷ []) ys)) more) in
    extends_less all (kept xs) y (kept_again xs) (subst (Extends all) (sym (same_push (kept xs) xs y (kept_again xs))) longer)

pub extends_own : (xs : List (List ℕ)) → Extends xs (kept xs)
extends_own xs = ([], sym (append-nil (kept xs)))

-- a table isn't shorter than with fewer strings
pub strings_past : (limit : ℕ) (all ks : List (List ℕ)) → limit < length (table_of ks) → Extends all ks → limit < length (strings_of all)
strings_past limit all ks past (rest, e) =
    omega (arith, past, ap (λ (l : List (List ℕ)). length (table_of l)) e, ap (λ (l : List ℕ). length l) (flat_map-append with_nul ks rest), length-append (flat_map with_nul ks) (flat_map with_nul rest))

-- ---- files

-- a file isn't smaller with more sections
pub large_more : (limit : ℕ) (xs ys : List WrittenSection) → is_small_file limit xs ≡ false → is_small_file limit (xs ++ ys) ≡ false
large_more limit xs ys large =
    let longer = ap (λ (l : List ℕ). length l) (flat_map-append (λ (s : WrittenSection). padded s.content) xs ys) in
    let sum = length-append (contents xs) (contents ys) in
    let count = length-append xs ys in
    grind (arith, nat_tests)

pub fails_more : (limit : ℕ) (all : List (List ℕ)) (xs ys : List WrittenSection) (e : ObjectError) → FailsToWrite limit all xs e → FailsToWrite limit all (xs ++ ys) e
fails_more limit all xs ys (errors.Fault fault) f = (elim f.0 [ inl large ↦ inl (large_more limit xs ys large) | inr long ↦ inr long ], f.1)
fails_more limit all xs ys errors.Memory f = f

pub fails_held : (limit : ℕ) (all : List (List ℕ)) (ss : List WrittenSection) (e : ObjectError) → FailsToHold limit ss e → FailsToWrite limit all ss e
fails_held limit all ss (errors.Fault fault) f = (inl f.0, f.1)
fails_held limit all ss errors.Memory f = f

pub fails_added : (limit : ℕ) (all : List (List ℕ)) (old : Strings) (x : List ℕ) (ss : List WrittenSection) (e : ObjectError) → old.limit ≡ limit → Extends all (kept (old.texts ++ x ∷ [])) → FailsToAdd old x e → FailsToWrite limit all ss e
fails_added limit all old x ss (errors.Fault fault) same more f = (inr (strings_past limit all (kept (old.texts ++ x ∷ [])) (subst (λ (n : ℕ). n < length (table_of (kept (old.texts ++ x ∷ [])))) same f.0) more), f.1)
fails_added limit all old x ss errors.Memory same more f = f

-- ---- one section

same_offset : (all : List (List ℕ)) (x : List ℕ) → distinct_offset all x ≡ offset_of all x
same_offset all [] = refl
same_offset all (b ∷ x) = refl

pub offset_there : (old new : Strings) (x : List ℕ) (offset : ℕ) (all : List (List ℕ)) → Adds old new x offset → Extends all (kept (old.texts ++ x ∷ [])) → offset ≡ offset_of all x
offset_there old new x offset all adds more = added_later old new x offset all adds (subst (Extends all) (sym adds.texts) more) ∙ same_offset all x

pub pushed_one : {A : Type 0} (limit : ℕ) (all : List (List ℕ)) (old_names new_names : Strings) (x : List ℕ) (offset : ℕ) (old new : FileSoFar) (s w : WrittenSection) (r : Result A ObjectError) → Adds old_names new_names x offset → s ≡ w
    → ((ss : List WrittenSection) → Holds limit ss old → MatchResult r (λ _. Holds limit (ss ++ s ∷ []) new × (new.order ≡ old.order)) (FailsToHold limit (ss ++ s ∷ [])))
    → MatchResult r (λ _. HasWritten limit (x ∷ []) (w ∷ []) old_names new_names old new) (λ e. (before : List WrittenSection) → Holds limit before old → FailsToWrite limit all (before ++ w ∷ []) e)
pushed_one limit all old_names new_names x offset old new s w (Ok u) adds same pushed = record {
  texts = ap kept adds.texts ∙ kept_again (old_names.texts ++ x ∷ []);
  source = adds.source;
  limit_is = adds.limit;
  held = λ ss h. subst (λ (t : WrittenSection). Holds limit (ss ++ t ∷ []) new × (new.order ≡ old.order)) same (pushed ss h);
}
pushed_one limit all old_names new_names x offset old new s w (Err e) adds same pushed =
    λ ss h. fails_held limit all (ss ++ w ∷ []) e (subst (λ (t : WrittenSection). FailsToHold limit (ss ++ t ∷ []) e) same (pushed ss h))

-- a string that couldn't be added
pub failed_one : {A : Type 0} (r : Result A ObjectError) (P Q : ObjectError → Type 0) (R : A → Type 0) → IsErr r → IsErrAnd r P → ((e : ObjectError) → P e → Q e) → MatchResult r R Q
failed_one (Ok u) P Q R is and f = absurd (let e = is in cc)
failed_one (Err e) P Q R is and f = f e and

-- ---- one part after another

pub same_more : (xs ys zs : List (List ℕ)) → kept xs ≡ kept ys → kept (xs ++ zs) ≡ kept (ys ++ zs)
same_more xs ys [] e = rw (append-nil xs, append-nil ys) e
same_more xs ys (z ∷ zs) e =
    ap kept (sym (append_assoc xs (z ∷ []) zs)) ∙ same_more (xs ++ z ∷ []) (ys ++ z ∷ []) zs (same_push xs ys z e)
    ∙ ap kept (append_assoc ys (z ∷ []) zs)

pub none_written : (limit : ℕ) (names : Strings) (file : FileSoFar) → HasWritten limit [] [] names names file file
none_written limit names file = record {
  texts = ap kept (sym (append-nil names.texts));
  source = refl;
  limit_is = refl;
  held = λ ss h. (subst (λ (l : List WrittenSection). Holds limit l file) (sym (append-nil ss)) h, refl);
}

module _ (limit : ℕ) (all xs ys : List (List ℕ)) (ss ts : List WrittenSection) (n0 n1 : Strings) (f0 f1 : FileSoFar) (first : HasWritten limit xs ss n0 n1 f0 f1) where
  strings_after : kept (n1.texts ++ ys) ≡ kept (n0.texts ++ (xs ++ ys))
  strings_after = same_more n1.texts (n0.texts ++ xs) ys first.texts ∙ ap kept (append_assoc n0.texts xs ys)

  pub extends_after : Extends all (kept (n0.texts ++ (xs ++ ys))) → Extends all (kept (n1.texts ++ ys))
  extends_after more = subst (Extends all) (sym strings_after) more

  pub both_written : (n2 : Strings) (f2 : FileSoFar) → HasWritten limit ys ts n1 n2 f1 f2 → HasWritten limit (xs ++ ys) (ss ++ ts) n0 n2 f0 f2
  both_written n2 f2 second = record {
    texts = second.texts ∙ strings_after;
    source = second.source ∙ first.source;
    limit_is = second.limit_is ∙ first.limit_is;
    held = λ before h.
        let a = first.held before h in
        let c = second.held (before ++ ss) a.0 in
        (subst (λ (l : List WrittenSection). Holds limit l f2) (append_assoc before ss ts) c.0, c.1 ∙ a.1);
  }

  pub second_fails : (rest : List WrittenSection) (e : ObjectError) → ((before : List WrittenSection) → Holds limit before f1 → FailsToWrite limit all (before ++ ts) e)
      → (before : List WrittenSection) → Holds limit before f0 → FailsToWrite limit all (before ++ ((ss ++ ts) ++ rest)) e
  second_fails rest e fails before h =
      subst (λ (l : List WrittenSection). FailsToWrite limit all l e) (append_assoc (before ++ ss) ts rest ∙ append_assoc before ss (ts ++ rest) ∙ ap (λ (l : List WrittenSection). before ++ l) (sym (append_assoc ss ts rest)))
      (fails_more limit all ((before ++ ss) ++ ts) rest e (fails (before ++ ss) (first.held before h).0))

  pub both_result : {A : Type 0} (n2 : Strings) (f2 : FileSoFar) (r : Result A ObjectError)
      → MatchResult r (λ _. HasWritten limit ys ts n1 n2 f1 f2) (λ e. (before : List WrittenSection) → Holds limit before f1 → FailsToWrite limit all (before ++ ts) e)
      → MatchResult r (λ _. HasWritten limit (xs ++ ys) (ss ++ ts) n0 n2 f0 f2) (λ e. (before : List WrittenSection) → Holds limit before f0 → FailsToWrite limit all (before ++ (ss ++ ts)) e)
  both_result n2 f2 (Ok u) second = both_written n2 f2 second
  both_result n2 f2 (Err e) fails = λ before h. subst (λ (l : List WrittenSection). FailsToWrite limit all l e) (append_assoc before ss ts) (fails (before ++ ss) (first.held before h).0)

-- whatever the strings will be
module _ (limit : ℕ) (xs ys : List (List ℕ)) (s t : (List ℕ → ℕ) → List WrittenSection) (n0 : Strings) (f0 : FileSoFar) where
  only_first : (all : List (List ℕ)) → Extends all (kept (n0.texts ++ (xs ++ ys))) → Extends all (kept (n0.texts ++ xs))
  only_first all more = extends_part all (n0.texts ++ xs) ys (subst (λ (l : List (List ℕ)). Extends all (kept l)) (sym (append_assoc n0.texts xs ys)) more)

  pub writes_both : {A : Type 0} (n1 n2 : Strings) (f1 f2 : FileSoFar) (r : Result A ObjectError) → n0.limit ≡ limit
      → ((all : List (List ℕ)) → Extends all (kept (n0.texts ++ xs)) → HasWritten limit xs (s (offset_of all)) n0 n1 f0 f1) → Writes n1.limit ys t n1 n2 f1 f2 r
      → Writes limit (xs ++ ys) (λ place. s place ++ t place) n0 n2 f0 f2 r
  writes_both n1 n2 f1 f2 r same first second all more =
      let one = first all (only_first all more) in
      let two = subst (λ (l : ℕ). Writes l ys t n1 n2 f1 f2 r) (one.limit_is ∙ same) second in
      both_result limit all xs ys (s (offset_of all)) (t (offset_of all)) n0 n1 f0 f1 one n2 f2 r
      (two all (extends_after limit all xs ys (s (offset_of all)) (t (offset_of all)) n0 n1 f0 f1 one more))

  pub first_fails : (e : ObjectError)
      → ((all : List (List ℕ)) → Extends all (kept (n0.texts ++ xs)) → (before : List WrittenSection) → Holds limit before f0 → FailsToWrite limit all (before ++ s (offset_of all)) e)
      → (all : List (List ℕ)) → Extends all (kept (n0.texts ++ (xs ++ ys))) → (before : List WrittenSection) → Holds limit before f0
      → FailsToWrite limit all (before ++ (s (offset_of all) ++ t (offset_of all))) e
  first_fails e fails all more before h =
      subst (λ (l : List WrittenSection). FailsToWrite limit all l e) (append_assoc before (s (offset_of all)) (t (offset_of all)))
      (fails_more limit all (before ++ s (offset_of all)) (t (offset_of all)) e (fails all (only_first all more) before h))

-- ---- the sections before a number

pub listed_part : {A : Type 0} (test : ℕ → Bool) (f : ℕ → A) (i n : ℕ) → i ≤ n → (rest : List A) × (listed test f n ≡ listed test f i ++ rest)
listed_part test f i zero le = let same : zero ≡ i = omega (arith, le) in ([], subst (λ (k : ℕ). listed test f zero ≡ listed test f k ++ []) same refl)
listed_part test f i (suc n) le = elim (cases_lt n i) [
  | inl above ↦ let same : suc n ≡ i = omega (arith, le, above) in ([], subst (λ (k : ℕ). listed test f (suc n) ≡ listed test f k ++ []) same (sym (append-nil (listed test f (suc n)))))
  | inr below ↦
      let before = listed_part test f i n below in
      (before.0 ++ (if test n then f n ∷ [] else []), ap (λ l. l ++ (if test n then f n ∷ [] else [])) before.1 ∙ append_assoc (listed test f i) before.0 (if test n then f n ∷ [] else []))
]

module _ (b : List ℕ) where
  pub names_next : (i : ℕ) → section_names b (i + 1) ≡ section_names b i ++ name_if b i
  names_next i = rw add-one (map-append (λ (s : KeptSection). s.name) (listed (is_kept_section b) (kept_section b) i) (if is_kept_section b i then kept_section b i ∷ [] else []))

  pub written_next : (link i : ℕ) (place : List ℕ → ℕ) → written_first b link (i + 1) place ≡ written_first b link i place ++ written_if b link i place
  written_next link i place = rw add-one (map-append (written_section (order_of b) place link) (listed (is_kept_section b) (kept_section b) i) (if is_kept_section b i then kept_section b i ∷ [] else []))

  pub names_part : (i n : ℕ) → i ≤ n → (rest : List (List ℕ)) × (section_names b n ≡ section_names b i ++ rest)
  names_part i n le =
      let p = listed_part (is_kept_section b) (kept_section b) i n le in
      (map (λ (s : KeptSection). s.name) p.0, ap (map (λ (s : KeptSection). s.name)) p.1 ∙ map-append (λ (s : KeptSection). s.name) (listed (is_kept_section b) (kept_section b) i) p.0)

  pub written_part : (link : ℕ) (place : List ℕ → ℕ) (i n : ℕ) → i ≤ n → (rest : List WrittenSection) × (written_first b link n place ≡ written_first b link i place ++ rest)
  written_part link place i n le =
      let p = listed_part (is_kept_section b) (kept_section b) i n le in (
        map (written_section (order_of b) place link) p.0,
        ap (map (written_section (order_of b) place link)) p.1 ∙ map-append (written_section (order_of b) place link) (listed (is_kept_section b) (kept_section b) i) p.0,
      )

  pub kept_written : {A : Type 0} (limit link i : ℕ) (n0 n1 : Strings) (f0 f1 : FileSoFar) (r : Result A ObjectError) → is_kept_section b i ≡ true
      → Writes limit (name b i ∷ []) (λ place. written_section (order_of b) place link (kept_section b i) ∷ []) n0 n1 f0 f1 r → Writes limit (name_if b i) (written_if b link i) n0 n1 f0 f1 r
  kept_written limit link i n0 n1 f0 f1 r e w =
      subst (λ (k : Bool). Writes limit (map (λ (s : KeptSection). s.name) (if k then kept_section b i ∷ [] else [])) (λ place. map (written_section (order_of b) place link) (if k then kept_section b i ∷ [] else [])) n0 n1 f0 f1 r)
      (sym e) w

-- ---- the loop over sections

-- the kept ones among the first i sections are written
abbrev pub WrittenTo : ℕ → List ℕ → ℕ → Strings → Strings → FileSoFar → FileSoFar → ℕ → Type 0
WrittenTo limit b link n0 n f0 f i = (all : List (List ℕ)) → Extends all (kept (n0.texts ++ section_names b i)) → HasWritten limit (section_names b i) (written_first b link i (offset_of all)) n0 n f0 f

module _ (limit : ℕ) (b : List ℕ) (link : ℕ) (n0 n : Strings) (f0 f : FileSoFar) (i : ℕ) (to : WrittenTo limit b link n0 n f0 f i) where
  own : HasWritten limit (section_names b i) (written_first b link i (offset_of (n0.texts ++ section_names b i))) n0 n f0 f
  own = to (n0.texts ++ section_names b i) (extends_own (n0.texts ++ section_names b i))

  pub same_source : n.source ≡ n0.source
  same_source = own.source

  pub same_limit : n.limit ≡ n0.limit
  same_limit = own.limit_is

  one_names : (all : List (List ℕ)) → Extends all (kept (n0.texts ++ section_names b (i + 1))) → Extends all (kept (n0.texts ++ (section_names b i ++ name_if b i)))
  one_names all more = subst (λ (l : List (List ℕ)). Extends all (kept (n0.texts ++ l))) (names_next b i) more

  first_names : (all : List (List ℕ)) → Extends all (kept (n0.texts ++ section_names b (i + 1))) → Extends all (kept (n0.texts ++ section_names b i))
  first_names all more =
      extends_part all (n0.texts ++ section_names b i) (name_if b i) (subst (λ (l : List (List ℕ)). Extends all (kept l)) (sym (append_assoc n0.texts (section_names b i) (name_if b i))) (one_names all more))

  -- one more is written
  pub written_more : (n2 : Strings) (f2 : FileSoFar)
      → ((all : List (List ℕ)) → Extends all (kept (n.texts ++ name_if b i)) → HasWritten limit (name_if b i) (written_if b link i (offset_of all)) n n2 f f2) → WrittenTo limit b link n0 n2 f0 f2 (i + 1)
  written_more n2 f2 one all more =
      let first = to all (first_names all more) in
      let second = one all (extends_after limit all (section_names b i) (name_if b i) (written_first b link i (offset_of all)) (written_if b link i (offset_of all)) n0 n f0 f first (one_names all more)) in
      let both = both_written limit all (section_names b i) (name_if b i) (written_first b link i (offset_of all)) (written_if b link i (offset_of all)) n0 n f0 f first n2 f2 second in
      subst (λ (l : List (List ℕ)). HasWritten limit l (written_first b link (i + 1) (offset_of all)) n0 n2 f0 f2) (sym (names_next b i))
      (subst (λ (ws : List WrittenSection). HasWritten limit (section_names b i ++ name_if b i) ws n0 n2 f0 f2) (sym (written_next b link i (offset_of all))) both)

  -- or the file can't be written
  pub fails_at : (count : ℕ) (e : ObjectError) (all : List (List ℕ)) → i + 1 ≤ count → Extends all (kept (n0.texts ++ section_names b count))
      → ((any : List (List ℕ)) → Extends any (kept (n.texts ++ name_if b i)) → (before : List WrittenSection) → Holds limit before f → FailsToWrite limit any (before ++ written_if b link i (offset_of any)) e)
      → (before : List WrittenSection) → Holds limit before f0 → FailsToWrite limit all (before ++ written_first b link count (offset_of all)) e
  fails_at count e all low more fails before h =
      let names = names_part b (i + 1) count low in
      let rest = written_part b link (offset_of all) (i + 1) count low in
      let nearer = extends_part all (n0.texts ++ section_names b (i + 1)) names.0
      (subst (λ (l : List (List ℕ)). Extends all (kept l)) (ap (λ (l : List (List ℕ)). n0.texts ++ l) names.1 ∙ sym (append_assoc n0.texts (section_names b (i + 1)) names.0)) more) in
      let first = to all (first_names all nearer) in
      let after = extends_after limit all (section_names b i) (name_if b i) (written_first b link i (offset_of all)) (written_if b link i (offset_of all)) n0 n f0 f first (one_names all nearer) in
      subst (λ (ws : List WrittenSection). FailsToWrite limit all (before ++ ws) e) (sym (rest.1 ∙ ap (λ (ws : List WrittenSection). ws ++ rest.0) (written_next b link i (offset_of all))))
      (second_fails limit all (section_names b i) (name_if b i) (written_first b link i (offset_of all)) (written_if b link i (offset_of all)) n0 n f0 f first rest.0 e (fails all after) before h)

-- ---- the symbols

pub rows_none : (names : Strings) (out : List ℕ) → HasRows [] [] names names out out
rows_none names out = record { texts = ap kept (sym (append-nil names.texts)); source = refl; limit_is = refl; held = sym (append-nil out) }

pub row_one : (old new : Strings) (x : List ℕ) (offset : ℕ) (out0 out1 bytes : List ℕ) → Adds old new x offset → out1 ≡ out0 ++ bytes → HasRows (x ∷ []) bytes old new out0 out1
row_one old new x offset out0 out1 bytes adds pushed = record { texts = ap kept adds.texts ∙ kept_again (old.texts ++ x ∷ []); source = adds.source; limit_is = adds.limit; held = pushed }

abbrev pub RowsTo : List ℕ → Strings → Strings → List ℕ → List ℕ → ℕ → Type 0
RowsTo b n0 n out0 out j = (all : List (List ℕ)) → Extends all (kept (n0.texts ++ symbol_names b j)) → HasRows (symbol_names b j) (symbols_first b j (offset_of all)) n0 n out0 out

module _ (b : List ℕ) where
  symbol_names_next : (j : ℕ) → symbol_names b (j + 1) ≡ symbol_names b j ++ symbol_name_if b j
  symbol_names_next j = rw add-one (map-append (λ (s : KeptSymbol). s.name) (listed (is_kept_symbol b) (kept_symbol b) j) (if is_kept_symbol b j then kept_symbol b j ∷ [] else []))

  symbols_next : (j : ℕ) (place : List ℕ → ℕ) → symbols_first b (j + 1) place ≡ symbols_first b j place ++ symbol_if b j place
  symbols_next j place = rw add-one (flat_map-append (symbol_bytes (order_of b) place) (listed (is_kept_symbol b) (kept_symbol b) j) (if is_kept_symbol b j then kept_symbol b j ∷ [] else []))

  symbol_names_part : (j n : ℕ) → j ≤ n → (rest : List (List ℕ)) × (symbol_names b n ≡ symbol_names b j ++ rest)
  symbol_names_part j n le =
      let p = listed_part (is_kept_symbol b) (kept_symbol b) j n le in
      (map (λ (s : KeptSymbol). s.name) p.0, ap (map (λ (s : KeptSymbol). s.name)) p.1 ∙ map-append (λ (s : KeptSymbol). s.name) (listed (is_kept_symbol b) (kept_symbol b) j) p.0)

  pub symbol_written : {A : Type 0} (limit j : ℕ) (n0 n1 : Strings) (out0 out1 : List ℕ) (r : Result A ObjectError) → is_kept_symbol b j ≡ true
      → WritesRows limit (symbol_name b j ∷ []) (λ place. symbol_bytes (order_of b) place (kept_symbol b j)) n0 n1 out0 out1 r → WritesRows limit (symbol_name_if b j) (symbol_if b j) n0 n1 out0 out1 r
  symbol_written limit j n0 n1 out0 out1 r e w =
      subst (λ (k : Bool). WritesRows limit (map (λ (s : KeptSymbol). s.name) (if k then kept_symbol b j ∷ [] else [])) (λ place. flat_map (symbol_bytes (order_of b) place) (if k then kept_symbol b j ∷ [] else [])) n0 n1 out0 out1 r)
      (sym e) (λ all more. one all r (w all more))
    where
      one : {A : Type 0} (all : List (List ℕ)) (r : Result A ObjectError) → MatchResult r (λ _. HasRows (symbol_name b j ∷ []) (symbol_bytes (order_of b) (offset_of all) (kept_symbol b j)) n0 n1 out0 out1) (λ e. (ss : List WrittenSection) → FailsToWrite limit all ss e)
          → MatchResult r (λ _. HasRows (symbol_name b j ∷ []) (flat_map (symbol_bytes (order_of b) (offset_of all)) (kept_symbol b j ∷ [])) n0 n1 out0 out1) (λ e. (ss : List WrittenSection) → FailsToWrite limit all ss e)
      one all (Ok u) h = subst (λ (bytes : List ℕ). HasRows (symbol_name b j ∷ []) bytes n0 n1 out0 out1) (sym (append-nil (symbol_bytes (order_of b) (offset_of all) (kept_symbol b j)))) h
      one all (Err e) f = f

module _ (b : List ℕ) (n0 n : Strings) (out0 out : List ℕ) (j : ℕ) (to : RowsTo b n0 n out0 out j) where
  rows_own : HasRows (symbol_names b j) (symbols_first b j (offset_of (n0.texts ++ symbol_names b j))) n0 n out0 out
  rows_own = to (n0.texts ++ symbol_names b j) (extends_own (n0.texts ++ symbol_names b j))

  pub rows_source : n.source ≡ n0.source
  rows_source = rows_own.source

  pub rows_limit : n.limit ≡ n0.limit
  rows_limit = rows_own.limit_is

  both_texts : kept (n.texts ++ symbol_name_if b j) ≡ kept (n0.texts ++ symbol_names b (j + 1))
  both_texts =
      same_more n.texts (n0.texts ++ symbol_names b j) (symbol_name_if b j) rows_own.texts
      ∙ ap kept (append_assoc n0.texts (symbol_names b j) (symbol_name_if b j) ∙ ap (λ (l : List (List ℕ)). n0.texts ++ l) (sym (symbol_names_next b j)))

  fewer : (all : List (List ℕ)) → Extends all (kept (n0.texts ++ symbol_names b (j + 1))) → Extends all (kept (n0.texts ++ symbol_names b j))
  fewer all more =
      extends_part all (n0.texts ++ symbol_names b j) (symbol_name_if b j)
      (subst (λ (l : List (List ℕ)). Extends all (kept l)) (ap (λ (l : List (List ℕ)). n0.texts ++ l) (symbol_names_next b j) ∙ sym (append_assoc n0.texts (symbol_names b j) (symbol_name_if b j))) more)

  pub rows_more : (n2 : Strings) (out2 : List ℕ) → ((all : List (List ℕ)) → Extends all (kept (n.texts ++ symbol_name_if b j)) → HasRows (symbol_name_if b j) (symbol_if b j (offset_of all)) n n2 out out2) → RowsTo b n0 n2 out0 out2 (j + 1)
  rows_more n2 out2 one all more =
      let first = to all (fewer all more) in
      let second = one all (subst (Extends all) (sym both_texts) more) in
      record {
        texts = second.texts ∙ both_texts;
        source = second.source ∙ first.source;
        limit_is = second.limit_is ∙ first.limit_is;
        held = second.held ∙ ap (λ (l : List ℕ). l ++ symbol_if b j (offset_of all)) first.held ∙ append_assoc out0 (symbols_first b j (offset_of all)) (symbol_if b j (offset_of all))
            ∙ ap (λ (l : List ℕ). out0 ++ l) (sym (symbols_next b j (offset_of all)));
      }

  pub rows_fail : (limit count : ℕ) (e : ObjectError) (all : List (List ℕ)) → j + 1 ≤ count → Extends all (kept (n0.texts ++ symbol_names b count))
      → ((any : List (List ℕ)) → Extends any (kept (n.texts ++ symbol_name_if b j)) → (ss : List WrittenSection) → FailsToWrite limit any ss e) → (ss : List WrittenSection) → FailsToWrite limit all ss e
  rows_fail limit count e all low more fails =
      let names = symbol_names_part b (j + 1) count low in
      fails all (subst (Extends all) (sym both_texts) (extends_part all (n0.texts ++ symbol_names b (j + 1)) names.0
      (subst (λ (l : List (List ℕ)). Extends all (kept l)) (ap (λ (l : List (List ℕ)). n0.texts ++ l) names.1 ∙ sym (append_assoc n0.texts (symbol_names b (j + 1)) names.0)) more)))

-- ---- the end of the file

pub held_more : (limit : ℕ) (xs ys : List WrittenSection) (e : ObjectError) → FailsToHold limit xs e → FailsToHold limit (xs ++ ys) e
held_more limit xs ys (errors.Fault fault) f = (large_more limit xs ys f.0, f.1)
held_more limit xs ys errors.Memory f = f

module _ (n0 : Strings) (a c : List ℕ) (syms : List (List ℕ)) where
  abbrev whole : List (List ℕ)
  whole = n0.texts ++ (a ∷ c ∷ syms)

  pub first_more : Extends whole (kept (n0.texts ++ a ∷ []))
  first_more = extends_part whole (n0.texts ++ a ∷ []) (c ∷ syms) (subst (λ (l : List (List ℕ)). Extends whole (kept l)) (sym (append_assoc n0.texts (a ∷ []) (c ∷ syms))) (extends_own whole))

  all_same : ((n0.texts ++ a ∷ []) ++ c ∷ []) ++ syms ≡ whole
  all_same = append_assoc (n0.texts ++ a ∷ []) (c ∷ []) syms ∙ append_assoc n0.texts (a ∷ []) (c ∷ syms)

  module _ (n1 : Strings) (o1 : ℕ) (one : Adds n0 n1 a o1) where
    two_same : kept (n1.texts ++ c ∷ []) ≡ kept ((n0.texts ++ a ∷ []) ++ c ∷ [])
    two_same = same_more n1.texts (n0.texts ++ a ∷ []) (c ∷ []) (ap kept one.texts ∙ kept_again (n0.texts ++ a ∷ []))

    pub second_more : Extends whole (kept (n1.texts ++ c ∷ []))
    second_more =
        subst (Extends whole) (sym two_same)
        (extends_part whole ((n0.texts ++ a ∷ []) ++ c ∷ []) syms (subst (λ (l : List (List ℕ)). Extends whole (kept l)) (sym all_same) (extends_own whole)))

    pub three_same : (n2 : Strings) (o2 : ℕ) (ts : List (List ℕ)) → Adds n1 n2 c o2 → ts ≡ n2.texts → kept (ts ++ syms) ≡ kept whole
    three_same n2 o2 ts two same =
        ap (λ (l : List (List ℕ)). kept (l ++ syms)) same
        ∙ same_more n2.texts ((n0.texts ++ a ∷ []) ++ c ∷ []) syms (ap kept two.texts ∙ kept_again (n1.texts ++ c ∷ []) ∙ two_same) ∙ ap kept all_same

    pub third_more : (n2 : Strings) (o2 : ℕ) (ts : List (List ℕ)) → Adds n1 n2 c o2 → ts ≡ n2.texts → Extends whole (kept (ts ++ syms))
    third_more n2 o2 ts two same = subst (Extends whole) (sym (three_same n2 o2 ts two same)) (extends_own whole)

pub tail_done : {A : Type 0} (limit : ℕ) (all : List (List ℕ)) (r : Result A ObjectError) (P : List WrittenSection → A → Type 0) (ss ts us : List WrittenSection) → ts ≡ us → MatchResult r (P (ss ++ ts)) (FailsToHold limit (ss ++ ts)) → MatchResult r (P (ss ++ us)) (FailsToWrite limit all (ss ++ us))
tail_done limit all (Ok u) P ss ts us same is = subst (λ (l : List WrittenSection). P (ss ++ l) u) same is
tail_done limit all (Err e) P ss ts us same is = fails_held limit all (ss ++ us) e (subst (λ (l : List WrittenSection). FailsToHold limit (ss ++ l) e) same is)
