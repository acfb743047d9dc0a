-- How many of a sequence are kept.
use Rattle.std.proofs.Common.{◌≡◌, ℕ, zero, suc, ◌+◌, ◌<◌, ◌≤◌, Bool, true, false, ◌&&◌, cond, List, [], ◌∷◌, ◌++◌, length, get_or, inl, inr, refl, sym, ap, ◌∙◌, length-append, append_assoc, append-nil, add-one, arith}
use Rattle.std.specs.List.{flat_map}
use Rattle.std.proofs.Math.Seq.{get_or-append_seam}
use Rattle.std.proofs.lemmas.Bool.{cases_lt}
use Rattle.std.proofs.lemmas.List.{get_or_append_left, Concat.flat_map-append}
use Rattle.bpf_object.specs.{Kept.listed, Kept.number_of, Kept.numbers, Kept.kept_relocation, Kept.kept_symbol, Kept.symbol_number, Kept.symbol_section, Kept.is_kept_section, Objects.KeptRelocation}
use Rattle.bpf_elf.specs.Relocations.{r_offset, r_symbol, r_type}
use Rattle.bpf_words.specs.declared.Order.{Order}
use Rattle.bpf_object.specs.{Canonical.row_bytes, Canonical.symbol_bytes, private.Tables.rows_bytes}
use Rattle.bpf_elf.specs.{Numbers.order_of, Symbols.is_kept_symbol, Symbols.is_local, Symbols.symbol_name, Symbols.st_other, Symbols.st_shndx, Symbols.st_value, Symbols.st_size, Symbols.is_special, Symbols.st_info}
use Rattle.bpf_object.specs.private.SymbolRows.{globals_from, symbol_row}
use Rattle.std.specs.Prelude.{slice_index}

one_more : (x : Bool) (a n : ℕ) → a ≤ n → cond x (suc a) a ≤ suc n
one_more true a n le = omega (arith, le)
one_more false a n le = omega (arith, le)

-- no more than all are kept
pub number_below : (test : ℕ → Bool) (n : ℕ) → number_of test n ≤ n
number_below test zero = omega arith
number_below test (suc n) = one_more (test n) (number_of test n) n (number_below test n)

-- one more number
pub number_next : (test : ℕ → Bool) (n : ℕ) → number_of test (n + 1) ≡ cond (test n) (suc (number_of test n)) (number_of test n)
number_next test n = rw add-one refl

pub numbers_next : (test : ℕ → Bool) (n : ℕ) → numbers test (n + 1) ≡ numbers test n ++ number_of test n ∷ []
numbers_next test n = rw add-one refl

-- ---- lists of the values of all numbers

abbrev pub all : ℕ → Bool
all k = true

pub length-all : {A : Type 0} (f : ℕ → A) (n : ℕ) → length (listed all f n) ≡ n
length-all f zero = refl
length-all f (suc n) = length-append (listed all f n) (f n ∷ []) ∙ rw (length-all f n) (omega arith)

pub get-all : {A : Type 0} (f : ℕ → A) (n k : ℕ) (d : A) → k < n → get_or (listed all f n) k d ≡ f k
get-all f zero k d lt = absurd (omega (arith, lt))
get-all f (suc n) k d lt =
    elim (cases_lt k n) [
      | inl below ↦
          get_or_append_left (listed all f n) (f n ∷ []) d k (rw (length-all f n) below) ∙ get-all f n k d below
      | inr from ↦
          let same : k ≡ n = omega (arith, lt, from) in
          let at : k ≡ length (listed all f n) = same ∙ sym (length-all f n) in
          ap (λ i. get_or (listed all f (suc n)) i d) at ∙ get_or-append_seam (listed all f n) (f n) [] d ∙ ap f (sym same)
    ]

-- ---- the bytes of the values that pass

one_value : {A : Type 0} (g : A → List ℕ) (x : Bool) (a : A) → flat_map g (cond x (a ∷ []) []) ≡ cond x (g a) []
one_value g true a = append-nil (g a)
one_value g false a = refl

pub bytes_next : {A : Type 0} (g : A → List ℕ) (test : ℕ → Bool) (f : ℕ → A) (n : ℕ)
    → flat_map g (listed test f (n + 1)) ≡ flat_map g (listed test f n) ++ cond (test n) (g (f n)) []
bytes_next g test f n = rw add-one (flat_map-append g (listed test f n) (cond (test n) (f n ∷ []) []) ∙ ap (λ t. flat_map g (listed test f n) ++ t) (one_value g (test n) (f n)))

-- the number of one of them
pub number_at : (test : ℕ → Bool) (numbers_now : List ℕ) (n k : ℕ) → numbers_now ≡ numbers test n → k < n → slice_index numbers_now k ≡ number_of test k
number_at test numbers_now n k is lt = rw is (get-all (number_of test) n k 0 lt)

pub numbers_long : (test : ℕ → Bool) (numbers_now : List ℕ) (n k : ℕ) → numbers_now ≡ numbers test n → k < n → k < length numbers_now
numbers_long test numbers_now n k is lt = rw (is, length-all (number_of test) n) lt

pub rows_next : (b : List ℕ) (i k : ℕ) → rows_bytes b i (k + 1) ≡ rows_bytes b i k ++ row_bytes (order_of b) (kept_relocation b i k)
rows_next b i k = bytes_next (row_bytes (order_of b)) all (kept_relocation b i) k

-- what a loop that appends keeps
pub appended : (start out new x y z : List ℕ) → out ≡ start ++ x → new ≡ out ++ y → z ≡ x ++ y → new ≡ start ++ z
appended start out new x y z before pushed next = rw (pushed, before, next) (append_assoc start x y)

pub row_is : (b : List ℕ) (i k : ℕ) (o : Order) (row : KeptRelocation) → o ≡ order_of b → row.offset ≡ r_offset b i k → row.symbol ≡ symbol_number b (r_symbol b i k)
    → row.type ≡ r_type b i k → row_bytes o row ≡ row_bytes (order_of b) (kept_relocation b i k)
row_is b i k o row order offset symbol type = cc

pub globals_next : (b : List ℕ) (n : ℕ)
    → globals_from b (n + 1) ≡ cond (is_kept_symbol b n && is_local (st_info b n)) (number_of (is_kept_symbol b) (n + 1)) (globals_from b n)
globals_next b n = rw add-one refl

-- the symbols up to one more
pub globals_more : (b : List ℕ) (n number first after next : ℕ) (is_kept is_global : Bool) → number ≡ number_of (is_kept_symbol b) n → first ≡ globals_from b n
    → is_kept ≡ is_kept_symbol b n → after ≡ cond is_kept (suc number) number → is_global ≡ (is_kept_symbol b n && is_local (st_info b n))
    → next ≡ cond is_global after first → (after ≡ number_of (is_kept_symbol b) (n + 1)) × (next ≡ globals_from b (n + 1))
globals_more b n number first after next is_kept is_global h i j k l m =
    let counted : after ≡ number_of (is_kept_symbol b) (n + 1) = k ∙ rw (j, h) (sym (number_next (is_kept_symbol b) n)) in
    (counted, m ∙ rw (l, counted, i) (sym (globals_next b n)))

-- the new section index of a symbol in a section
pub section_is : (b : List ℕ) (section number : ℕ) → false ≡ is_special section → number ≡ number_of (is_kept_section b) section
    → number + 1 ≡ symbol_section b section
section_is b section number other is =
    let here : symbol_section b section ≡ 1 + number_of (is_kept_section b) section = rw (← other) refl in
    let same : number + 1 ≡ 1 + number_of (is_kept_section b) section = omega (arith, is) in
    same ∙ sym here

pub symbol_row_is : (b : List ℕ) (place : List ℕ → ℕ) (j : ℕ) (o : Order) (name info other section value size : ℕ) → o ≡ order_of b
    → name ≡ place (symbol_name b j) → info ≡ st_info b j → other ≡ st_other b j → section ≡ symbol_section b (st_shndx b j) → value ≡ st_value b j
    → size ≡ st_size b j → symbol_row o name info other section value size ≡ symbol_bytes (order_of b) place (kept_symbol b j)
symbol_row_is b place j o name info other section value size h i k l m n p = rw (h, i, k, l, m, n, p) refl
