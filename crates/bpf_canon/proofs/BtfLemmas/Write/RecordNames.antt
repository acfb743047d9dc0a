-- The names of records are the strings at the offsets in their frames.
use Rattle.std.proofs.Common.{◌≡◌, ℕ, zero, suc, ◌+◌, ◌*◌, ◌<◌, Bool, true, false, Some, List, [], ◌∷◌, ◌++◌, map, refl, sym, ap, ◌∙◌, subst, arith, rules}
use Rattle.std.specs.Prelude.{slice_index, slice_get, ◌==◌, if◌then◌else◌}
use Rattle.std.specs.List.{All, AllZip, filter}
use Rattle.std.proofs.lemmas.List.{map-append, Elements.All-head, Elements.All-tail, Elements.filter-append}
use Rattle.btf_raw.specs.{Header.HasNulEnds, Kinds.layout_of, Kinds.item_words, Kinds.has_item_names, declared.info.Layout.Layout}
use Rattle.btf_raw.specs.Frames.{IsFrame, name_word, kind, vlen, flag}
use Rattle.btf_raw.proofs.Texts.{TextAt-unique, TextAt-inside}
use Rattle.btf_types.specs.{Values.TypeRecord, Encoding.Encodes}
use Rattle.btf_types.specs.Names.{head_name, item_name, record_names, names, is_other, distinct, is_some_text, kept}
use Rattle.btf_types.specs.Reading.{text_from, item_from, item_total, record_of, tabulate}
use Rattle.btf_types.proofs.KindCases.{KindIs, IsStruct, IsUnion, IsEnum, IsFuncProto, IsEnum64}
use Rattle.btf_types.proofs.{FaultlessLemmas.FaultlessWords.known, Lists.length-tabulate, Lists.get_or-tabulate}
use Rattle.btf_types.proofs.TableLemmas.TextSteps.{text_there}
use Rattle.bpf_canon.specs.btf.write.NameOffsets.{item_word, name_offsets, all_offsets}
use Rattle.bpf_canon.proofs.BtfLemmas.CanonicalEncodes.{All-front, All-back}

-- ---- empty names aren't kept

filter-comm : {X : Type 0} (p q : X → Bool) (xs : List X) → filter p (filter q xs) ≡ filter q (filter p xs)
filter-comm p q [] = refl
filter-comm p q (x ∷ xs) = grind (arith, (filter-comm p q xs))

some_is_other : (xs : List (List ℕ)) → filter is_some_text (filter (is_other []) xs) ≡ filter is_some_text xs
some_is_other [] = refl
some_is_other ([] ∷ xs) = some_is_other xs
some_is_other ((b ∷ x) ∷ xs) = ap (λ (t : List (List ℕ)). (b ∷ x) ∷ t) (some_is_other xs)

pub kept_of_some : (xs : List (List ℕ)) → kept (filter is_some_text xs) ≡ kept xs
kept_of_some [] = refl
kept_of_some ([] ∷ xs) = kept_of_some xs ∙ sym (some_is_other (distinct xs))
kept_of_some ((b ∷ x) ∷ xs) = grind (arith, filter-comm, (kept_of_some xs))

-- ---- the names of one record

map-tabulate : {X Y : Type 0} (g : X → Y) (f : ℕ → X) (n : ℕ) → map g (tabulate f n) ≡ tabulate (λ k. g (f k)) n
map-tabulate g f zero = refl
map-tabulate g f (suc n) = map-append g (tabulate f n) (f n ∷ []) ∙ ap (λ t. t ++ g (f n) ∷ []) (map-tabulate g f n)

none_kept : (n : ℕ) → filter is_some_text (tabulate (λ k. []) n) ≡ []
none_kept zero = refl
none_kept (suc n) = filter-append is_some_text (tabulate (λ k. []) n) ([] ∷ []) ∙ rw (none_kept n) refl

-- the name of an item is the string at its name_off, if its kind has names; a list of these kinds has vlen items
item_named : {k : ℕ} → KindIs k → (name : List ℕ) (flag a b c : ℕ) → has_item_names k ≡ true → item_name (item_from name k flag a b c) ≡ name
unfolding has_item_names item_from
item_named kind_is name flag a b c has = grind arith

item_nameless : {k : ℕ} → KindIs k → (name : List ℕ) (flag a b c : ℕ) → has_item_names k ≡ false → item_name (item_from name k flag a b c) ≡ []
unfolding has_item_names item_from
item_nameless IsStruct name flag a b c none = absurd cc
item_nameless IsUnion name flag a b c none = absurd cc
item_nameless IsEnum name flag a b c none = absurd cc
item_nameless IsFuncProto name flag a b c none = absurd cc
item_nameless IsEnum64 name flag a b c none = absurd cc
item_nameless known name flag a b c none = refl

named_words : {k : ℕ} → KindIs k → has_item_names k ≡ true → (item_words k == 0) ≡ false
unfolding has_item_names item_words
named_words kind_is has = grind arith

pub named_total : (f : List ℕ) → IsFrame f → has_item_names (kind f) ≡ true → item_total f ≡ vlen f
named_total f is has = rw (named_words (known f is) has) refl

pub head_name_is : (strings : List ℕ) (r : TypeRecord) (f : List ℕ) → HasNulEnds strings → Encodes strings r f → head_name r.head ≡ text_from strings (name_word f)
head_name_is strings r f ends s =
    let offset : name_word f ≡ s.name_offset = ap (λ (t : List ℕ). slice_index t 0) s.whole in
    let text = text_there strings s.name_offset ends (TextAt-inside strings s.name_offset _ s.name.text) in
    rw offset (TextAt-unique strings s.name_offset _ (text_from strings s.name_offset) s.name.text text)

item_names_are : (strings f : List ℕ) → IsFrame f → has_item_names (kind f) ≡ true
    → map item_name (record_of strings f).items ≡ map (text_from strings) (tabulate (item_word f) (vlen f))
item_names_are strings f is has = grind (arith, map-tabulate, item_named, known, named_total)

item_names_none : (strings f : List ℕ) → IsFrame f → has_item_names (kind f) ≡ false → filter is_some_text (map item_name (record_of strings f).items) ≡ []
item_names_none strings f is none = search (rules, map-tabulate, item_nameless, known, none_kept)

some_more : (x : List ℕ) (xs ys : List (List ℕ)) → filter is_some_text xs ≡ filter is_some_text ys → filter is_some_text (x ∷ xs) ≡ filter is_some_text (x ∷ ys)
some_more x xs ys e = cc

record_texts : (strings f : List ℕ) → HasNulEnds strings → IsFrame f → Encodes strings (record_of strings f) f
    → filter is_some_text (map (text_from strings) (name_offsets f)) ≡ filter is_some_text (record_names (record_of strings f))
record_texts strings f ends is s =
    let r = record_of strings f in
    let own = text_from strings (name_word f) in
    let offsets : List ℕ = if has_item_names (kind f) then tabulate (item_word f) (vlen f) else [] in
    let rest : filter is_some_text (map (text_from strings) offsets) ≡ filter is_some_text (map item_name r.items) = grind (arith, item_names_are, item_names_none) in
    some_more own (map (text_from strings) offsets) (map item_name r.items) rest ∙ ap (λ (x : List ℕ). filter is_some_text (x ∷ map item_name r.items)) (sym (head_name_is strings r f ends s))

-- ---- the names of all

all_texts : (strings : List ℕ) (frames : List (List ℕ)) → HasNulEnds strings → All IsFrame frames → AllZip (Encodes strings) (map (record_of strings) frames) frames
    → filter is_some_text (map (text_from strings) (all_offsets frames)) ≡ filter is_some_text (names (map (record_of strings) frames))
all_texts strings [] ends is s = refl
all_texts strings (f ∷ frames) ends is s =
    let r = record_of strings f in
    let v = map (record_of strings) frames in
    let one = record_texts strings f ends (All-head IsFrame f frames is) s.0 in
    let rest = all_texts strings frames ends (All-tail IsFrame f frames is) s.1 in
    grind (arith, map-append, filter-append)

pub kept_at_offsets : (strings : List ℕ) (frames : List (List ℕ)) → HasNulEnds strings → All IsFrame frames → AllZip (Encodes strings) (map (record_of strings) frames) frames
    → kept (map (text_from strings) (all_offsets frames)) ≡ kept (names (map (record_of strings) frames))
kept_at_offsets strings frames ends is s =
    sym (kept_of_some (map (text_from strings) (all_offsets frames)))
    ∙ ap kept (all_texts strings frames ends is s)
    ∙ kept_of_some (names (map (record_of strings) frames))

-- ---- what holds of each offset

pub own_offset : (P : ℕ → Type 0) (f : List ℕ) → All P (name_offsets f) → P (name_word f)
own_offset P f all = All-head P (name_word f) (if has_item_names (kind f) then tabulate (item_word f) (vlen f) else []) all

item_offset : (P : ℕ → Type 0) (f : List ℕ) (k : ℕ) → has_item_names (kind f) ≡ true → All P (name_offsets f) → k < vlen f → P (item_word f k)
item_offset P f k has all low =
    let offsets : List ℕ = tabulate (item_word f) (vlen f) in
    let same : (if has_item_names (kind f) then offsets else []) ≡ offsets = rw has refl in
    let each : All P offsets = subst (All P) same (All-tail P (name_word f) (if has_item_names (kind f) then offsets else []) all) in
    subst P (get_or-tabulate (item_word f) (vlen f) k 0 low) (each k 0 (omega (arith, length-tabulate (item_word f) (vlen f))))

-- the row of a record's kind
pub named_by_row : (f : List ℕ) (κ : ℕ) (row : Layout) → row ≡ layout_of κ → κ ≡ kind f → has_item_names (kind f) ≡ row.item.named
unfolding has_item_names
named_by_row f κ row is same = sym (ap (λ (l : Layout). l.item.named) (is ∙ ap layout_of same))

pub words_by_row : (f : List ℕ) (κ : ℕ) (row : Layout) → row ≡ layout_of κ → κ ≡ kind f → item_words (kind f) ≡ row.item.words
unfolding item_words
words_by_row f κ row is same = sym (ap (λ (l : Layout). l.item.words) (is ∙ ap layout_of same))

-- the record has `count` items of `size` 32-bit words, each with a name
pub record HasNamedItems (frame : List ℕ) (size count : ℕ) : Type 0 where
  pub named : has_item_names (kind frame) ≡ true
  pub words : item_words (kind frame) ≡ size
  pub all : count ≡ vlen frame

pub item_is : (P : ℕ → Type 0) (f : List ℕ) (size count k offset : ℕ) → All P (name_offsets f) → HasNamedItems f size count → k < count
    → offset ≡ slice_index f (3 + size * k) → P offset
item_is P f size count k offset each items low is =
    let all = items.all in
    let at : item_word f k ≡ offset = ap (λ (w : ℕ). slice_index f (3 + w * k)) items.words ∙ sym is in
    subst P at (item_offset P f k items.named each (omega arith))

pub record_offsets : (P : ℕ → Type 0) (frames : List (List ℕ)) (i : ℕ) (f : List ℕ) → slice_get frames i ≡ Some f → All P (all_offsets frames) → All P (name_offsets f)
record_offsets P [] i f is all = absurd cc
record_offsets P (g ∷ frames) zero f is all =
    let same : g ≡ f = cc in
    subst (λ (x : List ℕ). All P (name_offsets x)) same (All-front P (name_offsets g) (all_offsets frames) all)
record_offsets P (g ∷ frames) (suc i) f is all = record_offsets P frames i f is (All-back P (name_offsets g) (all_offsets frames) all)
