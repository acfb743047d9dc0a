-- 32-bit words and records that are appended in sequence.
use Rattle.std.proofs.Common.{◌≡◌, ℕ, zero, suc, ◌+◌, ◌-◌, ◌<◌, ◌≤◌, true, false, List, [], ◌∷◌, ◌++◌, length, map, take, refl, sym, ap, subst, ◌∙◌, inl, inr, append_assoc, arith, Some}
use Rattle.std.proofs.lemmas.Grind.{common_steps}
use Rattle.std.specs.{Prelude.slice_get, List.flat_map, List.list_any}
use Rattle.std.proofs.lemmas.{List.map-append, List.append-nil, List.Concat.flat_map-append, List.Folds.list_any-append}
use Rattle.bpf_words.specs.{declared.Order.Order, Words.word32}
use Rattle.btf_raw.specs.{Header.header, Header.TYPES_LIMIT, Frames.bytes_of, Frames.section_of}
use Rattle.btf_types.specs.Values.{TypeItem, TypeRecord}
use Rattle.btf_types.specs.{Names.names, Names.kept, Names.table_of}
use Rattle.btf_types.specs.strings.SharedNames.{hosts_of, shared_among}
use Rattle.btf_types.specs.{Encoding.head_third, tables.TableWords.record_at, tables.TableWords.no_record}
use Rattle.btf_types.specs.Valid.{has_width, has_bit_fields, IsValidRecord, IsValid, facts}
use Rattle.btf_types.proofs.Members.{Has, any_from_Has}
use Rattle.bpf_canon.specs.btf.write.BtfWords.{head_words, MemberFits}
use Rattle.bpf_canon.specs.btf.CanonicalBtf.{canonical, canonical_types, words_of_item, record_words}
use Rattle.bpf_canon.proofs.BtfLemmas.CanonicalFiles.{canonical_size}
use Rattle.btf_types.proofs.TableLemmas.TableWalk.{take_more, get_is, get_or_is, records_more}

-- ---- words

pub pushed_two : (o : Order) (old xs ys : List ℕ) → (old ++ bytes_of o xs) ++ bytes_of o ys ≡ old ++ bytes_of o (xs ++ ys)
pushed_two o old xs ys = append_assoc old (bytes_of o xs) (bytes_of o ys) ∙ ap (λ (t : List ℕ). old ++ t) (sym (flat_map-append (word32 o) xs ys))

-- ---- records

pub item_pushed : (o : Order) (old : List ℕ) (text_offset : List ℕ → ℕ) (xs : List TypeItem) (k : ℕ) (x : TypeItem) → slice_get xs k ≡ Some x
    → (old ++ bytes_of o (flat_map (words_of_item text_offset) (take k xs))) ++ bytes_of o (words_of_item text_offset x) ≡ old ++ bytes_of o (flat_map (words_of_item text_offset) (take (k + 1) xs))
item_pushed o old text_offset xs k x e =
    let f = words_of_item text_offset in
    let next : k + 1 ≡ suc k = omega arith in
    let more : take (k + 1) xs ≡ take k xs ++ x ∷ [] = rw next (take_more xs k x e) in
    let words : flat_map f (take (k + 1) xs) ≡ flat_map f (take k xs) ++ f x = grind (arith, flat_map-append) in
    pushed_two o old (flat_map f (take k xs)) (f x) ∙ ap (λ (t : List ℕ). old ++ bytes_of o t) (sym words)

pub record_pushed : (o : Order) (old : List ℕ) (text_offset : List ℕ → ℕ) (r : TypeRecord) (count : ℕ) → count ≡ length r.items
    → (old ++ bytes_of o (head_words text_offset r.head count (has_bit_fields r))) ++ bytes_of o (flat_map (words_of_item text_offset) r.items) ≡ old ++ bytes_of o (record_words text_offset r)
record_pushed o old text_offset r count e = grind (arith, common_steps)

pub section_pushed : (o : Order) (text_offset : List ℕ → ℕ) (v : List TypeRecord) (i : ℕ) → i < length v
    → section_of o (map (record_words text_offset) (take i v)) ++ bytes_of o (record_words text_offset (record_at v (i + 1))) ≡ section_of o (map (record_words text_offset) (take (i + 1) v))
section_pushed o text_offset v i h = grind (arith, records_more, map-append, flat_map-append, append-nil)

-- ---- what is known of a record of a table

pub record_valid : (v : List TypeRecord) (id : ℕ) → IsValid v → 0 < id → id ≤ length v → IsValidRecord (facts v) (record_at v id)
record_valid v id valid some low =
    let inside : id - 1 < length v = omega arith in
    subst (IsValidRecord (facts v)) (get_is v (id - 1) no_record inside) (valid.each (id - 1) no_record inside)

item_in : (xs : List TypeItem) (k : ℕ) (x : TypeItem) → slice_get xs k ≡ Some x → Has xs x
item_in [] k x e = absurd cc
item_in (y ∷ ys) zero x e = let same : y ≡ x = cc in inl same
item_in (y ∷ ys) (suc k) x e = inr (item_in ys k x e)

-- whether some item has a width, one item after the other
pub width_found : (xs : List TypeItem) (k : ℕ) (x : TypeItem) → slice_get xs k ≡ Some x → has_width x ≡ true → list_any has_width xs ≡ true
width_found xs k x e wide = any_from_Has has_width xs x (item_in xs k x e) wide

pub width_missed : (xs : List TypeItem) (k : ℕ) (x : TypeItem) → slice_get xs k ≡ Some x → has_width x ≡ false → list_any has_width (take k xs) ≡ false → list_any has_width (take (k + 1) xs) ≡ false
width_missed xs k x e none before =
    let next : k + 1 ≡ suc k = omega arith in
    let more : take (k + 1) xs ≡ take k xs ++ x ∷ [] = rw next (take_more xs k x e) in
    ap (list_any has_width) more ∙ list_any-append has_width (take k xs) (x ∷ []) ∙ rw (before, none) refl

pub item_fits : (v : List TypeRecord) (id k : ℕ) (x : TypeItem) → IsValid v → 0 < id → id ≤ length v → slice_get (record_at v id).items k ≡ Some x → MemberFits x
item_fits v id k x valid some low e =
    let r = record_at v id in
    let right = record_valid v id valid some low in
    let at = get_or_is r.items k x x e in
    let size = head_third r.head in
    grind (arith, common_steps)

-- ---- the file

pub types_fit : (o : Order) (v : List TypeRecord) (ks : List (List ℕ)) (types : List ℕ) → IsValid v → ks ≡ kept (names v)
    → types ≡ section_of o (map (record_words (shared_among ks)) v) → length types ≤ TYPES_LIMIT
types_fit o v ks types valid ke te =
    let same : types ≡ canonical_types o v = te ∙ ap (λ (l : List (List ℕ)). section_of o (map (record_words (shared_among l)) v)) ke in
    omega (arith, ap length same, canonical_size o v valid, valid.size)

abbrev types_with : Order → List TypeRecord → List (List ℕ) → List ℕ
types_with o v ks = section_of o (map (record_words (shared_among ks)) v)

abbrev file_with : Order → List TypeRecord → List (List ℕ) → List ℕ
file_with o v ks =
    header o 24 0 (length (types_with o v ks)) (length (types_with o v ks)) (length (table_of (hosts_of ks))) ++ types_with o v ks ++ table_of (hosts_of ks)

pub written : (o : Order) (v : List TypeRecord) (ks : List (List ℕ)) (types front more whole : List ℕ) (t s : ℕ) → ks ≡ kept (names v)
    → types ≡ section_of o (map (record_words (shared_among ks)) v) → t ≡ length types → s ≡ length (table_of (hosts_of ks))
    → front ≡ header o 24 0 t t s → more ≡ front ++ types → whole ≡ more ++ table_of (hosts_of ks) → whole ≡ canonical o v
written o v ks types front more whole t s ke te tl sl e1 e2 e3 = grind arith

-- what the search cites of the width of one item more
pub ruleset width_cases = (width_found, width_missed)

-- what the search cites of records that are appended
pub ruleset record_steps = (item_fits, item_pushed, record_pushed, section_pushed)
