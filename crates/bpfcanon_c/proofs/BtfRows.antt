-- The records of types and items: one more of them.
use Rattle.std.proofs.Common.{◌≡◌, ◌<◌, ◌≤◌, ◌+◌, ◌-◌, ◌++◌, ◌∙◌, ℕ, suc, Some, List, [], ◌∷◌, length, take, drop, get_or, sym, ap, arith, subst, add-one}
use Rattle.std.specs.Prelude.{slice_get, unwrap_or}
use Rattle.std.specs.List.{AllZip}
use Rattle.std.proofs.Math.ListN.{set}
use Rattle.std.proofs.Math.Seq.{drop-cons}
use Rattle.std.proofs.lemmas.List.{take_more, take_more_set, append-nil}
use Rattle.std.proofs.lemmas.List.Concat.{flat_map-append}
use Rattle.std.proofs.lemmas.List.Folds.{length-flat_map-take}
use Rattle.std.proofs.lemmas.Option.{slice_get-get_or, get_or_from_slice_get}
use Rattle.bpf_text.proofs.InsnLemmas.ZipLemmas.{zip_push}
use Rattle.bpf_words.specs.{declared.Order.Order, Words.word32_at}
use Rattle.btf_raw.specs.{Header.strings_at, Names.NameAt}
use Rattle.btf_types.specs.Values.{TypeHead, TypeItem, TypeRecord}
use Rattle.btf_types.specs.{Names.head_name, Names.item_name, tables.TableWords.record_at, tables.TableWords.no_record}
use Rattle.bpfcanon_c.specs.declared.btf_rows.{TypeRow.TypeRow, ItemRow.ItemRow}
use Rattle.bpfcanon_c.specs.BtfRows.{SaysItem, SaysType, PlacedType, item_name_off, item_row, items_of, type_row}

-- ---- one element more

pub cut_at : {X : Type 0} (xs : List X) (k : ℕ) (x : X) → k < length xs → slice_get xs k ≡ Some x → drop k xs ≡ x ∷ drop (k + 1) xs
cut_at xs k x h e = drop-cons xs k x h ∙ ap (λ y. y ∷ drop (suc k) xs) (get_or_from_slice_get xs k x x e) ∙ ap (λ (n : ℕ). x ∷ drop n xs) (sym (add-one k))

pub more_at : {X : Type 0} (xs : List X) (k : ℕ) (x : X) → k < length xs → slice_get xs k ≡ Some x → take (k + 1) xs ≡ take k xs ++ x ∷ []
more_at xs k x h e = take_more xs k x h ∙ ap (λ y. take k xs ++ y ∷ []) (get_or_from_slice_get xs k x x e)

pub zip_append : {A B : Type 0} (R : A → B → Type 0) (xs xs' : List A) (ys ys' : List B) → AllZip R xs ys → AllZip R xs' ys' → AllZip R (xs ++ xs') (ys ++ ys')
zip_append R [] xs' [] ys' h h' = h'
zip_append R [] xs' (y ∷ ys) ys' h h' = absurd h
zip_append R (x ∷ xs) xs' [] ys' h h' = absurd h
zip_append R (x ∷ xs) xs' (y ∷ ys) ys' h h' = (h.0, zip_append R xs xs' ys ys' h.1 h')

-- a buffer says one value more
pub zip_more : {Row Value : Type 0} (R : Row → Value → Type 0) (out : List Row) (k : ℕ) (row : Row) (said more : List Value) (x : Value) → k < length out
    → AllZip R (take k out) said → more ≡ said ++ x ∷ [] → R row x → AllZip R (take (k + 1) (set out k row)) more
zip_more R out k row said more x h zip e says =
    subst (λ (xs : List _). AllZip R xs more) (sym (take_more_set out k row h)) (subst (λ (ys : List _). AllZip R (take k out ++ row ∷ []) ys) (sym e) (zip_push R (take k out) said row x zip says))

-- ---- records of a table

pub record_is : (v : List TypeRecord) (k : ℕ) → k < length v → slice_get v k ≡ Some (record_at v (k + 1))
record_is v k h =
    let same : k + 1 - 1 ≡ k = omega arith in
    let e = slice_get-get_or v k no_record h in
    let is : record_at v (k + 1) ≡ get_or v k no_record =
    ap (λ (n : ℕ). unwrap_or (slice_get v n) no_record) same ∙ ap (λ o. unwrap_or o no_record) e
    in
    e ∙ ap (λ (r : TypeRecord). Some r) (sym is)

pub items_more : (v : List TypeRecord) (k : ℕ) → k < length v → items_of (take (k + 1) v) ≡ items_of (take k v) ++ (record_at v (k + 1)).items
items_more v k h =
    let r = record_at v (k + 1) in
    ap items_of (more_at v k r h (record_is v k h))
    ∙ flat_map-append (λ (r : TypeRecord). r.items) (take k v) (r ∷ [])
    ∙ ap (λ (is : List TypeItem). items_of (take k v) ++ is) (append-nil r.items)

-- the items of the first types and of the next one are among all
pub items_within : (v : List TypeRecord) (k : ℕ) → k < length v → length (items_of (take k v)) + length (record_at v (k + 1)).items ≤ length (items_of v)
items_within v k h =
    let r = record_at v (k + 1) in
    let e : get_or v k r ≡ r = get_or_from_slice_get v k r r (record_is v k h) in
    subst (λ (x : TypeRecord). length (items_of (take k v)) + length x.items ≤ length (items_of v)) e (length-flat_map-take (λ (r : TypeRecord). r.items) v k r h)

-- ---- what a record says

pub says_item : (o : Order) (bytes : List ℕ) (row : ItemRow) (name at : ℕ) (i : TypeItem) → row ≡ item_row name i → name ≡ strings_at o bytes + item_name_off o bytes (at, i)
    → NameAt bytes name (item_name i) → SaysItem o bytes row (at, i)
says_item o bytes row name at i e at_offset t =
    let same : name ≡ row.name = sym (ap (λ (x : ItemRow). x.name) e) in
    record { form = e ∙ ap (λ (n : ℕ). item_row n i) at_offset; named = subst (λ (n : ℕ). NameAt bytes n (item_name i)) same t }

pub says_type : (o : Order) (bytes : List ℕ) (row : TypeRow) (name first count : ℕ) (head : TypeHead) (t : PlacedType) → row ≡ type_row name first count head
    → name ≡ strings_at o bytes + word32_at o bytes t.at → first ≡ t.first → head ≡ t.type.head → count ≡ length t.type.items → NameAt bytes name (head_name t.type.head) → SaysType o bytes row t
says_type o bytes row name first count head t e at_offset f h c n =
    let same : name ≡ row.name = sym (ap (λ (x : TypeRow). x.name) e) in
    record {
      form =
          e ∙ ap (λ (x : ℕ). type_row x first count head) at_offset
          ∙ ap (λ (x : ℕ). type_row (strings_at o bytes + word32_at o bytes t.at) x count head) f
          ∙ ap (λ (x : TypeHead). type_row (strings_at o bytes + word32_at o bytes t.at) t.first count x) h
          ∙ ap (λ (x : ℕ). type_row (strings_at o bytes + word32_at o bytes t.at) t.first x t.type.head) c;
      named = subst (λ (x : ℕ). NameAt bytes x (head_name t.type.head)) same n;
    }
