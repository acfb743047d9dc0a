-- The words of records that say valid types encode these types.
use Rattle.std.proofs.Common.{◌≡◌, ◌<◌, ◌≤◌, ◌^◌, ◌++◌, ◌∙◌, ℕ, Bool, true, List, [], ◌∷◌, length, map, refl, sym, ap, subst, lit<, arith}
use Rattle.std.specs.Prelude.{◌||◌}
use Rattle.std.specs.List.{All, AllZip, concat, flat_map, list_any}
use Rattle.std.proofs.lemmas.Grind.{common_steps}
use Rattle.std.proofs.lemmas.Bool.{or_left, or_right}
use Rattle.std.proofs.lemmas.List.Elements.{All-head, All-tail}
use Rattle.btf_raw.specs.{Header.STRINGS_LIMIT, Names.NameAt}
use Rattle.btf_raw.proofs.Frames.{IsWords}
use Rattle.btf_types.specs.Values.{TypeHead, KStruct, TypeItem, TypeRecord}
use Rattle.btf_types.specs.Names.{IsName, head_name, item_name}
use Rattle.btf_types.specs.checks.Numbers.{TypeFacts}
use Rattle.btf_types.specs.Encoding.{kind_number, head_third, record_vlen, head_tail, info, HeadInRange, ItemInRange, ItemEncodes, Encodes}
use Rattle.btf_types.specs.Valid.{ItemOf, has_width, has_bit_fields, MemberIsValid, IsValidRecord}
use Rattle.btf_types.proofs.Encoded.{kind_below, vlen_below, flag_below}
use Rattle.bpf_canon.specs.btf.CanonicalBtf.{canonical_flag}
use Rattle.bpf_canon.specs.btf.write.BtfWords.{MemberFits}
use Rattle.bpf_canon.proofs.BtfLemmas.CanonicalEncodes.{IsItemEncoded, flag_encodes, third_below}
use Rattle.bpfcanon_c.specs.declared.btf_rows.{TypeRow.TypeRow, ItemRow.ItemRow}
use Rattle.bpfcanon_c.specs.declared.btf_plain.NamesPart.{NamesPart}
use Rattle.bpfcanon_c.specs.BtfSaying.{TellsItem, TellsType, own_rows}
use Rattle.bpfcanon_c.specs.BtfPlain as plain
use Rattle.bpfcanon_c.specs.BtfPlain.{IsNamesPart, HoldsName, HoldsNames, name_word, names_section, row_words, words_of}
use Rattle.bpfcanon_c.proofs.BtfNames.{name_word_low, named_in, section_long}
use Rattle.bpfcanon_c.proofs.BtfRecordWords.{head_words_are, item_words_are, written_item, width_is, kind_is}

-- ---- words

IsWords-append : (xs ys : List ℕ) → IsWords xs → IsWords ys → IsWords (xs ++ ys)
IsWords-append xs ys all more = grind (arith, common_steps)

IsWords-cons : (w : ℕ) (ws : List ℕ) → w < 2 ^ 32 → IsWords ws → IsWords (w ∷ ws)
IsWords-cons w ws h all i = grind arith

tail_fits : (h : TypeHead) → HeadInRange h → IsWords (head_tail h)
tail_fits h range = grind arith

-- ---- an item

member_fits : (types : List TypeFacts) (size : ℕ) (b : Bool) (x : TypeItem) → MemberIsValid types size b x → (has_width x ≡ true → b ≡ true) → MemberFits x
member_fits types size b x valid some = grind (arith, common_steps)

item_encodes : (section : List ℕ) (offset : ℕ) (types : List TypeFacts) (h : TypeHead) (size : ℕ) (b : Bool) → length section ≤ STRINGS_LIMIT
    → (x : TypeItem) → ItemOf h x → ItemInRange x → MemberIsValid types size b x → (has_width x ≡ true → b ≡ true) → NameAt section offset (item_name x)
    → IsItemEncoded section (λ n. offset) (canonical_flag h b) x
item_encodes section offset types (KStruct name size') size b short x of range valid some at = grind (arith, common_steps)
item_encodes section offset types h size b short x of range valid some at = grind (arith, common_steps)

-- ---- the items of a type

record ItemsEncode (section : List ℕ) (flag start kind : ℕ) (own : List ItemRow) (xs : List TypeItem) : Type 0 where
  encodes : AllZip (ItemEncodes section flag) xs (map (words_of start kind) own)
  fits : IsWords (concat (map (words_of start kind) own))

items_encode : (strings : List ℕ) (p : NamesPart) (types : List TypeFacts) (h : TypeHead) (size : ℕ) (b : Bool) → IsNamesPart strings p
    → (own : List ItemRow) (xs : List TypeItem) → AllZip (TellsItem strings) own xs → All (λ (i : ItemRow). HoldsName p i.name i.name_len) own
    → All (ItemOf h) xs → All ItemInRange xs → All (MemberIsValid types size b) xs → (list_any has_width xs ≡ true → b ≡ true) → All IsName (map item_name xs)
    → ItemsEncode (names_section strings p) (canonical_flag h b) p.start (kind_number h) own xs
items_encode strings p types h size b part [] [] told held of range valid some names = record { encodes = tt; fits = λ i. lit< tt }
items_encode strings p types h size b part [] (x ∷ xs) told held of range valid some names = absurd told
items_encode strings p types h size b part (row ∷ own) [] told held of range valid some names = absurd told
items_encode strings p types h size b part (row ∷ own) (x ∷ xs) told held of range valid some names =
    let section = names_section strings p in
    let one = told.0 in
    let long : row.name_len ≡ length (item_name x) = ap (λ (i : ItemRow). i.name_len) one.form in
    let offset = name_word p.start row.name (length (item_name x)) in
    let in_part : HoldsName p row.name (length (item_name x)) = subst (λ (n : ℕ). HoldsName p row.name n) long (All-head (λ (i : ItemRow). HoldsName p i.name i.name_len) row own held) in
    let here : NameAt section offset (item_name x) = named_in strings p row.name (item_name x) part in_part (All-head IsName (item_name x) (map item_name xs) names) one.named in
    let of-x = All-head (ItemOf h) x xs of in
    let range-x = All-head ItemInRange x xs range in
    let valid-x = All-head (MemberIsValid types size b) x xs valid in
    let some-x : has_width x ≡ true → b ≡ true = λ (e : has_width x ≡ true). some (or_left _ _ e) in
    let first = item_encodes section offset types h size b (section_long strings p part) x of-x range-x valid-x some-x here in
    let words : words_of p.start (kind_number h) row ≡ written_item offset x =
    ap (λ (i : ItemRow). words_of p.start (kind_number h) i) one.form ∙ item_words_are p.start row.name h x of-x range-x (member_fits types size b x valid-x some-x)
    in
    let rest =
    items_encode strings p types h size b part own xs told.1 (All-tail (λ (i : ItemRow). HoldsName p i.name i.name_len) row own held) (All-tail (ItemOf h) x xs of) (All-tail ItemInRange x xs range)
    (All-tail (MemberIsValid types size b) x xs valid) (λ e. some (or_right _ _ e)) (All-tail IsName (item_name x) (map item_name xs) names)
    in
    record {
      encodes = (subst (λ (ws : List ℕ). ItemEncodes section (canonical_flag h b) x ws) (sym words) first.encodes, rest.encodes);
      fits =
          IsWords-append (words_of p.start (kind_number h) row) (concat (map (words_of p.start (kind_number h)) own))
          (subst (λ (ws : List ℕ). IsWords ws) (sym words) first.fits) rest.fits;
    }

-- ---- a type

widths_are : (strings : List ℕ) (own : List ItemRow) (xs : List TypeItem) → AllZip (TellsItem strings) own xs → list_any plain.has_width own ≡ list_any has_width xs
widths_are strings [] [] told = refl
widths_are strings [] (x ∷ xs) told = absurd told
widths_are strings (row ∷ own) [] told = absurd told
widths_are strings (row ∷ own) (x ∷ xs) told =
    let one : plain.has_width row ≡ has_width x = ap plain.has_width told.0.form ∙ width_is row.name x in
    let rest = widths_are strings own xs told.1 in
    ap (λ (v : Bool). v || list_any plain.has_width own) one ∙ ap (λ (v : Bool). has_width x || v) rest

flat-map : (f : ItemRow → List ℕ) (own : List ItemRow) → flat_map f own ≡ concat (map f own)
flat-map f [] = refl
flat-map f (row ∷ own) = ap (λ (t : List ℕ). f row ++ t) (flat-map f own)

pub type_encodes : (strings : List ℕ) (p : NamesPart) (types : List TypeFacts) (items : List ItemRow) (row : TypeRow) (r : TypeRecord) → IsNamesPart strings p
    → TellsType strings items row r → IsValidRecord types r → HoldsNames p items row → Encodes (names_section strings p) r (row_words p.start row (own_rows items row))
type_encodes strings p types items row r part told valid held =
    let section = names_section strings p in
    let own = own_rows items row in
    let h = r.head in
    let b = has_bit_fields r in
    let flag = canonical_flag h b in
    let own-told = told.each in
    let long : row.name_len ≡ length (head_name h) = ap (λ (t : TypeRow). t.name_len) told.form in
    let offset = name_word p.start row.name (length (head_name h)) in
    let in_part : HoldsName p row.name (length (head_name h)) = subst (λ (n : ℕ). HoldsName p row.name n) long held.name in
    let here : NameAt section offset (head_name h) = named_in strings p row.name (head_name h) part in_part (All-head IsName (head_name h) (map item_name r.items) valid.names) told.named in
    let kind : row.kind ≡ kind_number h = ap (λ (t : TypeRow). t.kind) told.form ∙ kind_is row.name row.first (length r.items) h in
    let its = items_encode strings p types h (head_third h) b part own r.items own-told held.names valid.items_of valid.items_in_range valid.members (λ e. e)
    (All-tail IsName (head_name h) (map item_name r.items) valid.names) in
    let words = concat (map (words_of p.start (kind_number h)) own) in
    let front = offset ∷ info (kind_number h) (record_vlen r) flag ∷ head_third h ∷ head_tail h in
    let head : plain.head_words p.start row (plain.flag_word row (list_any plain.has_width own)) ≡ front =
    ap (λ (v : Bool). plain.head_words p.start row (plain.flag_word row v)) (widths_are strings own r.items own-told)
    ∙ ap (λ (t : TypeRow). plain.head_words p.start t (plain.flag_word t b)) told.form
    ∙ head_words_are p.start row.name row.first h r.items b
    in
    let rest : flat_map (words_of p.start row.kind) own ≡ words = flat-map (words_of p.start row.kind) own ∙ ap (λ (k : ℕ). concat (map (words_of p.start k) own)) kind in
    let whole : row_words p.start row own ≡ front ++ words =
    ap (λ (t : List ℕ). t ++ flat_map (words_of p.start row.kind) own) head ∙ ap (λ (t : List ℕ). front ++ t) rest
    in
    let low = flag_below h flag (flag_encodes h b) in
    let word : info (kind_number h) (record_vlen r) flag < 2 ^ 32 = omega (arith, kind_below h, vlen_below h r.items valid.items_fit, low) in
    let at_offset : offset < 2 ^ 32 = name_word_low p.start row.name (length (head_name h)) in
    let fit : IsWords (front ++ words) =
    IsWords-append front words
    (IsWords-cons offset (info (kind_number h) (record_vlen r) flag ∷ head_third h ∷ head_tail h) at_offset
    (IsWords-cons (info (kind_number h) (record_vlen r) flag) (head_third h ∷ head_tail h) word (IsWords-cons (head_third h) (head_tail h) (third_below h valid.head_in_range) (tail_fits h valid.head_in_range))))
    its.fits
    in
    record {
      head_in_range = valid.head_in_range;
      items_in_range = valid.items_in_range;
      items_fit = valid.items_fit;
      name_offset = offset;
      flag = flag;
      item_words = map (words_of p.start (kind_number h)) own;
      name = here;
      flag_encodes = flag_encodes h b;
      items = its.encodes;
      whole = whole;
      fit = subst (λ (ws : List ℕ). IsWords ws) (sym whole) fit;
    }
