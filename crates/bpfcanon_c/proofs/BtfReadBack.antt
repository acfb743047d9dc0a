-- Types that are read back from the BTF of records, and whose fields the records have, are what the records say: each name is where it was written.
use Rattle.std.proofs.Common.{◌≡◌, ◌<◌, ◌+◌, ◌*◌, ◌/◌, ◌%◌, ◌^◌, ◌++◌, ◌∙◌, ℕ, zero, suc, List, [], ◌∷◌, length, take, drop, refl, sym, ap, subst, inl, arith, append_assoc, length-append}
use Rattle.std.specs.List.{All, AllZip, concat, flat_map, list_any}
use Rattle.std.proofs.lemmas.List.{drop_at, take_all}
use Rattle.std.proofs.lemmas.List.Concat.{flat_map-append}
use Rattle.std.proofs.lemmas.List.Elements.{All-head, All-tail}
use Rattle.std.proofs.lemmas.Slice.Zip.{AllZip-long}
use Rattle.bpf_words.specs.{declared.Order.Order, declared.Order.TheVariants.Little, Words.word32, Words.word32_at}
use Rattle.bpf_words.proofs.WordLemmas.{word32_at-word32}
use Rattle.btf_raw.specs.{Frames.bytes_of, Frames.section_of, Header.Cut, Names.NameAt}
use Rattle.btf_raw.proofs.{Cuts.cut_unique, Frames.length-bytes_of}
use Rattle.btf_types.specs.Values.{TypeHead, KStruct, KUnion, KEnum, KFuncProto, KDatasec, KEnum64, TypeItem, Member, EnumValue, Value64, Param, Entry, TypeRecord}
use Rattle.btf_types.specs.Encoding.{kind_number, head_third, head_tail, info, record_vlen, Encodes, IsRecord, ItemEncodes}
use Rattle.btf_types.specs.{Denotes.Denotes, Names.head_name, Names.item_name, checks.Numbers.TypeFacts}
use Rattle.btf_types.specs.Valid.{IsValidRecord, ItemOf, facts}
use Rattle.bpf_canon.specs.btf.CanonicalBtf.{canonical_flag}
use Rattle.bpfcanon_c.specs.declared.btf_rows.{TypeRow.TypeRow, ItemRow.ItemRow}
use Rattle.bpfcanon_c.specs.declared.btf_plain.{NamesPart.NamesPart, Plan.Plan}
use Rattle.bpfcanon_c.specs.BtfSaying.{IsNamed, TellsItem, TellsType, own_rows}
use Rattle.bpfcanon_c.specs.BtfPlain as plain
use Rattle.bpfcanon_c.specs.BtfPlain.{IsNamesPart, HoldsName, HoldsNames, IsPlan, frames, name_word, names_section, row_words, words_of}
use Rattle.bpfcanon_c.specs.BtfPlanSteps.{HasItemFields, HasFields}
use Rattle.bpfcanon_c.proofs.BtfLengths.{plain_cut}
use Rattle.bpfcanon_c.proofs.BtfNames.{name_back, name_word_low, section_long}
use Rattle.bpfcanon_c.proofs.BtfRecordWords.{head_words_are, kind_is}
use Rattle.bpfcanon_c.proofs.BtfSays.{zip_whole}

-- ---- words

-- what follows words of the same number
same_rest : (us vs x y : List ℕ) → length us ≡ length vs → bytes_of Little us ++ x ≡ bytes_of Little vs ++ y → x ≡ y
same_rest us vs x y long e =
    sym (drop_at (bytes_of Little us) x (length (bytes_of Little us)) refl) ∙ ap (λ (t : List ℕ). drop (length (bytes_of Little us)) t) e
    ∙ drop_at (bytes_of Little vs) y (length (bytes_of Little us)) (omega (arith, length-bytes_of Little us, length-bytes_of Little vs))

same_first : (a b : ℕ) (us vs x y : List ℕ) → a < 2 ^ 32 → b < 2 ^ 32 → bytes_of Little (a ∷ us) ++ x ≡ bytes_of Little (b ∷ vs) ++ y → a ≡ b
same_first a b us vs x y low high e =
    let left : bytes_of Little (a ∷ us) ++ x ≡ word32 Little a ++ (bytes_of Little us ++ x) = append_assoc (word32 Little a) (bytes_of Little us) x in
    let right : bytes_of Little (b ∷ vs) ++ y ≡ word32 Little b ++ (bytes_of Little vs ++ y) = append_assoc (word32 Little b) (bytes_of Little vs) y in
    sym (word32_at-word32 Little a (bytes_of Little us ++ x) low) ∙ ap (λ (t : List ℕ). word32_at Little t 0) (sym left ∙ e ∙ right)
    ∙ word32_at-word32 Little b (bytes_of Little vs ++ y) high

-- words in two parts
two_parts : (us vs x : List ℕ) → bytes_of Little (us ++ vs) ++ x ≡ bytes_of Little us ++ (bytes_of Little vs ++ x)
two_parts us vs x = ap (λ (t : List ℕ). t ++ x) (flat_map-append (word32 Little) us vs) ∙ append_assoc (bytes_of Little us) (bytes_of Little vs) x

-- ---- names

offset_low : (strings : List ℕ) (p : NamesPart) (offset : ℕ) (name : List ℕ) → IsNamesPart strings p → NameAt (names_section strings p) offset name → offset < 2 ^ 32
offset_low strings p offset name part read =
    let text = read.text in
    omega (
      arith,
      text.at_offset,
      ap length text.is_there,
      length-append (text.before ++ name) (0 ∷ text.after),
      length-append text.before name,
      section_long strings p part,
    )

named_back : (strings : List ℕ) (p : NamesPart) (at len offset : ℕ) (name : List ℕ) → IsNamesPart strings p → HoldsName p at len → len ≡ length name → offset ≡ name_word p.start at len
    → NameAt (names_section strings p) offset name → IsNamed strings at name
named_back strings p at len offset name part holds long there read =
    name_back strings p at name part (subst (λ (n : ℕ). HoldsName p at n) long holds)
    (subst (λ (n : ℕ). NameAt (names_section strings p) n name) (there ∙ ap (λ (n : ℕ). name_word p.start at n) long) read)

-- ---- an item

-- the record says the item, and what follows their words is the same
record ItemBack (strings : List ℕ) (row : ItemRow) (i : TypeItem) (x y : List ℕ) : Type 0 where
  tells : TellsItem strings row i
  rest : x ≡ y

named_item : (strings : List ℕ) (p : NamesPart) (row : ItemRow) (i : TypeItem) (offset : ℕ) (ws us vs x y : List ℕ) → IsNamesPart strings p → HasItemFields row i
    → HoldsName p row.name row.name_len → NameAt (names_section strings p) offset (item_name i) → ws ≡ offset ∷ us → length us ≡ length vs
    → bytes_of Little ws ++ x ≡ bytes_of Little (name_word p.start row.name row.name_len ∷ vs) ++ y → ItemBack strings row i x y
named_item strings p row i offset ws us vs x y part form holds read is long e =
    let name = name_word p.start row.name row.name_len in
    let same : bytes_of Little (offset ∷ us) ++ x ≡ bytes_of Little (name ∷ vs) ++ y = ap (λ (t : List ℕ). bytes_of Little t ++ x) (sym is) ∙ e in
    let there = same_first offset name us vs x y (offset_low strings p offset (item_name i) part read) (name_word_low p.start row.name row.name_len) same in
    record {
      tells = record { form = form; named = named_back strings p row.name row.name_len offset (item_name i) part holds (ap (λ (t : ItemRow). t.name_len) form) there read };
      rest = same_rest (offset ∷ us) (name ∷ vs) x y (omega arith) same;
    }

item_back : (strings : List ℕ) (p : NamesPart) (flag : ℕ) (h : TypeHead) (row : ItemRow) (i : TypeItem) (ws x y : List ℕ) → IsNamesPart strings p → ItemOf h i → HasItemFields row i
    → HoldsName p row.name row.name_len → ItemEncodes (names_section strings p) flag i ws → bytes_of Little ws ++ x ≡ bytes_of Little (words_of p.start (kind_number h) row) ++ y
    → ItemBack strings row i x y
item_back strings p flag (KStruct n size) row (Member m t o w) ws x y part of form holds s e = named_item strings p row (Member m t o w) s.0 ws (t ∷ s.1 ∷ []) (row.target ∷ ((row.bit_offset + 2 ^ 24 * (row.width % 2 ^ 8)) % 2 ^ 32) ∷ []) x y part form holds s.2 s.4 refl e
item_back strings p flag (KUnion n size) row (Member m t o w) ws x y part of form holds s e = named_item strings p row (Member m t o w) s.0 ws (t ∷ s.1 ∷ []) (row.target ∷ ((row.bit_offset + 2 ^ 24 * (row.width % 2 ^ 8)) % 2 ^ 32) ∷ []) x y part form holds s.2 s.4 refl e
item_back strings p flag (KEnum n g size) row (EnumValue m value) ws x y part of form holds s e = named_item strings p row (EnumValue m value) s.0 ws (value ∷ []) (row.value % 2 ^ 32 ∷ []) x y part form holds s.1 s.2 refl e
item_back strings p flag (KEnum64 n g size) row (Value64 m value) ws x y part of form holds s e = named_item strings p row (Value64 m value) s.0 ws (value % 2 ^ 32 ∷ value / 2 ^ 32 ∷ []) (row.value % 2 ^ 32 ∷ row.value / 2 ^ 32 ∷ []) x y part form holds s.1 s.2 refl e
item_back strings p flag (KFuncProto target) row (Param m t) ws x y part of form holds s e = named_item strings p row (Param m t) s.0 ws (t ∷ []) (row.target ∷ []) x y part form holds s.1 s.2 refl e
item_back strings p flag (KDatasec n size) row (Entry t o b) ws x y part of form holds s e = record {
  tells = record { form = form; named = inl refl };
  rest = same_rest ws (words_of p.start (kind_number (KDatasec n size)) row) x y (ap length s) e;
}
item_back strings p flag h row i ws x y part of form holds s e = absurd of

-- ---- the items of a type

record ItemsBack (strings : List ℕ) (own : List ItemRow) (is : List TypeItem) (x y : List ℕ) : Type 0 where
  tells : AllZip (TellsItem strings) own is
  rest : x ≡ y

items_back : (strings : List ℕ) (p : NamesPart) (flag : ℕ) (h : TypeHead) → IsNamesPart strings p → (own : List ItemRow) (is : List TypeItem) (wss : List (List ℕ)) (x y : List ℕ) → All (ItemOf h) is
    → AllZip HasItemFields own is → All (λ (i : ItemRow). HoldsName p i.name i.name_len) own → AllZip (ItemEncodes (names_section strings p) flag) is wss
    → bytes_of Little (concat wss) ++ x ≡ bytes_of Little (flat_map (words_of p.start (kind_number h)) own) ++ y → ItemsBack strings own is x y
items_back strings p flag h part [] [] [] x y of form holds s e = record { tells = tt; rest = e }
items_back strings p flag h part [] [] (ws ∷ wss) x y of form holds s e = absurd s
items_back strings p flag h part [] (i ∷ is) wss x y of form holds s e = absurd form
items_back strings p flag h part (row ∷ own) [] wss x y of form holds s e = absurd form
items_back strings p flag h part (row ∷ own) (i ∷ is) [] x y of form holds s e = absurd s
items_back strings p flag h part (row ∷ own) (i ∷ is) (ws ∷ wss) x y of form holds s e =
    let Holds : ItemRow → Type 0 = λ i. HoldsName p i.name i.name_len in
    let words = words_of p.start (kind_number h) in
    let one =
    item_back strings p flag h row i ws (bytes_of Little (concat wss) ++ x) (bytes_of Little (flat_map words own) ++ y) part (All-head (ItemOf h) i is of) form.0 (All-head Holds row own holds) s.0
    (sym (two_parts ws (concat wss) x) ∙ e ∙ two_parts (words row) (flat_map words own) y)
    in
    let rest = items_back strings p flag h part own is wss x y (All-tail (ItemOf h) i is of) form.1 (All-tail Holds row own holds) s.1 one.rest in
    record { tells = (one.tells, rest.tells); rest = rest.rest }

-- ---- a type

record TypeBack (strings : List ℕ) (items : List ItemRow) (row : TypeRow) (r : TypeRecord) (x y : List ℕ) : Type 0 where
  tells : TellsType strings items row r
  rest : x ≡ y

type_back : (strings : List ℕ) (p : NamesPart) (types : List TypeFacts) (items : List ItemRow) (row : TypeRow) (r : TypeRecord) (ws x y : List ℕ) → IsNamesPart strings p → HasFields items row r
    → IsValidRecord types r → HoldsNames p items row → Encodes (names_section strings p) r ws → bytes_of Little ws ++ x ≡ bytes_of Little (row_words p.start row (own_rows items row)) ++ y
    → TypeBack strings items row r x y
type_back strings p types items row r ws x y part fields valid holds s e =
    let h = r.head in
    let own = own_rows items row in
    let b = list_any plain.has_width own in
    let name = name_word p.start row.name (length (head_name h)) in
    let after = info (kind_number h) (record_vlen r) (canonical_flag h b) ∷ head_third h ∷ head_tail h in
    let read = info (kind_number h) (record_vlen r) s.flag ∷ head_third h ∷ head_tail h in
    let words = flat_map (words_of p.start (kind_number h)) own in
    let kind : row.kind ≡ kind_number h = ap (λ (t : TypeRow). t.kind) fields.form ∙ kind_is row.name row.first (length r.items) h in
    let head : plain.head_words p.start row (plain.flag_word row b) ≡ name ∷ after =
    ap (λ (t : TypeRow). plain.head_words p.start t (plain.flag_word t b)) fields.form ∙ head_words_are p.start row.name row.first h r.items b
    in
    let written : row_words p.start row own ≡ (name ∷ after) ++ words =
    ap (λ (t : List ℕ). t ++ flat_map (words_of p.start row.kind) own) head ∙ ap (λ (k : ℕ). (name ∷ after) ++ flat_map (words_of p.start k) own) kind
    in
    let same : bytes_of Little (s.name_offset ∷ read) ++ (bytes_of Little (concat s.item_words) ++ x) ≡ bytes_of Little (name ∷ after) ++ (bytes_of Little words ++ y) =
    sym (two_parts (s.name_offset ∷ read) (concat s.item_words) x) ∙ ap (λ (t : List ℕ). bytes_of Little t ++ x) (sym s.whole) ∙ e ∙ ap (λ (t : List ℕ). bytes_of Little t ++ y) written
    ∙ two_parts (name ∷ after) words y
    in
    let there =
    same_first s.name_offset name read after (bytes_of Little (concat s.item_words) ++ x) (bytes_of Little words ++ y) (offset_low strings p s.name_offset (head_name h) part s.name)
    (name_word_low p.start row.name (length (head_name h))) same
    in
    let long : row.name_len ≡ length (head_name h) = ap (λ (t : TypeRow). t.name_len) fields.form in
    let behind = same_rest (s.name_offset ∷ read) (name ∷ after) (bytes_of Little (concat s.item_words) ++ x) (bytes_of Little words ++ y) refl same in
    let its = items_back strings p s.flag h part own r.items s.item_words x y valid.items_of fields.each holds.names s.items behind in
    record {
      tells = record {
        form = fields.form;
        named =
            named_back strings p row.name row.name_len s.name_offset (head_name h) part holds.name long (there ∙ ap (λ (n : ℕ). name_word p.start row.name n) (sym long)) s.name;
        each = its.tells;
      };
      rest = its.rest;
    }

-- ---- the first types of a file

types_back : (strings : List ℕ) (p : NamesPart) (facts : List TypeFacts) (items : List ItemRow) → IsNamesPart strings p → (k : ℕ) (types : List TypeRow) (v : List TypeRecord) (encodings : List (List ℕ))
    → AllZip (HasFields items) (take k types) (take k v) → All (IsValidRecord facts) v → All (HoldsNames p items) types → AllZip (IsRecord Little (names_section strings p)) v encodings
    → concat encodings ≡ section_of Little (frames p.start types items) → AllZip (TellsType strings items) (take k types) (take k v)
types_back strings p facts items part zero types v encodings fields valid holds s e = tt
types_back strings p facts items part (suc k) [] [] encodings fields valid holds s e = tt
types_back strings p facts items part (suc k) [] (r ∷ v) encodings fields valid holds s e = absurd fields
types_back strings p facts items part (suc k) (row ∷ types) [] encodings fields valid holds s e = absurd fields
types_back strings p facts items part (suc k) (row ∷ types) (r ∷ v) [] fields valid holds s e = absurd s
types_back strings p facts items part (suc k) (row ∷ types) (r ∷ v) (bytes ∷ encodings) fields valid holds s e =
    let one =
    type_back strings p facts items row r s.0.0 (concat encodings) (section_of Little (frames p.start types items)) part fields.0 (All-head (IsValidRecord facts) r v valid)
    (All-head (HoldsNames p items) row types holds) s.0.1 (ap (λ (t : List ℕ). t ++ concat encodings) (sym s.0.2) ∙ e)
    in (
      one.tells,
      types_back strings p facts items part k types v encodings fields.1 (All-tail (IsValidRecord facts) r v valid) (All-tail (HoldsNames p items) row types holds) s.1 one.rest,
    )

pub read_back : (types : List TypeRow) (items : List ItemRow) (strings : List ℕ) (p : Plan) (b : List ℕ) (v : List TypeRecord) → IsPlan strings types items p → b ≡ plain.plain p types items strings → Denotes b v
    → (k : ℕ) → AllZip (HasFields items) (take k types) (take k v) → AllZip (TellsType strings items) (take k types) (take k v)
read_back types items strings p b v plan is d k fields =
    let records = section_of Little (frames p.names.start types items) in
    let section = names_section strings p.names in
    let cut = subst (λ (t : List ℕ). Cut t Little records section) (sym is) (plain_cut types items strings p plan) in
    let same = cut_unique b d.order Little d.types d.strings records section d.cut cut in
    let each : AllZip (IsRecord Little section) v d.encodings =
    subst (λ (o : Order). AllZip (IsRecord o section) v d.encodings) same.order (subst (λ (t : List ℕ). AllZip (IsRecord d.order t) v d.encodings) same.strings d.encoded)
    in
    types_back strings p.names (facts v) items plan.part k types v d.encodings fields d.valid.each plan.holds each (sym d.whole ∙ same.types)

pub all_back : (types : List TypeRow) (items : List ItemRow) (strings : List ℕ) (p : Plan) (b : List ℕ) (v : List TypeRecord) → IsPlan strings types items p → b ≡ plain.plain p types items strings → Denotes b v
    → AllZip (HasFields items) types v → AllZip (TellsType strings items) types v
all_back types items strings p b v plan is d fields =
    let n = length types in
    let rows : take n types ≡ types = take_all n types (omega arith) in
    let records : take n v ≡ v = take_all n v (omega (arith, AllZip-long (HasFields items) types v fields)) in
    zip_whole (TellsType strings items) types v n (omega arith) (omega (arith, AllZip-long (HasFields items) types v fields))
    (read_back types items strings p b v plan is d n
    (subst (λ (ts : List TypeRow). AllZip (HasFields items) ts (take n v)) (sym rows) (subst (λ (rs : List TypeRecord). AllZip (HasFields items) types rs) (sym records) fields)))

-- ---- what records say has their fields

items_fields : (strings : List ℕ) (own : List ItemRow) (is : List TypeItem) → AllZip (TellsItem strings) own is → AllZip HasItemFields own is
items_fields strings [] [] told = tt
items_fields strings [] (i ∷ is) told = absurd told
items_fields strings (row ∷ own) [] told = absurd told
items_fields strings (row ∷ own) (i ∷ is) told = (told.0.form, items_fields strings own is told.1)

pub type_fields : (strings : List ℕ) (items : List ItemRow) (row : TypeRow) (r : TypeRecord) → TellsType strings items row r → HasFields items row r
type_fields strings items row r told = record { form = told.form; each = items_fields strings (own_rows items row) r.items told.each }

pub types_fields : (strings : List ℕ) (items : List ItemRow) (types : List TypeRow) (v : List TypeRecord) → AllZip (TellsType strings items) types v → AllZip (HasFields items) types v
types_fields strings items [] [] told = tt
types_fields strings items [] (r ∷ v) told = absurd told
types_fields strings items (row ∷ types) [] told = absurd told
types_fields strings items (row ∷ types) (r ∷ v) told = (type_fields strings items row r told.0, types_fields strings items types v told.1)
