-- What is left of a type section: the next record or item is taken from it.
use Rattle.std.proofs.Common.{◌≡◌, ◌<◌, ◌≤◌, ◌+◌, ◌*◌, ◌/◌, ◌%◌, ◌^◌, ◌++◌, ◌∙◌, ℕ, Some, List, [], ◌∷◌, length, drop, get_or, refl, rules, sym, ap, arith, append_assoc, length-append, length-drop, subst, add-zero, inl, inr, lit≤}
use Rattle.std.specs.Prelude.{All, Bool, true, false, ◌==◌, if◌then◌else◌, slice_index, slice_get}
use Rattle.std.specs.List.{AllZip, concat}
use Rattle.std.proofs.lemmas.List.{drop-drop, drop_at, drop_all, get_or-append_right}
use Rattle.std.proofs.lemmas.List.Concat.{flat_map-append}
use Rattle.std.proofs.lemmas.List.Elements.{All-get_or}
use Rattle.std.proofs.lemmas.Option.{slice_get-get_or}
use Rattle.bpf_words.specs.{declared.Order.Order, Words.word32_at, Words.word32}
use Rattle.bpf_words.proofs.WordLemmas.{word32_at-drop}
use Rattle.btf_raw.specs.{Frames.bytes_of, Header.HasNulEnds, Header.strings_at as header_strings, Kinds.flag_of, Names.TextAt, Names.NameAt}
use Rattle.btf_raw.proofs.Frames.{length-bytes_of, word32_at-bytes_of}
use Rattle.btf_types.specs.Values.{TypeItem, Member, EnumValue, Value64, Param, Entry, TypeRecord}
use Rattle.btf_types.specs.{Names.head_name, Names.item_name, Encoding.IsRecord, Encoding.Encodes, Encoding.ItemEncodes, Encoding.MemberWord, Encoding.head_tail, Encoding.head_third, Encoding.info, Encoding.kind_number, Encoding.record_vlen}
use Rattle.btf_types.proofs.Encoded.{info_parts, kind_below, vlen_below, flag_below}
use Rattle.bpfcanon_c.specs.declared.btf_rows.ItemRow.{ItemRow}
use Rattle.bpfcanon_c.specs.BtfRows.{bare_item, item_name_off, item_parts}
use Rattle.bpfcanon_c.specs.BtfRest.{Rest, head_bytes, item_bytes, item_name_at, words_row, low_part, high_part}
use Rattle.bpfcanon_c.proofs.BtfRows.{cut_at}

-- the first word that is left, and what is left after these words
record WordsHere (o : Order) (bytes : List ℕ) (at first count : ℕ) (words after : List ℕ) : Type 0 where
  pub inside : at + 4 * count ≤ length bytes
  pub word : word32_at o bytes at ≡ first
  pub left : drop (at + 4 * count) bytes ≡ bytes_of o words ++ after
  pub fit : (i : ℕ) → slice_index words i < 2 ^ 32

words_here : (o : Order) (bytes : List ℕ) (at first : ℕ) (more words after : List ℕ) → drop at bytes ≡ bytes_of o ((first ∷ more) ++ words) ++ after
    → ((i : ℕ) → slice_index ((first ∷ more) ++ words) i < 2 ^ 32) → WordsHere o bytes at first (length (first ∷ more)) words after
words_here o bytes at first more words after here fit =
    let front = first ∷ more in
    let split : bytes_of o (front ++ words) ++ after ≡ bytes_of o front ++ (bytes_of o words ++ after) =
    ap (λ (x : List ℕ). x ++ after) (flat_map-append (word32 o) front words) ∙ append_assoc (bytes_of o front) (bytes_of o words) after
    in
    let long = length-bytes_of o front in
    record {
      inside = omega (arith, ap length here, ap length split, length-drop at bytes, long, length-append (bytes_of o front) (bytes_of o words ++ after));
      word =
          ap (λ (n : ℕ). word32_at o bytes n) (sym (add-zero at))
          ∙ sym (word32_at-drop o bytes at 0)
          ∙ ap (λ (x : List ℕ). word32_at o x 0) here
          ∙ word32_at-bytes_of o (front ++ words) after 0 fit (omega arith);
      left =
          sym (drop-drop (4 * length front) at bytes)
          ∙ ap (λ (x : List ℕ). drop (4 * length front) x) (here ∙ split)
          ∙ drop_at (bytes_of o front) (bytes_of o words ++ after) (4 * length front) long;
      fit = λ i. subst (λ (n : ℕ). n < 2 ^ 32) (get_or-append_right front words (length front) (length front + i) 0 refl (omega arith) ∙ ap (λ (n : ℕ). get_or words n 0) (omega arith)) (fit (length front + i));
    }

-- ---- names

record NameFits (strings : List ℕ) (offset : ℕ) (name : List ℕ) : Type 0 where
  pub short : offset + length name < length strings

name_fits : (strings : List ℕ) (offset : ℕ) (name : List ℕ) → TextAt strings offset name → NameFits strings offset name
name_fits strings offset name t =
    record { short = omega (arith, ap length t.is_there, t.at_offset, length-append (t.before ++ name) (0 ∷ t.after), length-append t.before name) }

-- ---- an item

pub record TakesItem (o : Order) (bytes : List ℕ) (at strings_at flag : ℕ) (i : TypeItem) (is : List TypeItem) (v : List TypeRecord) : Type 0 where
  pub room : at + item_bytes (item_parts i).kind ≤ length bytes
  pub fields : item_parts i ≡ words_row (item_parts i).kind flag (word32_at o bytes at) (word32_at o bytes (at + 4)) (word32_at o bytes (at + 8))
  pub fits : item_name_at (item_parts i).kind strings_at (word32_at o bytes at) < 2 ^ 32
  pub named : NameAt bytes (item_name_at (item_parts i).kind strings_at (word32_at o bytes at)) (item_name i)
  pub long : length (item_name i) < 2 ^ 32
  pub rest : Rest o bytes (at + item_bytes (item_parts i).kind) strings_at flag is v

-- an empty string is at the start of the string section
empty_text : (strings : List ℕ) → HasNulEnds strings → TextAt strings 0 []
empty_text [] ends = absurd (omega (arith, ends.some))
empty_text (c ∷ cs) ends = record {
  without_nul = λ i h. absurd (omega arith);
  before = [];
  after = cs;
  at_offset = refl;
  is_there = ap (λ (x : ℕ). x ∷ cs) ends.first;
}

empty_name : (strings : List ℕ) → HasNulEnds strings → NameAt strings 0 []
empty_name strings ends = record { text = empty_text strings ends; utf8 = search rules }

-- the words of the first item, and what is left after them
record FirstWords (o : Order) (bytes : List ℕ) (at strings_at flag first second : ℕ) (more : List ℕ) (is : List TypeItem) (v : List TypeRecord) : Type 0 where
  pub inside : at + 4 * length (first ∷ second ∷ more) ≤ length bytes
  pub word : word32_at o bytes at ≡ first
  pub second_word : word32_at o bytes (at + 4) ≡ second
  pub third_word : (third : ℕ) → more ≡ third ∷ [] → word32_at o bytes (at + 8) ≡ third
  pub rest : Rest o bytes (at + 4 * length (first ∷ second ∷ more)) strings_at flag is v

first_words : (o : Order) (bytes : List ℕ) (at strings_at flag : ℕ) (i : TypeItem) (is : List TypeItem) (v : List TypeRecord) (r : Rest o bytes at strings_at flag (i ∷ is) v)
    (first second : ℕ) (more : List ℕ) (words : List (List ℕ))
    → r.words ≡ (first ∷ second ∷ more) ∷ words → AllZip (ItemEncodes r.strings flag) is words → FirstWords o bytes at strings_at flag first second more is v
first_words o bytes at strings_at flag i is v r first second more words e zip =
    let after = concat r.encodings ++ r.tail in
    let front = first ∷ second ∷ more in
    let here : drop at bytes ≡ bytes_of o (front ++ concat words) ++ after = r.here ∙ ap (λ (x : List (List ℕ)). bytes_of o (concat x) ++ after) e in
    let fit : (i : ℕ) → slice_index (front ++ concat words) i < 2 ^ 32 = subst (λ (x : List (List ℕ)). (i : ℕ) → slice_index (concat x) i < 2 ^ 32) e r.fit in
    let all = words_here o bytes at first (second ∷ more) (concat words) after here fit in
    let one = words_here o bytes at first [] ((second ∷ more) ++ concat words) after here fit in
    let two = words_here o bytes (at + 4) second [] (more ++ concat words) after one.left one.fit in
    record {
      inside = all.inside;
      word = all.word;
      second_word = two.word;
      third_word = λ third is_third.
          let left : drop (at + 4 + 4) bytes ≡ bytes_of o ((third ∷ []) ++ concat words) ++ after = two.left ∙ ap (λ (x : List ℕ). bytes_of o (x ++ concat words) ++ after) is_third in
          let fits : (i : ℕ) → slice_index ((third ∷ []) ++ concat words) i < 2 ^ 32 = subst (λ (x : List ℕ). (i : ℕ) → slice_index (x ++ concat words) i < 2 ^ 32) is_third two.fit in
          let three = words_here o bytes (at + 4 + 4) third [] (concat words) after left fits in
          ap (λ (n : ℕ). word32_at o bytes n) (omega arith) ∙ three.word;
      rest = record {
        strings = r.strings;
        words = words;
        encodings = r.encodings;
        tail = r.tail;
        items = zip;
        fit = all.fit;
        types = r.types;
        here = all.left;
        strings_are = r.strings_are;
        named = r.named;
        short = r.short;
        ends = r.ends;
      };
    }

-- the parts of the offset field of a member
record Parts (flag bit_offset width word : ℕ) : Type 0 where
  pub low : bit_offset ≡ low_part flag word
  pub high : width ≡ high_part flag word

parts_of : (flag bit_offset width word : ℕ) → MemberWord flag bit_offset width word → Parts flag bit_offset width word
parts_of flag bit_offset width word (inl h) = record {
  low = subst (λ (f : ℕ). bit_offset ≡ low_part f word) (sym h.0) (sym h.2);
  high = subst (λ (f : ℕ). width ≡ high_part f word) (sym h.0) h.1;
}
parts_of flag bit_offset width word (inr h) =
    let low : bit_offset ≡ word % 2 ^ 24 = omega (arith, h.1, h.2) in
    let high : width ≡ word / 2 ^ 24 = omega (arith, h.1, h.2) in
    record {
      low = subst (λ (f : ℕ). bit_offset ≡ low_part f word) (sym h.0) low;
      high = subst (λ (f : ℕ). width ≡ high_part f word) (sym h.0) high;
    }

-- the words of the first item, and of the others
record ZipCons (strings : List ℕ) (flag : ℕ) (i : TypeItem) (is : List TypeItem) (words : List (List ℕ)) : Type 0 where
  pub first : List ℕ
  pub others : List (List ℕ)
  pub cut : words ≡ first ∷ others
  pub encodes : ItemEncodes strings flag i first
  pub zip : AllZip (ItemEncodes strings flag) is others

zip_cons : (strings : List ℕ) (flag : ℕ) (i : TypeItem) (is : List TypeItem) (words : List (List ℕ)) → AllZip (ItemEncodes strings flag) (i ∷ is) words → ZipCons strings flag i is words
zip_cons strings flag i is [] h = absurd h
zip_cons strings flag i is (w ∷ words) h = record { first = w; others = words; cut = refl; encodes = h.0; zip = h.1 }

-- an item whose first field is its name
taken_named : (o : Order) (bytes : List ℕ) (at strings_at flag : ℕ) (i : TypeItem) (is : List TypeItem) (v : List TypeRecord) (r : Rest o bytes at strings_at flag (i ∷ is) v)
    (offset second : ℕ) (more : List ℕ) → FirstWords o bytes at strings_at flag offset second more is v → 4 * length (offset ∷ second ∷ more) ≡ item_bytes (item_parts i).kind
    → item_name_at (item_parts i).kind strings_at offset ≡ strings_at + offset → NameAt r.strings offset (item_name i)
    → item_parts i ≡ words_row (item_parts i).kind flag (word32_at o bytes at) (word32_at o bytes (at + 4)) (word32_at o bytes (at + 8))
    → TakesItem o bytes at strings_at flag i is v
taken_named o bytes at strings_at flag i is v r offset second more w len at_offset name fields =
    let kind = (item_parts i).kind in
    let f = name_fits r.strings offset (item_name i) name.text in
    let is_at : item_name_at kind strings_at (word32_at o bytes at) ≡ strings_at + offset = ap (λ (n : ℕ). item_name_at kind strings_at n) w.word ∙ at_offset in
    record {
      room = subst (λ (n : ℕ). at + n ≤ length bytes) len w.inside;
      fields = fields;
      fits = omega (arith, is_at, f.short, r.short);
      named = subst (λ (n : ℕ). NameAt bytes n (item_name i)) (sym is_at) (r.named offset (item_name i) name);
      long = omega (arith, f.short, r.short);
      rest = subst (λ (n : ℕ). Rest o bytes (at + n) strings_at flag is v) len w.rest;
    }

taken : (o : Order) (bytes : List ℕ) (at strings_at flag : ℕ) (i : TypeItem) (is : List TypeItem) (v : List TypeRecord) (r : Rest o bytes at strings_at flag (i ∷ is) v)
    → ZipCons r.strings flag i is r.words → TakesItem o bytes at strings_at flag i is v
taken o bytes at strings_at flag (Member name target bit_offset width) is v r z =
    let s = z.encodes in
    let i = Member name target bit_offset width in
    let w = first_words o bytes at strings_at flag i is v r s.0 target (s.1 ∷ []) z.others (z.cut ∙ ap (λ (x : List ℕ). x ∷ z.others) s.4) z.zip in
    let p = parts_of flag bit_offset width s.1 s.3 in
    let row : ℕ → ℕ → ℕ → ItemRow = λ t b n. record (bare_item 1) { target = t; bit_offset = b; width = n } in
    taken_named o bytes at strings_at flag i is v r s.0 target (s.1 ∷ []) w refl refl s.2
    (ap (λ (b : ℕ). row target b width) p.low
    ∙ ap (λ (n : ℕ). row target (low_part flag s.1) n) p.high
    ∙ ap (λ (c : ℕ). row target (low_part flag c) (high_part flag c)) (sym (w.third_word s.1 refl))
    ∙ ap (λ (t : ℕ). row t (low_part flag (word32_at o bytes (at + 8))) (high_part flag (word32_at o bytes (at + 8)))) (sym w.second_word))
taken o bytes at strings_at flag (EnumValue name value) is v r z =
    let s = z.encodes in
    let i = EnumValue name value in
    let w = first_words o bytes at strings_at flag i is v r s.0 value [] z.others (z.cut ∙ ap (λ (x : List ℕ). x ∷ z.others) s.2) z.zip in
    taken_named o bytes at strings_at flag i is v r s.0 value [] w refl refl s.1 (ap (λ (n : ℕ). item_parts (EnumValue name n)) (sym w.second_word))
taken o bytes at strings_at flag (Value64 name value) is v r z =
    let s = z.encodes in
    let i = Value64 name value in
    let low = value % 2 ^ 32 in
    let high = value / 2 ^ 32 in
    let w = first_words o bytes at strings_at flag i is v r s.0 low (high ∷ []) z.others (z.cut ∙ ap (λ (x : List ℕ). x ∷ z.others) s.2) z.zip in
    let whole : value ≡ word32_at o bytes (at + 4) + 2 ^ 32 * word32_at o bytes (at + 8) = omega (arith, w.second_word, w.third_word high refl) in
    taken_named o bytes at strings_at flag i is v r s.0 low (high ∷ []) w refl refl s.1 (ap (λ (n : ℕ). item_parts (Value64 name n)) whole)
taken o bytes at strings_at flag (Param name target) is v r z =
    let s = z.encodes in
    let i = Param name target in
    let w = first_words o bytes at strings_at flag i is v r s.0 target [] z.others (z.cut ∙ ap (λ (x : List ℕ). x ∷ z.others) s.2) z.zip in
    taken_named o bytes at strings_at flag i is v r s.0 target [] w refl refl s.1 (ap (λ (n : ℕ). item_parts (Param name n)) (sym w.second_word))
taken o bytes at strings_at flag (Entry target offset size) is v r z =
    let i = Entry target offset size in
    let w = first_words o bytes at strings_at flag i is v r target offset (size ∷ []) z.others (z.cut ∙ ap (λ (x : List ℕ). x ∷ z.others) z.encodes) z.zip in
    let name = empty_name r.strings r.ends in
    record {
      room = w.inside;
      fields =
          ap (λ (t : ℕ). item_parts (Entry t offset size)) (sym w.word)
          ∙ ap (λ (n : ℕ). item_parts (Entry (word32_at o bytes at) n size)) (sym w.second_word)
          ∙ ap (λ (n : ℕ). item_parts (Entry (word32_at o bytes at) (word32_at o bytes (at + 4)) n)) (sym (w.third_word size refl));
      fits = omega (arith, r.short);
      named = subst (λ (n : ℕ). NameAt bytes n []) (add-zero strings_at) (r.named 0 [] name);
      long = omega arith;
      rest = w.rest;
    }

take_item : (o : Order) (bytes : List ℕ) (at strings_at flag : ℕ) (i : TypeItem) (is : List TypeItem) (v : List TypeRecord) → Rest o bytes at strings_at flag (i ∷ is) v
    → TakesItem o bytes at strings_at flag i is v
take_item o bytes at strings_at flag i is v r = taken o bytes at strings_at flag i is v r (zip_cons r.strings flag i is r.words r.items)

least : (a b : Bool) → 8 ≤ (if a then 8 else if b then 8 else 12)
least true b = lit≤ tt
least false true = lit≤ tt
least false false = lit≤ tt

-- item k of a type whose items are of a kind, by the number in their records
pub record NextItem (o : Order) (bytes : List ℕ) (at strings_at kind flag : ℕ) (is : List TypeItem) (k : ℕ) (v : List TypeRecord) : Type 0 where
  pub item : TypeItem
  pub is_there : slice_get is k ≡ Some item
  pub first : at + 4 ≤ length bytes
  pub room : at + item_bytes kind ≤ length bytes
  pub fields : item_parts item ≡ words_row kind flag (word32_at o bytes at) (word32_at o bytes (at + 4)) (word32_at o bytes (at + 8))
  pub fits : item_name_at kind strings_at (word32_at o bytes at) < 2 ^ 32
  pub named : NameAt bytes (item_name_at kind strings_at (word32_at o bytes at)) (item_name item)
  pub at_offset : item_name_at kind strings_at (word32_at o bytes at) ≡ header_strings o bytes + item_name_off o bytes (at, item)
  pub long : length (item_name item) < 2 ^ 32
  pub rest : Rest o bytes (at + item_bytes kind) strings_at flag (drop (k + 1) is) v

new_name_offset : (o : Order) (bytes : List ℕ) (at strings_at : ℕ) (i : TypeItem) → item_name_at (item_parts i).kind strings_at (word32_at o bytes at) ≡ strings_at + item_name_off o bytes (at, i)
new_name_offset o bytes at strings_at (Member name target bit_offset width) = refl
new_name_offset o bytes at strings_at (EnumValue name value) = refl
new_name_offset o bytes at strings_at (Value64 name value) = refl
new_name_offset o bytes at strings_at (Param name target) = refl
new_name_offset o bytes at strings_at (Entry target offset size) = sym (add-zero strings_at)

of_kind : (o : Order) (bytes : List ℕ) (at strings_at kind flag : ℕ) (is : List TypeItem) (k : ℕ) (v : List TypeRecord) (i : TypeItem) → slice_get is k ≡ Some i → (item_parts i).kind ≡ kind
    → TakesItem o bytes at strings_at flag i (drop (k + 1) is) v → NextItem o bytes at strings_at kind flag is k v
of_kind o bytes at strings_at kind flag is k v i there same t =
    let room : at + item_bytes kind ≤ length bytes = subst (λ (n : ℕ). at + item_bytes n ≤ length bytes) same t.room in
    record {
      item = i;
      is_there = there;
      first = omega (arith, room, least (kind == 2) (kind == 4));
      room = room;
      fields = subst (λ (n : ℕ). item_parts i ≡ words_row n flag (word32_at o bytes at) (word32_at o bytes (at + 4)) (word32_at o bytes (at + 8))) same t.fields;
      fits = subst (λ (n : ℕ). item_name_at n strings_at (word32_at o bytes at) < 2 ^ 32) same t.fits;
      named = subst (λ (n : ℕ). NameAt bytes (item_name_at n strings_at (word32_at o bytes at)) (item_name i)) same t.named;
      at_offset =
          ap (λ (n : ℕ). item_name_at n strings_at (word32_at o bytes at)) (sym same)
          ∙ new_name_offset o bytes at strings_at i
          ∙ ap (λ (n : ℕ). n + item_name_off o bytes (at, i)) t.rest.strings_are;
      long = t.long;
      rest = subst (λ (n : ℕ). Rest o bytes (at + item_bytes n) strings_at flag (drop (k + 1) is) v) same t.rest;
    }

pub next_item : (o : Order) (bytes : List ℕ) (at strings_at kind flag : ℕ) (is : List TypeItem) (k : ℕ) (v : List TypeRecord) → All (λ i. (item_parts i).kind ≡ kind) is → k < length is
    → Rest o bytes at strings_at flag (drop k is) v → NextItem o bytes at strings_at kind flag is k v
next_item o bytes at strings_at kind flag [] k v each h r = absurd (omega arith)
next_item o bytes at strings_at kind flag (d ∷ is) k v each h r =
    let all = d ∷ is in
    let i = get_or all k d in
    let there : slice_get all k ≡ Some i = slice_get-get_or all k d h in
    of_kind o bytes at strings_at kind flag all k v i there (All-get_or (λ i. (item_parts i).kind ≡ kind) all k d h each)
    (take_item o bytes at strings_at flag i (drop (k + 1) all) v (subst (λ (xs : List TypeItem). Rest o bytes at strings_at flag xs v) (cut_at all k i h there) r))

no_words : (strings : List ℕ) (flag : ℕ) (words : List (List ℕ)) → AllZip (ItemEncodes strings flag) [] words → AllZip (ItemEncodes strings 0) [] words
no_words strings flag [] h = h
no_words strings flag (w ∷ words) h = absurd h

-- after the last item the kind_flag doesn't matter
pub ended : (o : Order) (bytes : List ℕ) (at strings_at flag : ℕ) (is : List TypeItem) (k : ℕ) (v : List TypeRecord) → length is ≤ k → Rest o bytes at strings_at flag (drop k is) v
    → Rest o bytes at strings_at 0 [] v
ended o bytes at strings_at flag is k v h r =
    let left : Rest o bytes at strings_at flag [] v = subst (λ (xs : List TypeItem). Rest o bytes at strings_at flag xs v) (drop_all k is h) r in
    record {
      strings = left.strings;
      words = left.words;
      encodings = left.encodings;
      tail = left.tail;
      items = no_words left.strings flag left.words left.items;
      fit = left.fit;
      types = left.types;
      here = left.here;
      strings_are = left.strings_are;
      named = left.named;
      short = left.short;
      ends = left.ends;
    }

-- ---- a record

pub record TakesHead (o : Order) (bytes : List ℕ) (at strings_at : ℕ) (r : TypeRecord) (v : List TypeRecord) : Type 0 where
  pub room : at + head_bytes r.head ≤ length bytes
  pub fits : strings_at + word32_at o bytes at < 2 ^ 32
  pub named : NameAt bytes (strings_at + word32_at o bytes at) (head_name r.head)
  pub long : length (head_name r.head) < 2 ^ 32
  pub few : length r.items < 2 ^ 16
  pub rest : Rest o bytes (at + head_bytes r.head) strings_at (flag_of (word32_at o bytes (at + 4))) r.items v

-- the encoding of the first record, and of the others, where no item is left
record RecordCons (o : Order) (strings : List ℕ) (r : TypeRecord) (v : List TypeRecord) (words encodings : List (List ℕ)) : Type 0 where
  pub none : words ≡ []
  pub fields : List ℕ
  pub others : List (List ℕ)
  pub cut : encodings ≡ bytes_of o fields ∷ others
  pub encodes : Encodes strings r fields
  pub zip : AllZip (IsRecord o strings) v others

record_cons : (o : Order) (strings : List ℕ) (flag : ℕ) (r : TypeRecord) (v : List TypeRecord) (words encodings : List (List ℕ)) → AllZip (ItemEncodes strings flag) [] words
    → AllZip (IsRecord o strings) (r ∷ v) encodings → RecordCons o strings r v words encodings
record_cons o strings flag r v (w ∷ words) encodings h z = absurd h
record_cons o strings flag r v [] [] h z = absurd z
record_cons o strings flag r v [] (s ∷ encodings) h z =
    record { none = refl; fields = z.0.0; others = encodings; cut = ap (λ (x : List ℕ). x ∷ encodings) z.0.2; encodes = z.0.1; zip = z.1 }

pub take_head : (o : Order) (bytes : List ℕ) (at strings_at : ℕ) (r : TypeRecord) (v : List TypeRecord) → Rest o bytes at strings_at 0 [] (r ∷ v)
    → TakesHead o bytes at strings_at r v
take_head o bytes at strings_at r v rest =
    let c = record_cons o rest.strings 0 r v rest.words rest.encodings rest.items rest.types in
    let s = c.encodes in
    let after = concat c.others ++ rest.tail in
    let word = info (kind_number r.head) (record_vlen r) s.flag in
    let more = word ∷ head_third r.head ∷ head_tail r.head in
    let front = s.name_offset ∷ more in
    let here : drop at bytes ≡ bytes_of o (front ++ concat s.item_words) ++ after =
    rest.here
    ∙ ap (λ (x : List (List ℕ)). bytes_of o (concat x) ++ (concat rest.encodings ++ rest.tail)) c.none
    ∙ ap (λ (x : List (List ℕ)). concat x ++ rest.tail) c.cut
    ∙ append_assoc (bytes_of o c.fields) (concat c.others) rest.tail
    ∙ ap (λ (x : List ℕ). bytes_of o x ++ after) s.whole
    in
    let fit : (i : ℕ) → slice_index (front ++ concat s.item_words) i < 2 ^ 32 = subst (λ (x : List ℕ). (i : ℕ) → slice_index x i < 2 ^ 32) s.whole s.fit in
    let w = words_here o bytes at s.name_offset more (concat s.item_words) after here fit in
    let one = words_here o bytes at s.name_offset [] (more ++ concat s.item_words) after here fit in
    let two = words_here o bytes (at + 4) word (head_third r.head ∷ head_tail r.head) (concat s.item_words) after one.left one.fit in
    let parts = info_parts (kind_number r.head) (record_vlen r) s.flag (kind_below r.head) (vlen_below r.head r.items s.items_fit) (flag_below r.head s.flag s.flag_encodes) in
    let flag : flag_of (word32_at o bytes (at + 4)) ≡ s.flag = ap flag_of two.word ∙ parts.flag in
    let f = name_fits rest.strings s.name_offset (head_name r.head) s.name.text in
    let len : 4 * length front ≡ head_bytes r.head = omega arith in
    record {
      room = omega (arith, w.inside, len);
      fits = omega (arith, w.word, f.short, rest.short);
      named = subst (λ (n : ℕ). NameAt bytes (strings_at + n) (head_name r.head)) (sym w.word) (rest.named s.name_offset (head_name r.head) s.name);
      long = omega (arith, f.short, rest.short);
      few = s.items_fit;
      rest = subst (λ (f : ℕ). Rest o bytes (at + head_bytes r.head) strings_at f r.items v) (sym flag) (record {
        strings = rest.strings;
        words = s.item_words;
        encodings = c.others;
        tail = rest.tail;
        items = s.items;
        fit = w.fit;
        types = c.zip;
        here = ap (λ (n : ℕ). drop (at + n) bytes) (sym len) ∙ w.left;
        strings_are = rest.strings_are;
        named = rest.named;
        short = rest.short;
        ends = rest.ends;
      });
    }
