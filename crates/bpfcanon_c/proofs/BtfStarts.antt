-- Where the types of a file begin, and how many records and items it can have.
use Rattle.std.proofs.Common.{◌≡◌, ◌<◌, ◌≤◌, ◌+◌, ◌*◌, ◌^◌, ◌++◌, ◌∙◌, ℕ, List, [], ◌∷◌, length, take, drop, sym, ap, arith, append_assoc, length-append, subst, inl, inr, rules, length-take-le, length-take}
use Rattle.std.specs.List.{AllZip, concat}
use Rattle.std.proofs.lemmas.List.{take-append-drop}
use Rattle.bpf_words.specs.declared.Order.{Order}
use Rattle.btf_raw.specs.declared.header.Header.{Header}
use Rattle.btf_raw.specs.{Header.Cut, Header.header, Header.part, Names.TextAt, ReadHeader.ReadsHeader}
use Rattle.btf_raw.proofs.{Cuts.cut_unique, Cuts.length-header, Frames.length-bytes_of}
use Rattle.btf_types.specs.Values.{TypeItem, Member, EnumValue, Value64, Param, Entry, TypeRecord}
use Rattle.btf_types.specs.{Denotes.Denotes, Encoding.IsRecord, Encoding.ItemEncodes, Encoding.head_tail}
use Rattle.bpfcanon_c.specs.{BtfRest.Rest, BtfRows.items_of}

-- ---- lengths

item_long : (strings : List ℕ) (flag : ℕ) (i : TypeItem) (words : List ℕ) → ItemEncodes strings flag i words → 2 ≤ length words
item_long strings flag (Member name target bit_offset width) words s = omega (arith, ap length s.4)
item_long strings flag (EnumValue name value) words s = omega (arith, ap length s.2)
item_long strings flag (Value64 name value) words s = omega (arith, ap length s.2)
item_long strings flag (Param name target) words s = omega (arith, ap length s.2)
item_long strings flag (Entry target offset size) words s = omega (arith, ap length s)

items_long : (strings : List ℕ) (flag : ℕ) (is : List TypeItem) (words : List (List ℕ)) → AllZip (ItemEncodes strings flag) is words → 2 * length is ≤ length (concat words)
items_long strings flag [] words h = omega arith
items_long strings flag (i ∷ is) [] h = absurd h
items_long strings flag (i ∷ is) (w ∷ words) h = omega (arith, item_long strings flag i w h.0, items_long strings flag is words h.1, length-append w (concat words))

record_long : (o : Order) (strings : List ℕ) (r : TypeRecord) (bytes : List ℕ) → IsRecord o strings r bytes → 12 + 8 * length r.items ≤ length bytes
record_long o strings r bytes s =
    omega (arith, ap length s.2, length-bytes_of o s.0, ap length s.1.whole, length-append (head_tail r.head) (concat s.1.item_words), items_long strings s.1.flag r.items s.1.item_words s.1.items)

records_long : (o : Order) (strings : List ℕ) (v : List TypeRecord) (encodings : List (List ℕ)) → AllZip (IsRecord o strings) v encodings
    → 12 * length v + 8 * length (items_of v) ≤ length (concat encodings)
records_long o strings [] encodings h = omega arith
records_long o strings (r ∷ v) [] h = absurd h
records_long o strings (r ∷ v) (s ∷ encodings) h =
    omega (arith, record_long o strings r s h.0, records_long o strings v encodings h.1, length-append s (concat encodings), length-append r.items (items_of v))

record CutLong (b types strings : List ℕ) : Type 0 where
  pub whole : length types + length strings ≤ length b
  pub short : length b ≤ 50335744

cut_long : (b : List ℕ) (o : Order) (types strings : List ℕ) → Cut b o types strings → CutLong b types strings
cut_long b o types strings cut =
    let n = cut.header_len in
    let t = length types in
    let s = length strings in
    elim cut.parts [
      | inl is ↦ record {
        whole = omega (arith, ap length is, length-append (header o n 0 t t s ++ types) strings, length-append (header o n 0 t t s) types);
        short = omega (arith, ap length is, length-append (header o n 0 t t s ++ types) strings, length-append (header o n 0 t t s) types, length-header o n 0 t t s cut.at_least, cut.at_most, cut.types_fit, cut.strings_fit);
      }
      | inr is ↦ record {
        whole = omega (arith, ap length is, length-append (header o n s t 0 s ++ strings) types, length-append (header o n s t 0 s) strings);
        short = omega (arith, ap length is, length-append (header o n s t 0 s ++ strings) types, length-append (header o n s t 0 s) strings, length-header o n s t 0 s cut.at_least, cut.at_most, cut.types_fit, cut.strings_fit);
      }
    ]

-- ---- the start

-- a string of a part of the file is in the file
named_in : (b : List ℕ) (pos len : ℕ) (strings : List ℕ) → strings ≡ part b pos len → pos ≤ length b → (offset : ℕ) (name : List ℕ) → TextAt strings offset name
    → TextAt b (pos + offset) name
named_in b pos len strings e within offset name t =
    let rest = drop len (drop pos b) in
    let front = take pos b in
    let cut : b ≡ front ++ (strings ++ rest) =
    sym (take-append-drop pos b) ∙ ap (λ (x : List ℕ). front ++ x) (sym (take-append-drop len (drop pos b)) ∙ ap (λ (x : List ℕ). x ++ rest) (sym e))
    in
    record {
      without_nul = t.without_nul;
      before = front ++ t.before;
      after = t.after ++ rest;
      at_offset = omega (arith, length-append front t.before, t.at_offset, length-take-le pos b within);
      is_there = cut ∙ ap (λ (x : List ℕ). front ++ (x ++ rest)) t.is_there ∙ simp append_assoc;
    }

pub record Starts (b : List ℕ) (h : Header) (v : List TypeRecord) (d : Denotes b v) : Type 0 where
  pub order : h.order ≡ d.order
  pub rest : Rest h.order b h.types_pos h.str_pos 0 [] v
  pub fits : 12 * length v + 8 * length (items_of v) ≤ length b
  pub short : length b ≤ 50335744
  pub strings_short : h.str_pos < 2 ^ 32

pub starts : (b : List ℕ) (h : Header) (v : List TypeRecord) → ReadsHeader b h → (d : Denotes b v) → Starts b h v d
starts b h v reads d =
    let same = cut_unique b d.order h.order d.types d.strings (part b h.types_pos h.types_len) (part b h.str_pos h.str_len) d.cut reads.cut in
    let long = cut_long b d.order d.types d.strings d.cut in
    let strings_long : length d.strings ≤ h.str_len = omega (arith, ap length same.strings, length-take h.str_len (drop h.str_pos b)) in
    record {
      order = sym same.order;
      rest = record {
        strings = d.strings;
        words = [];
        encodings = d.encodings;
        tail = drop h.types_len (drop h.types_pos b);
        items = search rules;
        fit = λ i. search rules;
        types = subst (λ (o : Order). AllZip (IsRecord o d.strings) v d.encodings) same.order d.encoded;
        here =
            sym (take-append-drop h.types_len (drop h.types_pos b))
            ∙ ap (λ (x : List ℕ). x ++ drop h.types_len (drop h.types_pos b)) (sym same.types ∙ d.whole);
        strings_are = reads.str_pos;
        named = λ offset name n. record { text = named_in b h.str_pos h.str_len d.strings same.strings (omega (arith, reads.strings_there)) offset name n.text; utf8 = n.utf8 };
        short = omega (arith, strings_long, reads.strings_there, long.short);
        ends = d.nul_ends;
      };
      fits = omega (arith, records_long d.order d.strings v d.encodings d.encoded, ap length d.whole, long.whole);
      short = long.short;
      strings_short = omega (arith, reads.strings_there, long.short);
    }
