-- The part of the strings that names use: one name or one type more, or the cause why there isn't one.
use Rattle.std.proofs.Common.{◌≡◌, ◌<◌, ◌≤◌, ◌+◌, ◌-◌, ◌++◌, ◌∙◌, ℕ, List, [], ◌∷◌, length, take, get_or, refl, sym, ap, subst, inl, inr, arith}
use Rattle.std.specs.Prelude.{slice_get}
use Rattle.std.specs.List.{All, sum_by}
use Rattle.std.proofs.lemmas.List.{take_more, take_all}
use Rattle.std.proofs.lemmas.List.Elements.{All-head, All-more, All-same, All-weaker}
use Rattle.std.proofs.lemmas.List.Sums.{sum_by_push, sum_by-take-le}
use Rattle.std.proofs.lemmas.Option.{slice_get-get_or}
use Rattle.btf_raw.specs.Header.{TYPES_LIMIT}
use Rattle.btf_raw.specs.declared.cause.BtfCause.{BtfCause}
use Rattle.btf_raw.specs.declared.cause.BtfCause.TheVariants.{TypeLength, StringLength, KindNumber, TailCut, NameRange}
use Rattle.bpf_canon.proofs.BtfLemmas.CanonicalEncodes.{All-front, All-back}
use Rattle.bpfcanon_c.specs.declared.btf_rows.{TypeRow.TypeRow, ItemRow.ItemRow}
use Rattle.bpfcanon_c.specs.declared.btf_plain.NamesPart.{NamesPart}
use Rattle.bpfcanon_c.specs.BtfSaying.{IsNear, AreNear, own_rows}
use Rattle.bpfcanon_c.specs.BtfPlain.{HasName, IsWhole, IsNamesPart, HoldsName, HoldsNames, row_size}
use Rattle.bpfcanon_c.specs.BtfPlanSteps.{IsLarger, IsPartIn, AddsName, AddsNames, AddsType, AddsTypes, IsItemRefused, NameRefusal, TypeRefusal}
use Rattle.bpfcanon_c.specs.BtfRefusal.{AreNearWith, CanBeWritten, HasItems, IsItemFault, IsUnwritten, LastFault, NameFault, IsIndexAt}

record FirstAndNext {X : Type 0} (P : X → Type 0) (first : List X) (next : X) : Type 0 where
  first-all : All P first
  next-is : P next

all_of_more : {X : Type 0} (P : X → Type 0) (xs : List X) (k : ℕ) (d : X) → k < length xs → All P (take (k + 1) xs) → FirstAndNext P (take k xs) (get_or xs k d)
all_of_more P xs k d h all =
    let last = get_or xs k d ∷ [] in
    let both : All P (take k xs ++ last) = All-same P (take k xs ++ last) (take (k + 1) xs) (sym (take_more xs k d h)) all in
    record { first-all = All-front P (take k xs) last both; next-is = All-head P (get_or xs k d) [] (All-back P (take k xs) last both) }

-- ---- one name more

pub names_more : (strings : List ℕ) (p q q' : NamesPart) (r : TypeRow) (own : List ItemRow) (k : ℕ) (d : ItemRow) → k < length own → AddsNames strings p q r (take k own)
    → AddsName strings q q' (get_or own k d).name (get_or own k d).name_len → AddsNames strings p q' r (take (k + 1) own)
names_more strings p q q' r own k d h before one = record {
  part = one.part;
  larger = λ at len held. one.larger at len (before.larger at len held);
  name = one.larger r.name r.name_len before.name;
  names =
      All-more (λ (i : ItemRow). HoldsName q' i.name i.name_len) own k d h
      (All-weaker (λ (i : ItemRow). HoldsName q i.name i.name_len) (λ (i : ItemRow). HoldsName q' i.name i.name_len) (λ i held. one.larger i.name i.name_len held) (take k own) before.names) one.holds;
  has_name = before.has_name;
  has_names = All-more (λ (i : ItemRow). HasName strings i.name i.name_len) own k d h before.has_names one.has;
  within = λ start in' name all.
      let parts = all_of_more (λ (i : ItemRow). IsNear start i.name i.name_len) own k d h all in
      one.within start (before.within start in' name parts.first-all) parts.next-is;
}

pub item_refused : (strings : List ℕ) (items : List ItemRow) (p q : NamesPart) (r : TypeRow) (own : List ItemRow) (k : ℕ) (d : ItemRow) (c : BtfCause) → HasItems items r → own ≡ own_rows items r
    → k < length own → AddsNames strings p q r (take k own) → NameRefusal strings q (get_or own k d).name (get_or own k d).name_len c → TypeRefusal strings items p r c
item_refused strings items p q r own k d KindNumber has e h before none = absurd none
item_refused strings items p q r own k d TailCut has e h before none = absurd none
item_refused strings items p q r own k d c has e h before none = (
  has,
  inr (
    k,
    record {
      item = get_or own k d;
      item_is = ap (λ (t : List ItemRow). slice_get t k) (sym e) ∙ slice_get-get_or own k d h;
      q = q;
      before = subst (λ (t : List ItemRow). AddsNames strings p q r (take k t)) e before;
      none = none;
    },
  ),
)

-- ---- one type more

still_held : (p q : NamesPart) (items : List ItemRow) → IsLarger p q → (r : TypeRow) → HoldsNames p items r → HoldsNames q items r
still_held p q items larger r held = record {
  name = larger r.name r.name_len held.name;
  names = All-weaker (λ (i : ItemRow). HoldsName p i.name i.name_len) (λ (i : ItemRow). HoldsName q i.name i.name_len) (λ i h. larger i.name i.name_len h) (own_rows items r) held.names;
}

pub sizes_are : (types : List TypeRow) (k : ℕ) (d : TypeRow) → k < length types → sum_by row_size (take (k + 1) types) ≡ sum_by row_size (take k types) + row_size (get_or types k d)
sizes_are types k d h = ap (λ (ts : List TypeRow). sum_by row_size ts) (take_more types k d h) ∙ sum_by_push row_size (take k types) (get_or types k d)

pub types_more : (strings : List ℕ) (items : List ItemRow) (p q : NamesPart) (len len' : ℕ) (types : List TypeRow) (k : ℕ) (d : TypeRow) → k < length types
    → AddsTypes strings items p len (take k types) → AddsType strings items p q (get_or types k d) → len' ≡ len + row_size (get_or types k d) → len' ≤ TYPES_LIMIT
    → AddsTypes strings items q len' (take (k + 1) types)
types_more strings items p q len len' types k d h before one more fits = record {
  part = one.part;
  holds = All-more (HoldsNames q items) types k d h (All-weaker (HoldsNames p items) (HoldsNames q items) (still_held p q items one.larger) (take k types) before.holds) one.holds;
  whole = All-more (IsWhole strings items) types k d h before.whole one.whole;
  within = λ start all.
      let parts = all_of_more (AreNear items start) types k d h all in
      one.within start (before.within start parts.first-all) parts.next-is;
  size = more ∙ ap (λ (n : ℕ). n + row_size (get_or types k d)) before.size ∙ sym (sizes_are types k d h);
  fits = fits;
}

-- names of one part are near
name_near : (strings : List ℕ) (p : NamesPart) (at len : ℕ) → IsNamesPart strings p → HoldsName p at len → IsNear p.start at len
name_near strings p at len part held = record { after = held.after; before = λ some. let low = held.before some in omega (arith, part.short) }

pub names_near : (strings : List ℕ) (items : List ItemRow) (p : NamesPart) → IsNamesPart strings p → (r : TypeRow) → HoldsNames p items r → AreNear items p.start r
names_near strings items p part r held = record {
  own = name_near strings p r.name r.name_len part held.name;
  each = All-weaker (λ (i : ItemRow). HoldsName p i.name i.name_len) (λ (i : ItemRow). IsNear p.start i.name i.name_len) (λ i n. name_near strings p i.name i.name_len part n) (own_rows items r) held.names;
}

written : (strings : List ℕ) (items : List ItemRow) (p : NamesPart) (len : ℕ) (types : List TypeRow) → AddsTypes strings items p len types → CanBeWritten strings types items
written strings items p len types a = record {
  whole = a.whole;
  short = omega (arith, a.size, a.fits);
  start = p.start;
  near = All-weaker (HoldsNames p items) (AreNear items p.start) (names_near strings items p a.part) types a.holds;
}

-- a fault with those names before it that are near by another word
fault_with : (strings : List ℕ) (Before Before' : ℕ → Type 0) (at len : ℕ) (c : BtfCause) → ((start : ℕ) → Before' start → Before start) → NameFault strings Before at len c → NameFault strings Before' at len c
fault_with strings Before Before' at len NameRange given fault = fault
fault_with strings Before Before' at len StringLength given fault = (fault.0, λ start before. fault.1 start (given start before))
fault_with strings Before Before' at len c given fault = absurd fault

item_fault : (strings : List ℕ) (items : List ItemRow) (p : NamesPart) (len : ℕ) (types : List TypeRow) (r : TypeRow) (k : ℕ) (c : BtfCause) → AddsTypes strings items p len types
    → IsItemRefused strings items p r k c → IsItemFault strings items types r k c
item_fault strings items p len types r k c before none =
    let own = take k (own_rows items r) in
    let q = none.q in
    let adds = none.before in
    record {
      item = none.item;
      item_is = none.item_is;
      has_name = adds.has_name;
      has_names = adds.has_names;
      start = q.start;
      near = record {
        types-near = All-weaker (HoldsNames p items) (AreNear items q.start) (λ r held. names_near strings items q adds.part r (still_held p q items adds.larger r held)) types before.holds;
        name-near = name_near strings q r.name r.name_len adds.part adds.name;
        names-near = All-weaker (λ (i : ItemRow). HoldsName q i.name i.name_len) (λ (i : ItemRow). IsNear q.start i.name i.name_len) (λ i held. name_near strings q i.name i.name_len adds.part held) own adds.names;
      };
      fault =
          fault_with strings (λ start. IsPartIn start q) (AreNearWith items types r own) none.item.name none.item.name_len c
          (λ start near. adds.within start (before.within start near.types-near) near.name-near near.names-near) none.none;
    }

last_fault : (strings : List ℕ) (items : List ItemRow) (p : NamesPart) (len : ℕ) (types : List TypeRow) (r : TypeRow) (c : BtfCause) → AddsTypes strings items p len types
    → TypeRefusal strings items p r c → LastFault strings items types r c
last_fault strings items p len types r KindNumber before none = none
last_fault strings items p len types r TailCut before none = none
last_fault strings items p len types r TypeLength before none = elim none.1 [ inl own ↦ absurd own | inr at ↦ absurd at.1.none ]
last_fault strings items p len types r c before none = (
  none.0,
  elim none.1 [
    | inl own ↦ inl (fault_with strings (λ start. IsPartIn start p) (λ start. All (AreNear items start) types) r.name r.name_len c before.within own)
    | inr at ↦ inr (at.0, item_fault strings items p len types r at.0 c before at.1)
  ],
)

pub unwritten : (strings : List ℕ) (items : List ItemRow) (p : NamesPart) (len : ℕ) (types : List TypeRow) (k : ℕ) (d : TypeRow) (c : BtfCause) → k < length types → AddsTypes strings items p len (take k types)
    → TypeRefusal strings items p (get_or types k d) c → IsUnwritten strings types items c k
unwritten strings items p len types k d c h before none = record {
  row = get_or types k d;
  row_is = slice_get-get_or types k d h;
  before = written strings items p len (take k types) before;
  fault = last_fault strings items p len (take k types) (get_or types k d) c before none;
}

pub too_long : (strings : List ℕ) (items : List ItemRow) (p q : NamesPart) (len : ℕ) (types : List TypeRow) (k : ℕ) (d : TypeRow) → k < length types → AddsTypes strings items p len (take k types)
    → AddsType strings items p q (get_or types k d) → TYPES_LIMIT < len + row_size (get_or types k d) → IsUnwritten strings types items TypeLength k
too_long strings items p q len types k d h before one long = record {
  row = get_or types k d;
  row_is = slice_get-get_or types k d h;
  before = written strings items p len (take k types) before;
  fault = (
    one.whole,
    (
      q.start,
      All-weaker (HoldsNames p items) (AreNear items q.start) (λ r held. names_near strings items q one.part r (still_held p q items one.larger r held)) (take k types) before.holds,
      names_near strings items q one.part (get_or types k d) one.holds,
    ),
    omega (arith, before.size),
  );
}

-- ---- where a record is

pub index_here : (types : List TypeRow) (k left at_offset : ℕ) (d : TypeRow) → k < length types → left + sum_by row_size (take k types) ≡ at_offset - 24 → left < row_size (get_or types k d) → IsIndexAt types at_offset k
index_here types k left at_offset d h sum low = record { inside = inl h; begins = omega arith; next = inl (omega (arith, sizes_are types k d h)) }

pub index_last : (types : List TypeRow) (k left at_offset index : ℕ) → length types ≤ k → left + sum_by row_size (take k types) ≡ at_offset - 24 → index ≡ length types - 1 → IsIndexAt types at_offset index
index_last [] k left at_offset index h sum e = record { inside = inr (refl, e); begins = omega (arith, sum_by-take-le row_size [] index); next = inr (omega arith) }
index_last (r ∷ types) k left at_offset index h sum e =
    let all = ap (λ (ts : List TypeRow). sum_by row_size ts) (take_all k (r ∷ types) h) in
    record { inside = inl (omega arith); begins = omega (arith, all, sum_by-take-le row_size (r ∷ types) index); next = inr (omega arith) }
