-- How long the BTF of records is, and how it is cut.
use Rattle.std.proofs.Common.{◌≡◌, ◌⊎◌, ◌<◌, ◌+◌, ◌*◌, ◌++◌, ◌∙◌, ℕ, zero, suc, List, [], ◌∷◌, length, take, drop, refl, sym, ap, inl, inr, lit≤, arith, length-append}
use Rattle.std.specs.Prelude.{IsTrue, ◌==◌, if◌then◌else◌}
use Rattle.std.specs.List.{All, flat_map, sum_by}
use Rattle.std.proofs.lemmas.List.Elements.{All-head, All-tail}
use Rattle.std.proofs.lemmas.List.Sums.{sum_by-cons}
use Rattle.bpf_words.specs.declared.Order.{TheVariants.Little}
use Rattle.btf_raw.specs.Header.{Cut, header}
use Rattle.btf_raw.specs.Frames.{bytes_of, section_of}
use Rattle.btf_raw.specs.Kinds.{fixed_words, item_words, tail_words, is_kind}
use Rattle.btf_raw.proofs.{Frames.length-bytes_of, KindRows.kind_numbers}
use Rattle.btf_types.proofs.KindCases.{OfEach, one_among}
use Rattle.bpfcanon_c.specs.declared.btf_rows.{TypeRow.TypeRow, ItemRow.ItemRow}
use Rattle.bpfcanon_c.specs.declared.btf_plain.Plan.{Plan}
use Rattle.bpfcanon_c.specs.BtfSaying.{own_rows}
use Rattle.bpfcanon_c.specs.BtfPlain.{IsWhole, IsPlan, frames, names_section, plain, row_size, row_words, tail_of, words_of}
use Rattle.bpfcanon_c.proofs.BtfNames.{section_long}

-- what holds of each kind
of_kind : (P : ℕ → Type 0) → OfEach P kind_numbers → (k : ℕ) → IsTrue (is_kind k) → P k
unfolding is_kind
of_kind P each k h = one_among P kind_numbers k each h

tail_long : (r : TypeRow) → IsTrue (is_kind r.kind) → length (tail_of r) ≡ fixed_words r.kind
unfolding fixed_words
tail_long r h = of_kind (λ k. length (tail_of (record r { kind = k })) ≡ fixed_words k)
    (refl, (refl, (refl, (refl, (refl, (refl, (refl, (refl, (refl, (refl, (refl, (refl, (refl, (refl, (refl, (refl, (refl, (refl, (refl, tt))))))))))))))))))) r.kind h

item_long : (start : ℕ) (i : ItemRow) (k : ℕ) → IsTrue (is_kind k) → (item_words k ≡ 0) ⊎ (length (words_of start k i) ≡ item_words k)
unfolding item_words
item_long start i k h = of_kind (λ k. (item_words k ≡ 0) ⊎ (length (words_of start k i) ≡ item_words k))
    (inl refl, (inl refl, (inl refl, (inr refl, (inr refl, (inr refl, (inl refl, (inl refl, (inl refl, (inl refl, (inl refl, (inl refl, (inr refl, (inl refl, (inr refl, (inl refl, (inl refl, (inl refl, (inr refl, tt))))))))))))))))))) k h

items_long : (start k : ℕ) → IsTrue (is_kind k) → 0 < item_words k → (own : List ItemRow) → length (flat_map (words_of start k) own) ≡ item_words k * length own
items_long start k h some [] = omega arith
items_long start k h some (i ∷ own) =
    let more : item_words k * length (i ∷ own) ≡ item_words k + item_words k * length own = grind arith in
    let one : length (words_of start k i) ≡ item_words k = elim (item_long start i k h) [ inl none ↦ absurd (omega arith) | inr e ↦ e ] in
    omega (arith, more, one, items_long start k h some own, length-append (words_of start k i) (flat_map (words_of start k) own))

own_long : (strings : List ℕ) (items : List ItemRow) (start : ℕ) (r : TypeRow) → IsWhole strings items r → (n : ℕ) → item_words r.kind ≡ n
    → length (flat_map (words_of start r.kind) (own_rows items r)) ≡ item_words r.kind * r.items
own_long strings items start r whole zero e =
    let none : own_rows items r ≡ [] = ap (λ (n : ℕ). if n == 0 then [] else take r.items (drop r.first items)) e in
    let long : length (flat_map (words_of start r.kind) (own_rows items r)) ≡ 0 = ap (λ (own : List ItemRow). length (flat_map (words_of start r.kind) own)) none in
    let product : item_words r.kind * r.items ≡ 0 * r.items = ap (λ (n : ℕ). n * r.items) e in
    omega arith
own_long strings items start r whole (suc n) e =
    let some : 0 < item_words r.kind = omega arith in
    items_long start r.kind whole.kind some (own_rows items r) ∙ ap (λ (n : ℕ). item_words r.kind * n) (whole.all some)

-- the words of a type whose items are all there
row_long : (strings : List ℕ) (items : List ItemRow) (start : ℕ) (r : TypeRow) → IsWhole strings items r → length (row_words start r (own_rows items r)) ≡ 3 + tail_words r.kind r.items
unfolding tail_words
row_long strings items start r whole =
    let own = own_rows items r in
    let items-long = own_long strings items start r whole (item_words r.kind) refl in
    omega (
      arith,
      items-long,
      tail_long r whole.kind,
      length-append (tail_of r) (flat_map (words_of start r.kind) own),
    )

pub section_size : (strings : List ℕ) (items : List ItemRow) (start : ℕ) (types : List TypeRow) → All (IsWhole strings items) types
    → length (section_of Little (frames start types items)) ≡ sum_by row_size types
section_size strings items start [] whole = refl
section_size strings items start (r ∷ types) whole =
    let words = row_words start r (own_rows items r) in
    omega (
      arith,
      length-append (bytes_of Little words) (section_of Little (frames start types items)),
      length-bytes_of Little words,
      row_long strings items start r (All-head (IsWhole strings items) r types whole),
      section_size strings items start types (All-tail (IsWhole strings items) r types whole),
      sum_by-cons row_size r types,
    )

-- the file is cut into the records and the names
pub plain_cut : (types : List TypeRow) (items : List ItemRow) (strings : List ℕ) (p : Plan) → IsPlan strings types items p
    → Cut (plain p types items strings) Little (section_of Little (frames p.names.start types items)) (names_section strings p.names)
plain_cut types items strings p plan =
    let section = names_section strings p.names in
    let records = section_of Little (frames p.names.start types items) in
    let size = section_size strings items p.names.start types plan.whole in
    let same : p.types_len ≡ length records = plan.size ∙ sym size in
    record {
      header_len = 24;
      at_least = lit≤ tt;
      at_most = lit≤ tt;
      types_fit = omega (arith, same, plan.fits);
      some_strings = omega arith;
      strings_fit = section_long strings p.names plan.part;
      parts = inl (ap (λ (n : ℕ). header Little 24 0 n n (length section) ++ records ++ section) same);
    }
