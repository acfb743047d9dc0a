-- Reading code instruction by instruction.
use Rattle.std.proofs.Common.{◌≡◌, ℕ, ◌+◌, ◌-◌, ◌<◌, ◌≤◌, List, [], ◌∷◌, ◌++◌, length, take, drop, All, refl, sym, ap, subst, ◌∙◌, arith, append_assoc, length-append, length-drop}
use Rattle.std.proofs.Math.Seq.{drop-append_seam, take-append_seam}
use Rattle.std.proofs.lemmas.List.{append-nil, drop_all, take_all, Elements.All-nil, Elements.All-push, Concat.flat_map-append}
use Rattle.bpf_words.specs.{declared.Order.Order, Slots.AreFields, Slots.Fields, Slots.encoded}
use Rattle.bpf_words.proofs.{OneEncoding.encoded-injective, SlotLemmas.slot_length}
use Rattle.bpf_insn.proofs.FileLaws.{at_least_a_slot}
use Rattle.bpfcanon_object.specs.Items.{Begins, IsFront, IsItem, IsNewer, Item, code_of, item_bytes, latest, need_of}
use Rattle.bpfcanon_object.specs.Items.Item.{standard, newer}
use Rattle.bpfcanon_object.specs.Linux.{later}
use Rattle.bpfcanon_object.specs.declared.linux.Addition.{Addition}

-- bytes have the fields of one slot at their start
pub newer_slot : (order : Order) (s following : List ℕ) (slot f : Fields) (a : Addition) → AreFields slot → s ≡ encoded order slot ++ following
    → Begins order (newer a f) s → f ≡ slot
newer_slot order s following slot f a fit e b =
    let same : encoded order f ++ b.1.0 ≡ encoded order slot ++ following = sym b.1.1 ∙ e in
    let sizes : length (encoded order f) ≡ length (encoded order slot) = slot_length order f ∙ sym (slot_length order slot) in
    let heads : encoded order f ≡ encoded order slot =
    sym (take-append_seam (encoded order f) b.1.0) ∙ ap (λ n. take n (encoded order f ++ b.1.0)) sizes
    ∙ ap (take (length (encoded order slot))) same ∙ take-append_seam (encoded order slot) following in
    encoded-injective order f slot b.0.0 fit heads

pub newer_is : (order : Order) (s following : List ℕ) (slot f : Fields) (a : Addition) → AreFields slot → s ≡ encoded order slot ++ following
    → Begins order (newer a f) s → IsNewer a slot
newer_is order s following slot f a fit e b = subst (IsNewer a) (newer_slot order s following slot f a fit e b) b.0.1

pub at_least_eight : (order : Order) (item : Item) → 8 ≤ length (item_bytes order item)
at_least_eight order (standard i) = at_least_a_slot order i
at_least_eight order (newer a f) = omega (arith, slot_length order f)

pub short_begins_none : (order : Order) (item : Item) (s : List ℕ) → length s < 8 → ¬ Begins order item s
short_begins_none order item s short b =
    absurd (omega (arith, short, at_least_eight order item, ap length b.1.1, length-append (item_bytes order item) b.1.0))

pub latest-push : (before : Addition) (items : List Item) (x : Item) → latest before (items ++ x ∷ []) ≡ later (latest before items) (need_of x).addition
latest-push before [] x = refl
latest-push before (item ∷ items) x = latest-push (later before (need_of item).addition) items x

-- the items before an offset
pub record AreBefore (order : Order) (bytes : List ℕ) (at : ℕ) (items : List Item) : Type 0 where
  pub each : All IsItem items
  pub rest : List ℕ
  pub front : bytes ≡ code_of order items ++ rest
  pub at_offset : at ≡ length (code_of order items)

pub none_before : (order : Order) (bytes : List ℕ) → AreBefore order bytes 0 []
none_before order bytes = record { each = All-nil IsItem; rest = bytes; front = refl; at_offset = refl }

module _ (order : Order) (bytes : List ℕ) (at : ℕ) (items : List Item) (h : AreBefore order bytes at items) where
  pub rest_is : take (length bytes - at) (drop at bytes) ≡ h.rest
  rest_is =
      take_all (length bytes - at) (drop at bytes) (omega (arith, length-drop at bytes))
      ∙ ap (λ n. drop n bytes) h.at_offset ∙ ap (drop (length (code_of order items))) h.front
      ∙ drop-append_seam (code_of order items) h.rest

  pub code-push : (item : Item) → code_of order (items ++ item ∷ []) ≡ code_of order items ++ item_bytes order item
  code-push item =
      flat_map-append (item_bytes order) items (item ∷ []) ∙ ap (λ s. code_of order items ++ s) (append-nil (item_bytes order item))

  pub moved_on : (item : Item) (len : ℕ) → Begins order item (take (length bytes - at) (drop at bytes)) → len ≡ length (item_bytes order item)
      → AreBefore order bytes (at + len) (items ++ item ∷ [])
  moved_on item len b e = record {
    each = All-push IsItem items item h.each b.0;
    rest = b.1.0;
    front = h.front ∙ ap (λ s. code_of order items ++ s) (sym rest_is ∙ b.1.1)
        ∙ sym (append_assoc (code_of order items) (item_bytes order item) b.1.0)
        ∙ ap (λ s. s ++ b.1.0) (sym (code-push item));
    at_offset = omega (arith, h.at_offset, e, ap length (code-push item), length-append (code_of order items) (item_bytes order item));
  }

  pub smaller : (item : Item) (len : ℕ) → Begins order item (take (length bytes - at) (drop at bytes)) → len ≡ length (item_bytes order item)
      → length bytes - (at + len) < length bytes - at
  smaller item len b e =
      let next = moved_on item len b e in
      omega (arith, next.at_offset, ap length next.front, length-append (code_of order (items ++ item ∷ [])) next.rest, e, at_least_eight order item)

  pub ends_at : ((item : Item) → ¬ Begins order item (take (length bytes - at) (drop at bytes))) → IsFront order bytes items h.rest
  ends_at none = record { each = h.each; front = h.front; none = subst (λ s. (item : Item) → ¬ Begins order item s) rest_is none }

  pub ends : length bytes ≤ at → IsFront order bytes items []
  ends end =
      let nothing : h.rest ≡ [] =
      sym rest_is ∙ take_all (length bytes - at) (drop at bytes) (omega (arith, length-drop at bytes)) ∙ drop_all at bytes end in
      record { each = h.each; front = subst (λ s. bytes ≡ code_of order items ++ s) nothing h.front; none = λ item. short_begins_none order item [] (omega arith) }
