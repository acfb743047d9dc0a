-- The slots of bytes, written in the other order one after another.
use Rattle.std.proofs.Common.{◌≡◌, ℕ, ◌<◌, ◌≤◌, ◌+◌, ◌-◌, List, [], ◌∷◌, ◌++◌, length, take, drop, All, refl, sym, ap, ◌∙◌, append_assoc, append-nil, arith, length-append, length-drop, take-append-drop}
use Rattle.std.specs.List.{flat_map}
use Rattle.std.proofs.lemmas.List.{drop-drop, length-take, take_all, Elements.All-head, Elements.All-nil, Elements.All-tail, Elements.All-cons, Elements.All-append}
use Rattle.std.proofs.lemmas.{Grind.flat_map-append, Slice.drop-put_mid, Slice.take-put_mid}
use borrow.Rule.Slice.PartMut.{put_mid}
use Rattle.bpf_words.specs.declared.Order.{Order}
use Rattle.bpf_words.specs.Slots.{AreFields, AreSlots, Fields, encoded}
use Rattle.bpf_words.proofs.{OneEncoding.encoded-injective, SlotLemmas.slot_length}

-- slots whose bytes begin those of other slots begin these slots, if what follows the others is shorter than a slot
slots_begin : (order : Order) (fs gs : List Fields) (rest more : List ℕ) → All AreFields fs → All AreFields gs → length more < 8
    → flat_map (encoded order) fs ++ rest ≡ flat_map (encoded order) gs ++ more
    → (hs : List Fields) × ((gs ≡ fs ++ hs) × (rest ≡ flat_map (encoded order) hs ++ more))
slots_begin order [] gs rest more hf hg short e = (gs, (refl, e))
slots_begin order (f ∷ fs) [] rest more hf hg short e =
    absurd (omega (arith, short, ap length e, length-append (flat_map (encoded order) (f ∷ fs)) rest, length-append (encoded order f) (flat_map (encoded order) fs), slot_length order f))
slots_begin order (f ∷ fs) (g ∷ gs) rest more hf hg short e =
    let whole : encoded order f ++ (flat_map (encoded order) fs ++ rest) ≡ encoded order g ++ (flat_map (encoded order) gs ++ more) = grind (arith, append_assoc) in
    let long : length (encoded order f) ≡ length (encoded order g) = slot_length order f ∙ sym (slot_length order g) in
    let left : encoded order f ≡ encoded order g = grind arith in
    let right : flat_map (encoded order) fs ++ rest ≡ flat_map (encoded order) gs ++ more = grind arith in
    let head : f ≡ g = encoded-injective order f g (All-head AreFields f fs hf) (All-head AreFields g gs hg) left in
    let tail = slots_begin order fs gs rest more (All-tail AreFields f fs hf) (All-tail AreFields g gs hg) short right in
    (tail.0, (ap (λ (x : Fields). x ∷ gs) (sym head) ∙ ap (λ (xs : List Fields). f ∷ xs) tail.1.0, tail.1.1))

-- no slot has fewer than 8 bytes
no_slot : (order : Order) (fs : List Fields) (more : List ℕ) → length (flat_map (encoded order) fs ++ more) < 8 → fs ≡ []
no_slot order [] more short = refl
no_slot order (f ∷ fs) more short =
    absurd (omega (arith, short, length-append (flat_map (encoded order) (f ∷ fs)) more, length-append (encoded order f) (flat_map (encoded order) fs), slot_length order f))

-- the slots up to here were appended in the other order
pub record Rewrites (order to : Order) (bytes rest old new : List ℕ) : Type 0 where
  pub slots : List Fields
  pub each : All AreFields slots
  pub read : bytes ≡ flat_map (encoded order) slots ++ rest
  pub written : new ≡ old ++ flat_map (encoded to) slots

pub none_rewritten : (order to : Order) (bytes old : List ℕ) → Rewrites order to bytes bytes old old
none_rewritten order to bytes old = record { slots = []; each = All-nil AreFields; read = refl; written = sym (append-nil old) }

-- a slot and what follows it
pub slot_first : (order : Order) (rest slot following : List ℕ) (f : Fields) → slot ≡ take 8 rest → following ≡ drop 8 rest → slot ≡ encoded order f
    → rest ≡ encoded order f ++ following
slot_first order rest slot following f first left is = grind arith

pub one_rewritten : (order to : Order) (bytes rest following old new : List ℕ) (slot : Fields) → Rewrites order to bytes rest old new
    → rest ≡ encoded order slot ++ following → AreFields slot → Rewrites order to bytes following old (new ++ encoded to slot)
one_rewritten order to bytes rest following old new slot so_far e fit = record {
  slots = so_far.slots ++ slot ∷ [];
  each = All-append AreFields so_far.slots (slot ∷ []) so_far.each (All-cons AreFields slot [] fit (All-nil AreFields));
  read = so_far.read ∙ ap (λ xs. flat_map (encoded order) so_far.slots ++ xs) e
      ∙ sym (append_assoc (flat_map (encoded order) so_far.slots) (encoded order slot) following)
      ∙ ap (λ xs. xs ++ following) (sym (flat_map-push order so_far.slots slot));
  written = ap (λ xs. xs ++ encoded to slot) so_far.written
      ∙ append_assoc old (flat_map (encoded to) so_far.slots) (encoded to slot)
      ∙ ap (λ xs. old ++ xs) (sym (flat_map-push to so_far.slots slot));
}
  where
    flat_map-push : (o : Order) (fs : List Fields) (f : Fields) → flat_map (encoded o) (fs ++ f ∷ []) ≡ flat_map (encoded o) fs ++ encoded o f
    flat_map-push o fs f = flat_map-append (encoded o) fs (f ∷ []) ∙ ap (λ xs. flat_map (encoded o) fs ++ xs) (append-nil (encoded o f))

-- the slots that remain complete those of the bytes
pub rewritten_rest : (order to : Order) (bytes rest old new : List ℕ) → Rewrites order to bytes rest old new
    → (slots : List Fields) (more : List ℕ) → AreSlots order bytes slots more
    → (left : List Fields) × ((rest ≡ flat_map (encoded order) left ++ more) × (old ++ flat_map (encoded to) slots ≡ new ++ flat_map (encoded to) left))
rewritten_rest order to bytes rest old new so_far slots more h =
    let left = slots_begin order so_far.slots slots rest more so_far.each h.0 h.1 (sym so_far.read ∙ h.2) in (
      left.0,
      (
        left.1.1,
        ap (λ (fs : List Fields). old ++ flat_map (encoded to) fs) left.1.0 ∙ ap (λ xs. old ++ xs) (flat_map-append (encoded to) so_far.slots left.0)
            ∙ sym (append_assoc old (flat_map (encoded to) so_far.slots) (flat_map (encoded to) left.0))
            ∙ ap (λ xs. xs ++ flat_map (encoded to) left.0) (sym so_far.written),
      ),
    )

-- if less than a slot remains, all slots were appended
pub all_rewritten : (order to : Order) (bytes rest old new : List ℕ) → Rewrites order to bytes rest old new → length rest < 8
    → (slots : List Fields) (more : List ℕ) → AreSlots order bytes slots more → (new ≡ old ++ flat_map (encoded to) slots) × (rest ≡ more)
all_rewritten order to bytes rest old new so_far short slots more h =
    let left = rewritten_rest order to bytes rest old new so_far slots more h in
    let none : left.0 ≡ [] = no_slot order left.0 more (omega (arith, short, ap length left.1.0)) in (
      sym (left.1.1 ∙ ap (λ (fs : List Fields). new ++ flat_map (encoded to) fs) none ∙ append-nil new),
      left.1.0 ∙ ap (λ (fs : List Fields). flat_map (encoded order) fs ++ more) none,
    )

-- ---- in place

-- a slot, in the bytes from an offset on
slot_at : (order : Order) (xs slot : List ℕ) (at : ℕ) (f : Fields) → slot ≡ take 8 (take (length xs - at) (drop at xs)) → slot ≡ encoded order f
    → drop at xs ≡ encoded order f ++ drop (at + 8) xs
slot_at order xs slot at f first is =
    let rest : take (length xs - at) (drop at xs) ≡ drop at xs = take_all (length xs - at) (drop at xs) (omega (arith, length-drop at xs)) in
    slot_first order (drop at xs) slot (drop (at + 8) xs) f (first ∙ ap (take 8) rest) (sym (drop-drop 8 at xs)) is

-- one slot more was overwritten by its bytes in the other order
pub one_swapped : (order to : Order) (bytes xs other slot : List ℕ) (at : ℕ) (f : Fields) → Rewrites order to bytes (drop at xs) [] (take at xs)
    → at + 8 ≤ length xs → slot ≡ take 8 (take (length xs - at) (drop at xs)) → slot ≡ encoded order f → AreFields f → other ≡ encoded to f
    → Rewrites order to bytes (drop (at + 8) (put_mid at (at + 8 - at) xs other)) [] (take (at + 8) (put_mid at (at + 8 - at) xs other))
one_swapped order to bytes xs other slot at f so_far within first is fit swapped = grind (arith, slot_length, drop-put_mid, take-put_mid, one_rewritten, slot_at)

-- less than a slot is left, so all slots were overwritten
pub all_swapped : (order to : Order) (bytes xs : List ℕ) (at : ℕ) → Rewrites order to bytes (drop at xs) [] (take at xs)
    → length (take (length xs - at) (drop at xs)) < 8 → (slots : List Fields) (rest : List ℕ) → AreSlots order bytes slots rest → AreSlots to xs slots rest
all_swapped order to bytes xs at so_far short slots rest h =
    let few : length (drop at xs) < 8 = omega (arith, short, length-take (length xs - at) (drop at xs), length-drop at xs) in
    let done = all_rewritten order to bytes (drop at xs) [] (take at xs) so_far few slots rest h in
    (h.0, h.1, sym (take-append-drop at xs) ∙ ap (λ (x : List ℕ). take at xs ++ x) done.1 ∙ ap (λ (x : List ℕ). x ++ rest) done.0)
