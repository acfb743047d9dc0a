-- Records are compared by their keys, which have ranks in place of names.
use Rattle.std.proofs.Common.{◌≡◌, ◌≢◌, ℕ, ◌-◌, ◌<◌, ◌==◌, ◌&&◌, ◌||◌, Bool, true, false, List, [], ◌∷◌, ◌++◌, length, get_or, map, inl, inr, refl, sym, ap, ◌∙◌, arith}
use Rattle.std.specs.Prelude.{if◌then◌else◌, nat_le, nat_lt, slice_index}
use Rattle.std.specs.{Cmp.Lexicographic.slice_cmp}
use Rattle.std.specs.Ordering.{nat_cmp, ordering_then, ordering_reverse}
use Rattle.std.specs.declared.cmp.Ordering.{Ordering, TheVariants.Less, TheVariants.Equal, TheVariants.Greater}
use Rattle.std.proofs.lemmas.Bool.{cases_eq, cases_lt, and_parts}
use Rattle.std.proofs.lemmas.Cmp.{ranked, tied_itself, nat_cmp_total, nat_list_cmp_total}
use Rattle.std.proofs.lemmas.List.{get_or-map, length-map}
use Rattle.std.proofs.lemmas.Map.Keys.{Less-from_sorted}
use Rattle.bpf_elf.specs.Names.{is_closed, string_at}
use Rattle.btf_raw.specs.Frames.{name_word}
use Rattle.btf_types.specs.Sections.{SectionWords}
use Rattle.bpf_object.specs.declared.type_keys.RecordKey.{RecordKey}
use Rattle.bpf_object.specs.TypeOrder.{frame_of, group, is_sorted, sorted_name, sorted_flag, sorted_type, compare_types}
use Rattle.bpf_object.specs.private.NameRanks.{RankedNames, text_key, name_key, IsRank}
use Rattle.bpf_object.specs.private.TypeSteps.{sorted_offset, IsKey}
use Rattle.bpf_object.proofs.OrderLayers.{less}

-- ---- comparisons

then_assoc : (a b c : Ordering) → ordering_then (ordering_then a b) c ≡ ordering_then a (ordering_then b c)
then_assoc Less b c = refl
then_assoc Equal b c = refl
then_assoc Greater b c = refl

apart_then : (o p q r : Ordering) → o ≢ Equal → ordering_then o p ≡ ordering_then (ordering_then o q) r
apart_then Less p q r other = refl
apart_then Equal p q r other = absurd (other refl)
apart_then Greater p q r other = refl

cmp_append : (x y r q : List ℕ) → length x ≡ length y → slice_cmp nat_cmp (x ++ r) (y ++ q) ≡ ordering_then (slice_cmp nat_cmp x y) (slice_cmp nat_cmp r q)
cmp_append [] [] r q same = refl
cmp_append [] (b ∷ y) r q same = absurd (omega (arith, same))
cmp_append (a ∷ x) [] r q same = absurd (omega (arith, same))
cmp_append (a ∷ x) (b ∷ y) r q same =
    ap (ordering_then (nat_cmp a b)) (cmp_append x y r q (omega (arith, same))) ∙ sym (then_assoc (nat_cmp a b) (slice_cmp nat_cmp x y) (slice_cmp nat_cmp r q))

-- what follows a name is compared after it
text_append : (x y r q : List ℕ)
    → slice_cmp nat_cmp (length x ∷ (x ++ r)) (length y ∷ (y ++ q)) ≡ ordering_then (slice_cmp nat_cmp (text_key x) (text_key y)) (slice_cmp nat_cmp r q)
text_append x y r q = elim (cases_eq (length x) (length y)) [
  | inl same ↦
      ap (ordering_then (nat_cmp (length x) (length y))) (cmp_append x y r q same)
      ∙ sym (then_assoc (nat_cmp (length x) (length y)) (slice_cmp nat_cmp x y) (slice_cmp nat_cmp r q))
  | inr other ↦
      apart_then (nat_cmp (length x) (length y)) (slice_cmp nat_cmp (x ++ r) (y ++ q)) (slice_cmp nat_cmp x y) (slice_cmp nat_cmp r q)
      (λ e. other (ranked (length x) (length y) Equal (sym e)))
]

nested : (g n f t i : Ordering)
    → ordering_then (ordering_then g (ordering_then n (ordering_then f (ordering_then t Equal)))) i ≡ ordering_then g (ordering_then n (ordering_then f (ordering_then t i)))
nested Less n f t i = refl
nested Greater n f t i = refl
nested Equal Less f t i = refl
nested Equal Greater f t i = refl
nested Equal Equal Less t i = refl
nested Equal Equal Greater t i = refl
nested Equal Equal Equal Less i = refl
nested Equal Equal Equal Greater i = refl
nested Equal Equal Equal Equal i = refl

-- ---- ranks

module _ (r : RankedNames) where
  key_of_rank : (off rank : ℕ) → IsRank r off rank → 0 < rank → get_or (map (name_key r.strings) r.names) (rank - 1) [] ≡ name_key r.strings off
  key_of_rank off rank is some =
      let there = is.has.there in
      get_or-map (name_key r.strings) r.names (rank - 1) 0 [] (omega (arith, there, some)) ∙ ap text_key (sym is.has.is)

  rank_less : (a b first second : ℕ) → IsRank r a first → IsRank r b second → 0 < first → first < second → slice_cmp nat_cmp (name_key r.strings a) (name_key r.strings b) ≡ Less
  rank_less a b first second left right some lt =
      let there = right.has.there in
      let inside : second - 1 < length (map (name_key r.strings) r.names) = omega (arith, there, some, lt, length-map r.names (name_key r.strings)) in
      ap (λ (k : List ℕ). slice_cmp nat_cmp k (name_key r.strings b)) (sym (key_of_rank a first left some))
      ∙ ap (slice_cmp nat_cmp (get_or (map (name_key r.strings) r.names) (first - 1) [])) (sym (key_of_rank b second right (omega (arith, some, lt))))
      ∙ Less-from_sorted (slice_cmp nat_cmp) (map (name_key r.strings) r.names) (first - 1) (second - 1) [] left.sorted (omega (arith, some, lt)) inside

  rank_compares : (a b first second : ℕ) → IsRank r a first → IsRank r b second → 0 < first → 0 < second
      → slice_cmp nat_cmp (name_key r.strings a) (name_key r.strings b) ≡ nat_cmp first second
  rank_compares a b first second left right some also = elim (cases_lt first second) [
    | inl lt ↦ rank_less a b first second left right some lt ∙ sym (less first second lt)
    | inr from ↦ elim (cases_eq first second) [
      | inl e ↦
          let names : name_key r.strings b ≡ name_key r.strings a = ap text_key (right.has.is ∙ ap (λ (n : ℕ). string_at r.strings (slice_index r.names (n - 1))) (sym e) ∙ sym left.has.is) in
          ap (slice_cmp nat_cmp (name_key r.strings a)) names ∙ tied_itself nat_list_cmp_total (name_key r.strings a)
          ∙ sym (tied_itself nat_cmp_total first) ∙ ap (nat_cmp first) e
      | inr other ↦
          let lt : second < first = omega (arith, from, other) in
          nat_list_cmp_total.antisymm (name_key r.strings a) (name_key r.strings b) ∙ ap ordering_reverse (rank_less b a second first right left also lt ∙ sym (less second first lt))
          ∙ sym (nat_cmp_total.antisymm first second)
    ]
  ]

-- ---- keys

pub first_empty : (strings : List ℕ) → is_closed strings ≡ true → string_at strings 0 ≡ []
first_empty [] closed = refl
first_empty (c ∷ rest) closed =
    let ends = and_parts (nat_lt 0 (length (c ∷ rest))) (c == 0 && slice_index (c ∷ rest) (length (c ∷ rest) - 1) == 0) closed in
    let first : (c == 0) ≡ true = (and_parts (c == 0) (slice_index (c ∷ rest) (length (c ∷ rest) - 1) == 0) ends.1).0 in
    rw first refl

sorted_text : (b : Bool) (strings : List ℕ) (off : ℕ) → is_closed strings ≡ true → (if b then string_at strings off else []) ≡ string_at strings (if b then off else 0)
sorted_text true strings off closed = refl
sorted_text false strings off closed = sym (first_empty strings closed)

-- keys are compared in this way
abbrev pub key_cmp : RecordKey → RecordKey → Ordering
key_cmp a b =
    ordering_then (nat_cmp a.group b.group)
    (ordering_then (nat_cmp a.name b.name) (ordering_then (nat_cmp a.flag b.flag) (ordering_then (nat_cmp a.target b.target) (nat_cmp a.id b.id))))

module _ (s : SectionWords) (names : RankedNames) (new : ℕ → ℕ) (closed : is_closed s.strings ≡ true) (strings : names.strings ≡ s.strings) where
  name_text : (id : ℕ) → sorted_name s id ≡ string_at names.strings (sorted_offset s id)
  name_text id =
      sorted_text (is_sorted s id) s.strings (name_word (frame_of s id)) closed ∙ ap (λ (x : List ℕ). string_at x (sorted_offset s id)) (sym strings)

  module _ (a b : RecordKey) (first : IsKey s names new a) (second : IsKey s names new b) where
    names_compare : slice_cmp nat_cmp (text_key (sorted_name s a.id)) (text_key (sorted_name s b.id)) ≡ nat_cmp a.name b.name
    names_compare =
        ap (λ (x : List ℕ). slice_cmp nat_cmp (text_key x) (text_key (sorted_name s b.id))) (name_text a.id)
        ∙ ap (λ (y : List ℕ). slice_cmp nat_cmp (name_key names.strings (sorted_offset s a.id)) (text_key y)) (name_text b.id)
        ∙ rank_compares names (sorted_offset s a.id) (sorted_offset s b.id) a.name b.name first.name second.name first.known second.known

    -- with ranks in place of names
    pub keys_compare : compare_types s new a.id b.id ≡ key_cmp a b
    keys_compare =
        let g = nat_cmp (group s a.id) (group s b.id) in
        let rest = slice_cmp nat_cmp (sorted_flag s a.id ∷ sorted_type s new a.id ∷ []) (sorted_flag s b.id ∷ sorted_type s new b.id ∷ []) in
        let f = nat_cmp (sorted_flag s a.id) (sorted_flag s b.id) in
        let t = nat_cmp (sorted_type s new a.id) (sorted_type s new b.id) in
        let i = nat_cmp a.id b.id in
        let n = nat_cmp a.name b.name in
        ap (λ (o : Ordering). ordering_then (ordering_then g o) i)
        (text_append (sorted_name s a.id) (sorted_name s b.id) (sorted_flag s a.id ∷ sorted_type s new a.id ∷ []) (sorted_flag s b.id ∷ sorted_type s new b.id ∷ []))
        ∙ ap (λ (o : Ordering). ordering_then (ordering_then g (ordering_then o rest)) i) names_compare
        ∙ nested g n f t i
        ∙ ap (λ (o : Ordering). ordering_then o (ordering_then n (ordering_then f (ordering_then t i)))) (same_cmp first.group second.group)
        ∙ ap (λ (o : Ordering). ordering_then (nat_cmp a.group b.group) (ordering_then n (ordering_then o (ordering_then t i)))) (same_cmp first.flag second.flag)
        ∙ ap (λ (o : Ordering). ordering_then (nat_cmp a.group b.group) (ordering_then n (ordering_then (nat_cmp a.flag b.flag) (ordering_then o i))))
        (same_cmp first.target second.target)
      where
        same_cmp : {p q x y : ℕ} → p ≡ x → q ≡ y → nat_cmp x y ≡ nat_cmp p q
        same_cmp e h = cc
