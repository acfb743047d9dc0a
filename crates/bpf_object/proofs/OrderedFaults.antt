-- Records in their order have no fault if they had none before.
use Rattle.std.proofs.Common.{◌≡◌, ◌≢◌, ◌⊎◌, ℕ, zero, suc, ◌+◌, ◌-◌, ◌*◌, ◌<◌, ◌≤◌, ◌==◌, Bool, true, false, Some, List, [], ◌∷◌, length, get_or, map, inl, inr, refl, sym, ap, subst, ◌∙◌, arith}
use Rattle.std.specs.Prelude.{IsTrue, IsFalse, not, nat_lt, slice_index, slice_get, unwrap_or, if◌then◌else◌}
use Rattle.std.specs.List.{All}
use Rattle.std.proofs.{Math.Dec.eqb-suc-zero}
use Rattle.std.proofs.lemmas.{Bool.cases_Bool, Bool.cases_lt, Bool.eqb-true, Option.slice_get-get_or, Option.get_or_from_slice_get}
use Rattle.std.proofs.lemmas.List.{get_or-map, length-map}
use Rattle.btf_raw.specs.declared.cause.BtfCause.{BtfCause}
use Rattle.btf_raw.specs.declared.cause.BtfCause.TheVariants.{NameRange, NameUtf8, NameMissing, NameUnwanted, NotZero, Size, Reference, TargetKind, IntWord, MemberInt, MemberPlace, Linkage, Component}
use Rattle.btf_raw.specs.{Cause.HasNone, Names.TextAt}
use Rattle.btf_raw.specs.KindNumbers.{INT, ARRAY, STRUCT, UNION, FWD, FUNC, FUNC_PROTO, VAR, TYPEDEF, DECL_TAG}
use Rattle.btf_raw.specs.Kinds.{one_of, item_words, has_item_names, needs_name, has_no_name, has_target, is_struct}
use Rattle.btf_raw.specs.Frames.{IsFrame, third_word, kind, vlen, flag}
use Rattle.btf_types.specs.Sections.{SectionWords}
use Rattle.btf_types.specs.checks.Numbers.{TypeFacts, no_type, type_at, size_fits, bits_fit, target_fits, component_fits, member_fits, member_int_fits, is_plain_int}
use Rattle.btf_types.specs.checks.FieldFaults.{IsItemWord, IsNameField, IsTypeField, IsMemberWord, HasBitFields, offset_in, width_in, bit_offset, width, int_word, int_unused, int_encoding, int_offset, int_bits, frame_facts, WordFault, FieldFault}
use Rattle.btf_types.proofs.KindCases.{KindIs, kind_is}
use Rattle.bpf_object.specs.TypeOrder.{frame_of, new_number, is_type_word, renewed_frame, IsOrder, ordered}
use Rattle.bpf_object.proofs.Places.{find, id_above}
use Rattle.bpf_object.proofs.OrderedAgain.{order_length, new_at, new_out, ordered_length, ordered_at}
use Rattle.bpf_object.proofs.RenewedFrames.{no_type_0, renewed_length, renewed_other, renewed_type, renewed_name, renewed_kind, renewed_flag, renewed_vlen, renewed_third}
use Rattle.bpf_object.proofs.RenewedWords.{name_no_type, member_word, item_type, entry_type, target_sizes, func_has_type, tag_has_type, int_has_size, struct_no_target, zero_no_target, array_word}

-- ---- what other records know of a type

fact_found : (fs : List (List ℕ)) (i : ℕ) → unwrap_or (slice_get (map frame_facts fs) i) no_type ≡ frame_facts (get_or fs i [])
fact_found [] i = refl
fact_found (f ∷ fs) zero = refl
fact_found (f ∷ fs) (suc i) = fact_found fs i

facts_at : (u : SectionWords) (t : ℕ) → type_at (map frame_facts u.frames) t ≡ frame_facts (frame_of u t)
facts_at u zero = refl
facts_at u (suc i) = let at : suc i - 1 ≡ i = omega arith in rw (eqb-suc-zero i, at) (fact_found u.frames i)

choose_same : (b : Bool) (x y z : ℕ) → (b ≡ true → x ≡ y) → (if b then x else z) ≡ (if b then y else z)
choose_same true x y z same = same refl
choose_same false x y z same = refl

int_word_is : (k : ℕ) → (k == INT) ≡ true → is_type_word k 3 ≡ false
int_word_is k is = ap (λ (j : ℕ). is_type_word j 3) (eqb-true k INT is)

module _ (new : ℕ → ℕ) (f : List ℕ) where
  abbrev g : List ℕ
  g = renewed_frame new f

  count_kept : (frame_facts g).count ≡ (frame_facts f).count
  count_kept = ap (λ (k : ℕ). if k == FUNC then 0 else vlen g) (renewed_kind new f) ∙ ap (λ (n : ℕ). if kind f == FUNC then 0 else n) (renewed_vlen new f)

  int_kept : (part : ℕ → ℕ) → (if kind g == INT then part (int_word g) else 0) ≡ (if kind f == INT then part (int_word f) else 0)
  int_kept part =
      ap (λ (k : ℕ). if k == INT then part (int_word g) else 0) (renewed_kind new f)
      ∙ choose_same (kind f == INT) (part (int_word g)) (part (int_word f)) 0 (λ is. ap part (renewed_other new f 3 (int_word_is (kind f) is)))

abbrev plain : ℕ → ℕ → ℕ → Bool
plain k offset bits = if k == INT then is_plain_int offset bits else true

abbrev component : ℕ → ℕ → ℕ → ℕ → ℕ → Bool
component k count proto params c =
    if is_struct k then nat_lt c count else if k == FUNC then (if proto == FUNC_PROTO then nat_lt c params else true) else not (one_of (VAR ∷ TYPEDEF ∷ []) k)

unread : (s t x y z : Bool) → t ≡ false → (if s then x else if t then y else z) ≡ (if s then x else if t then x else z)
unread true t x y z other = refl
unread false true x y z other = absurd cc
unread false false x y z other = refl

module _ (s : SectionWords) (ids : List ℕ) (is : IsOrder s ids) where
  abbrev n : ℕ
  n = length s.frames

  abbrev new : ℕ → ℕ
  new = new_number ids

  abbrev types : List TypeFacts
  types = map frame_facts s.frames

  abbrev renewed_types : List TypeFacts
  renewed_types = map frame_facts (ordered ids s).frames

  there : (t : ℕ) → type_at renewed_types (new t) ≡ frame_facts (renewed_frame new (frame_of s t))
  there t = facts_at (ordered ids s) (new t) ∙ ap frame_facts (ordered_at s ids is t)

  kind_same : (t : ℕ) → (type_at renewed_types (new t)).kind ≡ (type_at types t).kind
  kind_same t = ap (λ (x : TypeFacts). x.kind) (there t) ∙ renewed_kind new (frame_of s t) ∙ ap (λ (x : TypeFacts). x.kind) (sym (facts_at s t))

  count_same : (t : ℕ) → (type_at renewed_types (new t)).count ≡ (type_at types t).count
  count_same t = ap (λ (x : TypeFacts). x.count) (there t) ∙ count_kept new (frame_of s t) ∙ ap (λ (x : TypeFacts). x.count) (sym (facts_at s t))

  offset_same : (t : ℕ) → (type_at renewed_types (new t)).offset ≡ (type_at types t).offset
  offset_same t = ap (λ (x : TypeFacts). x.offset) (there t) ∙ int_kept new (frame_of s t) int_offset ∙ ap (λ (x : TypeFacts). x.offset) (sym (facts_at s t))

  bits_same : (t : ℕ) → (type_at renewed_types (new t)).bits ≡ (type_at types t).bits
  bits_same t = ap (λ (x : TypeFacts). x.bits) (there t) ∙ int_kept new (frame_of s t) int_bits ∙ ap (λ (x : TypeFacts). x.bits) (sym (facts_at s t))

  zero_stays : new 0 ≡ 0
  zero_stays = new_out s ids is 0 (inl refl)

  third_of : (f : List ℕ) → has_target (kind f) ≡ true → third_word (renewed_frame new f) ≡ new (third_word f)
  third_of f has = renewed_third new f zero_stays ∙ ap (λ (b : Bool). if b then new (third_word f) else third_word f) has

  third_kept : (f : List ℕ) → has_target (kind f) ≡ false → third_word (renewed_frame new f) ≡ third_word f
  third_kept f none = renewed_third new f zero_stays ∙ ap (λ (b : Bool). if b then new (third_word f) else third_word f) none

  -- the type of a FUNC
  target_same : (t : ℕ) → (type_at types t).kind ≡ FUNC → (type_at renewed_types (new t)).target ≡ new (type_at types t).target
  target_same t func =
      let f = frame_of s t in
      let here : kind f ≡ FUNC = ap (λ (x : TypeFacts). x.kind) (sym (facts_at s t)) ∙ func in
      ap (λ (x : TypeFacts). x.target) (there t) ∙ third_of f (ap has_target here ∙ func_has_type) ∙ ap (λ (x : TypeFacts). new x.target) (sym (facts_at s t))

  members_same : (t : ℕ) → member_int_fits renewed_types (new t) ≡ member_int_fits types t
  members_same t =
      let a = type_at renewed_types (new t) in
      let b = type_at types t in
      ap (λ (k : ℕ). plain k a.offset a.bits) (kind_same t) ∙ ap (λ (o : ℕ). plain b.kind o a.bits) (offset_same t) ∙ ap (plain b.kind b.offset) (bits_same t)

  components_same : (t c : ℕ) → component_fits renewed_types (new t) c ≡ component_fits types t c
  unfolding component_fits
  components_same t c =
      let a = type_at renewed_types (new t) in
      let b = type_at types t in
      let p = type_at renewed_types a.target in
      let q = type_at types b.target in
      ap (λ (k : ℕ). component k a.count p.kind p.count c) (kind_same t) ∙ ap (λ (m : ℕ). component b.kind m p.kind p.count c) (count_same t)
      ∙ elim (cases_Bool (b.kind == FUNC)) [
        | inl func ↦
            let to : p ≡ type_at renewed_types (new b.target) = ap (type_at renewed_types) (target_same t (eqb-true b.kind FUNC func)) in
            ap (λ (x : TypeFacts). component b.kind b.count x.kind x.count c) to
            ∙ ap (λ (k : ℕ). component b.kind b.count k (type_at renewed_types (new b.target)).count c) (kind_same b.target)
            ∙ ap (λ (m : ℕ). component b.kind b.count q.kind m c) (count_same b.target)
        | inr other ↦
            let last = not (one_of (VAR ∷ TYPEDEF ∷ []) b.kind) in
            unread (is_struct b.kind) (b.kind == FUNC) (nat_lt c b.count) (if p.kind == FUNC_PROTO then nat_lt c p.count else true) last other
            ∙ sym (unread (is_struct b.kind) (b.kind == FUNC) (nat_lt c b.count) (if q.kind == FUNC_PROTO then nat_lt c q.count else true) last other)
      ]

  -- a number of a type stays one
  within : (t : ℕ) → t ≤ n → new t ≤ n
  within t le = elim (cases_lt 0 t) [
    | inr none ↦ let at : t ≡ 0 = omega (arith, none) in omega (arith, ap new at, zero_stays)
    | inl some ↦
        let at = find n ids is.permutation t some le in
        let lt = at.inside in
        let low : at.index < n = omega (arith, lt, order_length s ids is) in
        omega (arith, ap new at.is, new_at s ids is at.index low, low)
  ]

  -- ---- a record

  module _ (f : List ℕ) (frame : IsFrame f) (clean : (j : ℕ) (c : BtfCause) → j < length f → WordFault s.strings types f j c → ⊥) where
    abbrev r : List ℕ
    r = renewed_frame new f

    the_kind : KindIs (kind f)
    the_kind = kind_is (kind f) frame.info.kind

    item_field : (a m j : ℕ) → IsItemWord r a m j → IsItemWord f a m j
    item_field a m j it = (subst (λ (v : ℕ). a < v) (renewed_vlen new f) it.0, it.1 ∙ ap (λ (k : ℕ). 3 + item_words k * a + m) (renewed_kind new f))

    name_field : (a j : ℕ) → IsNameField r a j → IsNameField f a j
    name_field zero j field = field
    name_field (suc a) j field =
        let it = item_field a 0 j field.1 in
        (subst (λ (k : ℕ). IsTrue (has_item_names k)) (renewed_kind new f) field.0, it)

    name_is : (a j : ℕ) → IsNameField f a j → is_type_word (kind f) j ≡ false
    name_is zero j field = ap (is_type_word (kind f)) field ∙ no_type_0 (kind f)
    name_is (suc a) j field = name_no_type (kind f) j a the_kind field.0 field.1.1

    name_same : (a j : ℕ) → IsNameField r a j → slice_index r j ≡ slice_index f j
    name_same a j field = renewed_other new f j (name_is a j (name_field a j field))

    member_field : (m j : ℕ) → IsMemberWord r m j → IsMemberWord f m j
    member_field m j field = (subst (λ (k : ℕ). IsTrue (is_struct k)) (renewed_kind new f) field.0, field.1, item_field field.1 m j field.2)

    member_is : (m j : ℕ) → IsMemberWord f m j → m < 3 → is_type_word (kind f) j ≡ (m == 1)
    member_is m j field lt = member_word (kind f) j field.1 m field.0 field.2.1 lt

    struct_size : is_struct (kind f) ≡ true → third_word r ≡ third_word f
    struct_size struct = third_kept f (struct_no_target (kind f) struct)

    type_field : (j : ℕ) → IsTypeField r j → IsTypeField f j
    type_field j (inl third) = inl (subst (λ (k : ℕ). IsTrue (has_target k)) (renewed_kind new f) third.0, third.1)
    type_field j (inr (inl array)) = inr (inl (sym (renewed_kind new f) ∙ array.0, array.1))
    type_field j (inr (inr (inl item))) =
        inr (inr (inl (subst (λ (k : ℕ). IsTrue (one_of (STRUCT ∷ UNION ∷ FUNC_PROTO ∷ []) k)) (renewed_kind new f) item.0, item.1, item_field item.1 1 j item.2)))
    type_field j (inr (inr (inr entry))) = inr (inr (inr (sym (renewed_kind new f) ∙ entry.0, entry.1, item_field entry.1 0 j entry.2)))

    type_is : (j : ℕ) → IsTypeField f j → is_type_word (kind f) j ≡ true
    type_is j (inl third) = ap (is_type_word (kind f)) third.1 ∙ third.0
    type_is j (inr (inl array)) = ap (λ (k : ℕ). is_type_word k j) array.0 ∙ array_word j array.1
    type_is j (inr (inr (inl item))) = item_type (kind f) j item.1 item.0 item.2.1
    type_is j (inr (inr (inr entry))) = entry_type (kind f) j entry.1 entry.0 entry.2.1

    inside : (j : ℕ) → j < length r → j < length f
    inside j lt = omega (arith, lt, renewed_length new f)

    type_new : (j : ℕ) → j < length r → IsTypeField r j → slice_index r j ≡ new (slice_index f j)
    type_new j lt field = renewed_type new f j (type_is j (type_field j field)) (inside j lt)

    known : (j : ℕ) → j < length r → IsTypeField r j → slice_index f j ≤ n
    known j lt field = elim (cases_lt n (slice_index f j)) [
      | inl over ↦ absurd (clean j Reference (inside j lt) (type_field j field, omega (arith, over, length-map s.frames frame_facts)))
      | inr le ↦ omega (arith, le)
    ]

    width_same : (j : ℕ) → IsMemberWord r 2 j → width r j ≡ width f j
    width_same j field =
        ap (λ (b : ℕ). width_in b (slice_index r j)) (renewed_flag new f)
        ∙ ap (width_in (flag f)) (renewed_other new f j (member_is 2 j (member_field 2 j field) (omega arith)))

    bits_there : HasBitFields r → HasBitFields f
    bits_there (j, field, some) = (j, member_field 2 j field, λ e. some (width_same j field ∙ e))

    bad : (j : ℕ) (c : BtfCause) → j < length r → WordFault s.strings renewed_types r j c → ⊥
    bad j NameRange lt (a, field, over) =
        clean j NameRange (inside j lt) (a, name_field a j field, subst (λ (o : ℕ). length s.strings ≤ o) (name_same a j field) over)
    bad j NameUtf8 lt (a, field, text, at, not_text) =
        clean j NameUtf8 (inside j lt) (a, name_field a j field, text, subst (λ (o : ℕ). TextAt s.strings o text) (name_same a j field) at, not_text)
    bad j NameMissing lt (at, needs, empty) =
        clean j NameMissing (inside j lt) (at, subst (λ (k : ℕ). IsTrue (needs_name k)) (renewed_kind new f) needs, subst (λ (o : ℕ). TextAt s.strings o []) (renewed_name new f) empty)
    bad j NameUnwanted lt (at, none, text, there, some) =
        clean j NameUnwanted (inside j lt)
        (at, subst (λ (k : ℕ). IsTrue (has_no_name k)) (renewed_kind new f) none, text, subst (λ (o : ℕ). TextAt s.strings o text) (renewed_name new f) there, some)
    bad j NotZero lt (at, among, some) =
        let here = subst (λ (k : ℕ). IsTrue (one_of (ARRAY ∷ FWD ∷ []) k)) (renewed_kind new f) among in
        clean j NotZero (inside j lt) (at, here, λ e. some (third_kept f (zero_no_target (kind f) here) ∙ e))
    bad j Size lt (at, wrong) =
        let here : size_fits (kind f) (third_word r) (vlen f) ≡ false =
        subst (λ (v : ℕ). IsFalse (size_fits (kind f) (third_word r) v)) (renewed_vlen new f)
        (subst (λ (k : ℕ). IsFalse (size_fits k (third_word r) (vlen r))) (renewed_kind new f) wrong) in
        elim (cases_Bool (has_target (kind f))) [
          | inl has ↦ let fine = target_sizes (kind f) (third_word r) (vlen f) the_kind has in absurd cc
          | inr none ↦ clean j Size (inside j lt) (at, subst (λ (x : ℕ). IsFalse (size_fits (kind f) x (vlen f))) (third_kept f none) here)
        ]
    bad j Reference lt (field, over) =
        omega (arith, over, type_new j lt field, within (slice_index f j) (known j lt field), length-map (ordered ids s).frames frame_facts, ordered_length s ids is)
    bad j TargetKind lt (field, low, wrong) =
        let t = slice_index f j in
        let le = known j lt field in
        let here : IsFalse (target_fits (kind f) ((type_at renewed_types (new t)).kind)) =
        subst (λ (o : ℕ). IsFalse (target_fits (kind f) ((type_at renewed_types o).kind))) (type_new j lt field)
        (subst (λ (k : ℕ). IsFalse (target_fits k ((type_at renewed_types (slice_index r j)).kind))) (renewed_kind new f) wrong) in
        clean j TargetKind (inside j lt)
        (type_field j field, omega (arith, le, length-map s.frames frame_facts), subst (λ (k : ℕ). IsFalse (target_fits (kind f) k)) (kind_same t) here)
    bad j IntWord lt (at, int, wrong) =
        let here : kind f ≡ INT = sym (renewed_kind new f) ∙ int in
        let word : int_word r ≡ int_word f = renewed_other new f 3 (ap (λ (k : ℕ). is_type_word k 3) here) in
        let size : third_word r ≡ third_word f = third_kept f (ap has_target here ∙ int_has_size) in
        clean j IntWord (inside j lt) (
          at,
          here,
          subst (λ (w : ℕ).
              (int_unused w ≢ 0) ⊎ IsFalse (one_of (0 ∷ 1 ∷ 2 ∷ 4 ∷ []) (int_encoding w)) ⊎ IsFalse (bits_fit (third_word f) (int_bits w))) word
              (subst (λ (x : ℕ).
              (int_unused (int_word r) ≢ 0) ⊎ IsFalse (one_of (0 ∷ 1 ∷ 2 ∷ 4 ∷ []) (int_encoding (int_word r))) ⊎ IsFalse (bits_fit x (int_bits (int_word r)))) size wrong),
        )
    bad j MemberInt lt (field, bits, wrong) =
        let mine = member_field 1 j field in
        let is_new : slice_index r j ≡ new (slice_index f j) = renewed_type new f j (member_is 1 j mine (omega arith)) (inside j lt) in
        clean j MemberInt (inside j lt)
        (mine, bits_there bits, sym (ap (member_int_fits renewed_types) is_new ∙ members_same (slice_index f j)) ∙ wrong)
    bad j MemberPlace lt (field, wrong) =
        let mine = member_field 2 j field in
        let word : slice_index r j ≡ slice_index f j = renewed_other new f j (member_is 2 j mine (omega arith)) in
        let place : bit_offset r j ≡ bit_offset f j = ap (λ (b : ℕ). offset_in b (slice_index r j)) (renewed_flag new f) ∙ ap (offset_in (flag f)) word in
        clean j MemberPlace (inside j lt) (
          mine,
          sym (ap (λ (o : ℕ). member_fits o (width r j) (third_word r)) place ∙ ap (λ (w : ℕ). member_fits (bit_offset f j) w (third_word r)) (width_same j field)
              ∙ ap (member_fits (bit_offset f j) (width f j)) (struct_size mine.0)) ∙ wrong,
        )
    bad j Linkage lt (inl (func, at, over)) =
        clean j Linkage (inside j lt) (inl (sym (renewed_kind new f) ∙ func, at, subst (λ (v : ℕ). 2 < v) (renewed_vlen new f) over))
    bad j Linkage lt (inr (var, at, over)) =
        let here : kind f ≡ VAR = sym (renewed_kind new f) ∙ var in
        clean j Linkage (inside j lt) (inr (here, at, subst (λ (w : ℕ). 2 < w) (renewed_other new f 3 (ap (λ (k : ℕ). is_type_word k 3) here)) over))
    bad j Component lt (tag, at, some, wrong) =
        let here : kind f ≡ DECL_TAG = sym (renewed_kind new f) ∙ tag in
        let word : slice_index r 3 ≡ slice_index f 3 = renewed_other new f 3 (ap (λ (k : ℕ). is_type_word k 3) here) in
        clean j Component (inside j lt) (
          here,
          at,
          (λ e. some (word ∙ e)),
          sym (ap (λ (t : ℕ). component_fits renewed_types t (slice_index r 3)) (third_of f (ap has_target here ∙ tag_has_type))
              ∙ ap (component_fits renewed_types (new (third_word f))) word ∙ components_same (third_word f) (slice_index f 3)) ∙ wrong,
        )
    bad j c lt fault = absurd fault

  -- ---- all records

  module _ (each : All IsFrame s.frames) (none : HasNone (FieldFault s.strings s.frames)) where
    got : (fs : List (List ℕ)) (i : ℕ) (f : List ℕ) → slice_get fs i ≡ Some f → i < length fs
    got [] i f there = absurd cc
    got (h ∷ fs) zero f there = omega arith
    got (h ∷ fs) (suc i) f there = omega (arith, got fs i f there)

    clean_frame : (id : ℕ) → 0 < id → id ≤ n → (j : ℕ) (c : BtfCause) → j < length (frame_of s id) → WordFault s.strings types (frame_of s id) j c → ⊥
    clean_frame zero some le j c lt fault = absurd (omega (arith, some))
    clean_frame (suc i) some le j c lt fault =
        none _ c (record {
          index = i;
          frame = get_or s.frames i [];
          word = j;
          frame_is = slice_get-get_or s.frames i [] (omega (arith, le));
          inside = lt;
          fault = fault;
          at_offset_is = refl;
        })

    frame_there : (id : ℕ) → 0 < id → id ≤ n → IsFrame (frame_of s id)
    frame_there zero some le = absurd (omega (arith, some))
    frame_there (suc i) some le = each i [] (omega (arith, le))

    pub ordered_none : HasNone (FieldFault s.strings (ordered ids s).frames)
    ordered_none p c fault =
        let i = fault.index in
        let low : i < length ids = omega (arith, got (ordered ids s).frames i fault.frame fault.frame_is, ordered_length s ids is, order_length s ids is) in
        let id = get_or ids i 0 in
        let f = frame_of s id in
        let above = id_above n ids is.permutation i low in
        let is_frame : fault.frame ≡ renewed_frame new f =
        sym (get_or_from_slice_get (ordered ids s).frames i fault.frame [] fault.frame_is) ∙ get_or-map (λ a. renewed_frame new (frame_of s a)) ids i 0 [] low in
        bad f (frame_there id above.0 above.1) (clean_frame id above.0 above.1) fault.word c
        (subst (λ (r : List ℕ). fault.word < length r) is_frame fault.inside)
        (subst (λ (r : List ℕ). WordFault s.strings renewed_types r fault.word c) is_frame fault.fault)
