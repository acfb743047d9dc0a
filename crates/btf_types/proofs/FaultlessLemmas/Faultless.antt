-- Frames without fault encode the records that they read as, and these records are valid.
use Rattle.std.proofs.Common.{◌≡◌, ◌≢◌, ◌⊎◌, inr, ℕ, zero, suc, ◌-◌, ◌^◌, ◌<◌, ◌≤◌, Bool, true, false, Some, None, List, [], ◌∷◌, length, get_or, map, refl, sym, ap, subst, ◌∙◌, inl, lit<, arith}
use Rattle.std.specs.Prelude.{IsTrue, IfSome, slice_index, slice_get, unwrap_or, ◌==◌, if◌then◌else◌}
use Rattle.std.specs.List.{All, AllZip, sum_by}
use Rattle.std.proofs.{Math.Dec.eqb-suc-zero, lemmas.Bool.eqb-true, lemmas.Bool.ltb-true, lemmas.Option.slice_get-get_or}
use Rattle.std.proofs.lemmas.List.{length-append, Elements.All-nil, Elements.All-cons, Elements.All-head, Elements.All-tail, Sums.sum_by-cons}
use Rattle.bpf_words.specs.declared.Order.{Order}
use Rattle.btf_raw.specs.KindNumbers.{STRUCT, UNION, FUNC, FUNC_PROTO, VAR, TYPEDEF, DECL_TAG}
use Rattle.btf_raw.specs.{Cause.HasNone, Kinds.one_of, Kinds.has_target, Kinds.is_struct, Header.HasNulEnds, Header.TYPES_LIMIT, Header.STRINGS_LIMIT}
use Rattle.btf_raw.specs.Frames.{IsFrame, bytes_of, section_of, kind, vlen, third_word}
use Rattle.btf_raw.proofs.Frames.{length-bytes_of}
use Rattle.btf_types.specs.{Encoding.Encodes, Reading.component_of, Reading.record_of, Reading.frames_at, Sections.words_at}
use Rattle.btf_types.specs.checks.Numbers.{TypeFacts, type_at, no_type, target_fits, component_fits}
use Rattle.btf_types.specs.Valid.{facts, IsValidRecord, IsValid, record_size}
use Rattle.btf_types.specs.checks.{FieldFaults.FieldFault, FieldFaults.frame_facts, RecordFaults.IsFaultless}
use Rattle.btf_types.specs.tables.TableInvariant.{IsFramed, IsTable}
use Rattle.btf_types.proofs.{KindCases.one_among, StringLemmas.EncodedNames.encoded_table}
use Rattle.btf_types.proofs.FaultlessLemmas.FaultlessWords.{type_is, component_is}
use Rattle.btf_types.proofs.FaultlessLemmas.FaultlessRecords.{frame_encodes, frame_valid, facts_same, size_same}

-- ---- what other records know of a type

count_below : (frame : List ℕ) → (frame_facts frame).count < 2 ^ 16
count_below frame = split (kind frame == FUNC)
  where
    split : (b : Bool) → (if b then 0 else vlen frame) < 2 ^ 16
    split true = lit< tt
    split false = omega arith

-- a type is one of the frames, or has no kind
pub record IsTypeOf (frames : List (List ℕ)) (t : TypeFacts) : Type 0 where
  pub index : ℕ
  pub frame : List ℕ
  pub inside : index < length frames
  pub there : get_or frames index frame ≡ frame
  pub is : t ≡ frame_facts frame

found : (frames : List (List ℕ)) (k : ℕ) → (unwrap_or (slice_get (map frame_facts frames) k) no_type ≡ no_type) ⊎ IsTypeOf frames (unwrap_or (slice_get (map frame_facts frames) k) no_type)
found [] k = inl refl
found (f ∷ frames) zero = inr (record { index = 0; frame = f; inside = omega arith; there = refl; is = refl })
found (f ∷ frames) (suc k) = elim (found frames k) [
  | inl none ↦ inl none
  | inr rest ↦
      let low = rest.inside in
      inr (record { index = suc rest.index; frame = rest.frame; inside = omega arith; there = rest.there; is = rest.is })
]

type_or_none : (frames : List (List ℕ)) (id : ℕ) → (type_at (map frame_facts frames) id ≡ no_type) ⊎ IsTypeOf frames (type_at (map frame_facts frames) id)
type_or_none frames zero = inl refl
type_or_none frames (suc i) = let at : suc i - 1 ≡ i = omega arith in rw (eqb-suc-zero i, at) (found frames i)

type_count_below : (frames : List (List ℕ)) (id : ℕ) → (type_at (map frame_facts frames) id).count < 2 ^ 16
type_count_below frames id = elim (type_or_none frames id) [ inl none ↦ rw none (lit< tt) | inr of ↦ rw of.is (count_below of.frame) ]

type_found : (frames : List (List ℕ)) (id : ℕ) → (type_at (map frame_facts frames) id).kind ≢ 0 → IsTypeOf frames (type_at (map frame_facts frames) id)
type_found frames id some = elim (type_or_none frames id) [ inl none ↦ absurd (some (ap (λ (t : TypeFacts). t.kind) none)) | inr of ↦ of ]

-- ---- the frames of a section

module _ (strings : List ℕ) (frames : List (List ℕ)) (ends : HasNulEnds strings) (each : All IsFrame frames) (none : HasNone (FieldFault strings frames)) where
  abbrev types : List TypeFacts
  types = map frame_facts frames

  pub faultless : (i : ℕ) (f : List ℕ) → slice_get frames i ≡ Some f → IsFaultless strings types f
  faultless i f is j c inside fault = none _ c (record { index = i; frame = f; word = j; frame_is = is; inside = inside; fault = fault; at_offset_is = refl })

  -- a FUNC among the types names a FUNC_PROTO
  its_target : (t : TypeFacts) → IsTypeOf frames t → t.kind ≡ FUNC → (type_at types t.target).kind ≡ FUNC_PROTO
  unfolding has_target target_fits
  its_target t of e =
      let g = of.frame in
      let is : IsFrame g = subst (λ (h : List ℕ). IsFrame h) of.there (each of.index g of.inside) in
      let is_there : slice_get frames of.index ≡ Some g = slice_get-get_or frames of.index g of.inside ∙ ap (λ (h : List ℕ). Some h) of.there in
      let func : kind g ≡ FUNC = ap (λ (u : TypeFacts). u.kind) (sym of.is) ∙ e in
      let valid = type_is strings types g ends is (faultless of.index g is_there) 2 (omega (arith, is.size)) (inl (rw func refl, refl)) in
      ap (λ (u : TypeFacts). (type_at types u.target).kind) of.is ∙ eqb-true _ FUNC_PROTO (rw func at valid.fits)

  func_names : (id : ℕ) → (type_at types id).kind ≡ FUNC → (type_at types (type_at types id).target).kind ≡ FUNC_PROTO
  func_names id e = its_target (type_at types id) (type_found frames id (λ z. omega arith)) e

  -- therefore a component is a 16-bit number
  component_low : (id c : ℕ) → one_of (STRUCT ∷ UNION ∷ FUNC ∷ VAR ∷ TYPEDEF ∷ []) ((type_at types id).kind) ≡ true → IsTrue (component_fits types id c) → c < 2 ^ 16
  unfolding component_fits
  component_low id c named fits =
      let own = type_count_below frames id in
      let proto = type_count_below frames (type_at types id).target in
      let member : (k : ℕ) → IsTrue (is_struct k) → (type_at types id).kind ≡ k → c < 2 ^ 16 =
      λ k is e. let opened = rw (e, is) at fits in omega (arith, ltb-true c _ opened) in
      let parameter : (type_at types id).kind ≡ FUNC → c < 2 ^ 16 =
      λ e. let opened = rw (e, func_names id e) at fits in omega (arith, ltb-true c _ opened) in
      one_among (λ k. (type_at types id).kind ≡ k → c < 2 ^ 16) (STRUCT ∷ UNION ∷ FUNC ∷ VAR ∷ TYPEDEF ∷ []) ((type_at types id).kind)
      (member STRUCT refl, (member UNION refl, (parameter, ((λ e. let opened = rw e at fits in absurd cc), ((λ e. let opened = rw e at fits in absurd cc), tt))))) named refl

  low_of_word : (id w : ℕ) → one_of (STRUCT ∷ UNION ∷ FUNC ∷ VAR ∷ TYPEDEF ∷ []) ((type_at types id).kind) ≡ true → IfSome (component_of w) (λ c. IsTrue (component_fits types id c)) → IfSome (component_of w) (λ c. c < 2 ^ 16)
  low_of_word id w named = split (w == 0xffffffff)
    where
      split : (b : Bool) → IfSome (if b then None else Some w) (λ c. IsTrue (component_fits types id c)) → IfSome (if b then None else Some w) (λ c. c < 2 ^ 16)
      split true fits = tt
      split false fits = component_low id w named fits

  -- what each frame is
  record IsRight (f : List ℕ) : Type 0 where
    is_frame : IsFrame f
    no_fault : IsFaultless strings types f
    component : kind f ≡ DECL_TAG → IfSome (component_of (slice_index f 3)) (λ c. c < 2 ^ 16)

  frame_right : (f : List ℕ) → IsFrame f → IsFaultless strings types f → IsRight f
  unfolding has_target target_fits
  frame_right f is without = record {
    is_frame = is;
    no_fault = without;
    component = λ tag.
        let target = type_is strings types f ends is without 2 (omega (arith, is.size)) (inl (rw tag refl, refl)) in
        low_of_word (third_word f) (slice_index f 3) (rw tag at target.fits)
        (component_is strings types f ends is without tag);
  }

  all_right : All IsRight frames
  all_right i d low = frame_right (get_or frames i d) (each i d low) (faultless i (get_or frames i d) (slice_get-get_or frames i d low))

  encoded_right : (fs : List (List ℕ)) → All IsRight fs → AllZip (Encodes strings) (map (record_of strings) fs) fs
  encoded_right [] all = tt
  encoded_right (f ∷ fs) all =
      let one = All-head IsRight f fs all in
      (frame_encodes strings types f ends one.is_frame one.no_fault one.component, encoded_right fs (All-tail IsRight f fs all))

  valid_right : (fs : List (List ℕ)) → All IsRight fs → All (IsValidRecord types) (map (record_of strings) fs)
  valid_right [] all = All-nil (IsValidRecord types)
  valid_right (f ∷ fs) all =
      let one = All-head IsRight f fs all in
      All-cons (IsValidRecord types) (record_of strings f) (map (record_of strings) fs) (frame_valid strings types f ends one.is_frame one.no_fault one.component) (valid_right fs (All-tail IsRight f fs all))

  facts_right : (fs : List (List ℕ)) → All IsRight fs → facts (map (record_of strings) fs) ≡ map frame_facts fs
  facts_right [] all = refl
  facts_right (f ∷ fs) all =
      let one = All-head IsRight f fs all in
      let first = facts_same strings types f ends one.is_frame one.no_fault in
      let rest = facts_right fs (All-tail IsRight f fs all) in
      cc

  size_right : (o : Order) (fs : List (List ℕ)) → All IsRight fs → sum_by record_size (map (record_of strings) fs) ≡ length (section_of o fs)
  size_right o [] all = refl
  size_right o (f ∷ fs) all =
      let one = All-head IsRight f fs all in
      let first = size_same strings types f ends one.is_frame one.no_fault in
      let rest = size_right o fs (All-tail IsRight f fs all) in
      omega (arith, sum_by-cons record_size (record_of strings f) (map (record_of strings) fs), first, rest, length-append (bytes_of o f) (section_of o fs), length-bytes_of o f)

  pub frames_encode : AllZip (Encodes strings) (map (record_of strings) frames) frames
  frames_encode = encoded_right frames all_right

  pub frames_valid : (o : Order) → length strings ≤ STRINGS_LIMIT → length (section_of o frames) ≤ TYPES_LIMIT → IsValid (map (record_of strings) frames)
  frames_valid o short few = record {
    each = subst (λ (ts : List TypeFacts). All (IsValidRecord ts) (map (record_of strings) frames)) (sym (facts_right frames all_right)) (valid_right frames all_right);
    size = omega (arith, size_right o frames all_right);
    texts = encoded_table STRINGS_LIMIT strings (map (record_of strings) frames) frames ends short frames_encode;
  }

-- If no field of the frames at these offsets has a fault, they are a table.
pub fields_are_right : (o : Order) (types strings offsets : List ℕ) → IsFramed o types offsets → HasNulEnds strings → length strings ≤ STRINGS_LIMIT → length types ≤ TYPES_LIMIT
    → HasNone (FieldFault strings (frames_at o types offsets)) → IsTable (words_at o types strings offsets)
fields_are_right o types strings offsets framed ends short few none =
    let frames = frames_at o types offsets in
    let whole = framed.frames.whole in
    record {
      short = short;
      ends = ends;
      each = framed.frames.each;
      none = none;
      encoded = frames_encode strings frames ends framed.frames.each none;
      valid = frames_valid strings frames ends framed.frames.each none o short (subst (λ (t : List ℕ). length t ≤ TYPES_LIMIT) whole few);
    }
