-- What the fields of a frame without fault are.
use Rattle.std.proofs.Common.{◌≡◌, ◌≢◌, ◌⊎◌, ℕ, suc, ◌+◌, ◌*◌, ◌^◌, ◌<◌, ◌≤◌, Bool, true, false, List, [], ◌∷◌, length, refl, subst, inl, inr, arith}
use Rattle.std.specs.Prelude.{IsTrue, IfSome, slice_index, ◌==◌}
use Rattle.std.proofs.lemmas.Bool.{cases_lt, cases_eq}
use Rattle.btf_raw.specs.declared.cause.BtfCause.TheVariants.{NameRange, NameUtf8, NameMissing, NameUnwanted, NotZero, Size, Reference, TargetKind, IntWord, MemberInt, MemberPlace, Linkage, Component}
use Rattle.btf_raw.specs.KindNumbers.{INT, ARRAY, FWD, FUNC, VAR, DECL_TAG}
use Rattle.btf_raw.specs.{Header.HasNulEnds, Names.TextAt, Names.NameAt}
use Rattle.btf_raw.specs.Kinds.{one_of, kind_of, vlen_of, flag_of, unused_of, fixed_words, item_words, tail_words, needs_name, has_no_name, has_item_names}
use Rattle.btf_raw.specs.Frames.{IsFrame, name_word, info_word, third_word, kind, vlen, flag}
use Rattle.btf_types.specs.{Encoding.info, Valid.TargetIsValid, checks.RecordFaults.IsFaultless, Reading.text_from, Reading.component_of}
use Rattle.btf_types.specs.checks.Numbers.{TypeFacts, type_at, size_fits, bits_fit, target_fits, component_fits, member_fits, member_int_fits}
use Rattle.btf_types.specs.checks.FieldFaults.{IsTypeField, IsMemberWord, HasBitFields, bit_offset, width, int_unused, int_encoding, int_bits}
use Rattle.btf_types.proofs.{KindCases.KindIs, KindCases.kind_is, FaultlessLemmas.FaultlessHeads.IntIsRight, CheckLemmas.RecordSteps.fourth_end}
use Rattle.btf_types.proofs.TableLemmas.TextSteps.{decided, empty_or_not, name_there}

-- the parts of info determine it
pub info_whole : (w : ℕ) → w < 2 ^ 32 → unused_of w ≡ 0 → w ≡ info (kind_of w) (vlen_of w) (flag_of w)
info_whole w h e = omega arith

-- a test that doesn't fail passes
pub passes : (b : Bool) → ¬ (b ≡ false) → b ≡ true
passes true h = refl
passes false h = absurd (h refl)

below : (a b : ℕ) → ¬ (b < a) → a ≤ b
below a b h = elim (cases_lt b a) [ inl lt ↦ absurd (h lt) | inr le ↦ le ]

is_zero : (a : ℕ) → ¬ (a ≢ 0) → a ≡ 0
is_zero a h = elim (cases_eq a 0) [ inl e ↦ e | inr n ↦ absurd (h n) ]

-- item i ends within the items
pub item_ends : (w i n m : ℕ) → i < n → m < w → w * i + m < w * n
item_ends w i n m h low = grind arith

module _ (frame : List ℕ) (is_frame : IsFrame frame) where
  pub known : KindIs (kind frame)
  known = kind_is (kind frame) is_frame.info.kind

  pub room : length frame ≡ 3 + (fixed_words (kind frame) + item_words (kind frame) * vlen frame)
  unfolding tail_words
  room = is_frame.size

  pub info_is : info_word frame ≡ info (kind frame) (vlen frame) (flag frame)
  info_is = info_whole (info_word frame) (is_frame.words 1) is_frame.info.unused

  pub flag_low : flag frame < 2
  flag_low = let low = is_frame.words 1 in omega arith

  pub vlen_low : vlen frame < 2 ^ 16
  vlen_low = omega arith

module _ (strings : List ℕ) (types : List TypeFacts) (frame : List ℕ) (ends : HasNulEnds strings) (is_frame : IsFrame frame) (none : IsFaultless strings types frame) where
  three : 2 < length frame
  three = let size = is_frame.size in omega arith

  pub name_is : NameAt strings (name_word frame) (text_from strings (name_word frame))
  name_is = name_there strings (name_word frame) ends
      (λ past. none 0 NameRange (omega (arith, three)) (0, refl, past))
      (λ text at not. none 0 NameUtf8 (omega (arith, three)) (0, refl, text, at, not))

  pub needed : IsTrue (needs_name (kind frame)) → text_from strings (name_word frame) ≢ []
  needed needs e = none 0 NameMissing (omega (arith, three)) (refl, needs, subst (λ (x : List ℕ). TextAt strings (name_word frame) x) e name_is.text)

  pub unwanted : IsTrue (has_no_name (kind frame)) → text_from strings (name_word frame) ≡ []
  unwanted has = elim (empty_or_not (text_from strings (name_word frame))) [
    | inl empty ↦ empty
    | inr text ↦ absurd (none 0 NameUnwanted (omega (arith, three)) (refl, has, text_from strings (name_word frame), name_is.text, text))
  ]

  pub zeroed : IsTrue (one_of (ARRAY ∷ FWD ∷ []) (kind frame)) → third_word frame ≡ 0
  zeroed one = is_zero (third_word frame) (λ some. none 2 NotZero three (refl, one, some))

  pub size_is : IsTrue (size_fits (kind frame) (third_word frame) (vlen frame))
  size_is = passes (size_fits (kind frame) (third_word frame) (vlen frame)) (λ fails. none 2 Size three (refl, fails))

  pub type_is : (j : ℕ) → j < length frame → IsTypeField frame j → TargetIsValid types (kind frame) (slice_index frame j)
  type_is j inside field =
      let there = below (slice_index frame j) (length types) (λ past. none j Reference inside (field, past)) in
      record {
        known = there;
        fits = passes (target_fits (kind frame) ((type_at types (slice_index frame j)).kind)) (λ fails. none j TargetKind inside (field, there, fails));
      }

  pub int_is : kind frame ≡ INT → IntIsRight (third_word frame) (slice_index frame 3)
  int_is int =
      let end = fourth_end is_frame (inl int) in
      let inside : 3 < length frame = omega arith in
      record {
        unused = is_zero (int_unused (slice_index frame 3)) (λ some. none 3 IntWord inside (refl, int, inl some));
        encoding = passes (one_of (0 ∷ 1 ∷ 2 ∷ 4 ∷ []) (int_encoding (slice_index frame 3))) (λ fails. none 3 IntWord inside (refl, int, inr (inl fails)));
        bits = passes (bits_fit (third_word frame) (int_bits (slice_index frame 3))) (λ fails. none 3 IntWord inside (refl, int, inr (inr fails)));
      }

  pub func_linkage : kind frame ≡ FUNC → vlen frame ≤ 2
  func_linkage func = below (vlen frame) 2 (λ past. none 1 Linkage (omega (arith, three)) (inl (func, refl, past)))

  pub var_linkage : kind frame ≡ VAR → slice_index frame 3 ≤ 2
  var_linkage var = below (slice_index frame 3) 2 (λ past. none 3 Linkage (omega (arith, fourth_end is_frame (inr (inl var)))) (inr (var, refl, past)))

  pub component_is : kind frame ≡ DECL_TAG → IfSome (component_of (slice_index frame 3)) (λ c. IsTrue (component_fits types (third_word frame) c))
  component_is tag = elim (cases_eq (slice_index frame 3) 0xffffffff) [
    | inl is ↦ rw is tt
    | inr other ↦ split (decided (slice_index frame 3 == 0xffffffff)) (passes (component_fits types (third_word frame) (slice_index frame 3)) (λ fails. none 3 Component (omega (arith, fourth_end is_frame (inr (inr tag)))) (tag, refl, other, fails)))
  ]
    where
      split : ((slice_index frame 3 == 0xffffffff) ≡ true) ⊎ ((slice_index frame 3 == 0xffffffff) ≡ false) → component_fits types (third_word frame) (slice_index frame 3) ≡ true
          → IfSome (component_of (slice_index frame 3)) (λ c. IsTrue (component_fits types (third_word frame) c))
      split (inl e) h = rw e tt
      split (inr e) h = rw e h

  -- ---- items

  pub item_name_is : (i : ℕ) → IsTrue (has_item_names (kind frame)) → i < vlen frame → 3 + item_words (kind frame) * i < length frame
      → NameAt strings (slice_index frame (3 + item_words (kind frame) * i)) (text_from strings (slice_index frame (3 + item_words (kind frame) * i)))
  item_name_is i has low inside =
      let j = 3 + item_words (kind frame) * i in
      name_there strings (slice_index frame j) ends
      (λ past. none j NameRange inside (suc i, (has, (low, omega arith)), past))
      (λ text at not. none j NameUtf8 inside (suc i, (has, (low, omega arith)), text, at, not))

  pub member_int : (j : ℕ) → j < length frame → IsMemberWord frame 1 j → HasBitFields frame → IsTrue (member_int_fits types (slice_index frame j))
  member_int j inside at some = passes (member_int_fits types (slice_index frame j)) (λ fails. none j MemberInt inside (at, some, fails))

  pub member_place : (j : ℕ) → j < length frame → IsMemberWord frame 2 j → IsTrue (member_fits (bit_offset frame j) (width frame j) (third_word frame))
  member_place j inside at = passes (member_fits (bit_offset frame j) (width frame j) (third_word frame)) (λ fails. none j MemberPlace inside (at, fails))
