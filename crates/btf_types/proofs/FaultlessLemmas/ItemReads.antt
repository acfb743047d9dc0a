-- The items of a frame without fault, as they are read.
use Rattle.std.proofs.Common.{◌≡◌, ℕ, ◌+◌, ◌*◌, ◌<◌, true, false, Some, List, refl, sym, ap, subst, ◌∙◌, inl, inr, arith}
use Rattle.std.specs.Prelude.{IsTrue, slice_index, slice_get}
use Rattle.btf_raw.specs.{Header.HasNulEnds, Names.NameAt, Kinds.item_words, Kinds.has_item_names}
use Rattle.btf_raw.specs.Frames.{IsFrame, kind, vlen, flag}
use Rattle.btf_types.specs.{checks.Numbers.TypeFacts, checks.RecordFaults.IsFaultless, Values.TypeItem}
use Rattle.btf_types.specs.Reading.{text_from, item_from, item_of, item_total, record_of}
use Rattle.btf_types.proofs.KindCases.{KindIs, IsStruct, IsUnion, IsEnum, IsFuncProto, IsEnum64}
use Rattle.btf_types.proofs.FaultlessLemmas.FaultlessWords.{known, room, item_ends, item_name_is}
use Rattle.btf_types.proofs.{CheckLemmas.RoleSteps.named_words, TableLemmas.TextSteps.decided, Lists.get-tabulate, FaultlessLemmas.FaultlessItems.listed}

pub item_names_there : (strings : List ℕ) (types : List TypeFacts) (frame : List ℕ) → HasNulEnds strings → IsFrame frame → IsFaultless strings types frame
    → (k : ℕ) → k < item_total frame → IsTrue (has_item_names (kind frame))
    → NameAt strings (slice_index frame (3 + item_words (kind frame) * k)) (text_from strings (slice_index frame (3 + item_words (kind frame) * k)))
item_names_there strings types frame ends is none k low has =
    let inside = listed (kind frame) k (vlen frame) low in
    let end = item_ends (item_words (kind frame)) k (vlen frame) 0 inside (named_words (kind frame) has) in
    item_name_is strings types frame ends is none k has inside (omega (arith, room frame is, end))

-- an item of a kind whose items have no names is read without one
pub nameless : {k : ℕ} → KindIs k → (a b : List ℕ) (flag first second third : ℕ) → has_item_names k ≡ false → item_from a k flag first second third ≡ item_from b k flag first second third
unfolding has_item_names item_from
nameless IsStruct a b flag first second third none = absurd cc
nameless IsUnion a b flag first second third none = absurd cc
nameless IsEnum a b flag first second third none = absurd cc
nameless IsFuncProto a b flag first second third none = absurd cc
nameless IsEnum64 a b flag first second third none = absurd cc
nameless other a b flag first second third none = refl

pub item_there : (strings frame : List ℕ) (k : ℕ) → k < item_total frame → slice_get (record_of strings frame).items k ≡ Some (item_of strings frame (3 + item_words (kind frame) * k))
item_there strings frame k low = get-tabulate (λ i. item_of strings frame (3 + item_words (kind frame) * i)) (item_total frame) k low

-- an item is read from the numbers of its fields
pub item_read : (strings frame : List ℕ) → IsFrame frame → (k j : ℕ) → k < item_total frame → j ≡ 3 + item_words (kind frame) * k
    → (name : List ℕ) (its_kind its_flag first second third : ℕ) → its_kind ≡ kind frame → its_flag ≡ flag frame
    → first ≡ slice_index frame j → second ≡ slice_index frame (j + 1) → third ≡ slice_index frame (j + 2)
    → (has_item_names its_kind ≡ true → name ≡ text_from strings first)
    → slice_get (record_of strings frame).items k ≡ Some (item_from name its_kind its_flag first second third)
item_read strings frame is k j low at name its_kind its_flag first second third kind-is flag-is first-is second-is third-is named =
    let there = item_there strings frame k low in
    let whole : item_from (text_from strings first) its_kind its_flag first second third ≡ item_of strings frame (3 + item_words (kind frame) * k) = rw (kind-is, flag-is, first-is, second-is, third-is, at) refl in
    let same : item_from name its_kind its_flag first second third ≡ item_from (text_from strings first) its_kind its_flag first second third =
    elim (decided (has_item_names its_kind)) [
      | inl has ↦ ap (λ (x : List ℕ). item_from x its_kind its_flag first second third) (named has)
      | inr none ↦ nameless (subst (λ (m : ℕ). KindIs m) (sym kind-is) (known frame is)) name (text_from strings first) its_flag first second third none
    ] in
    there ∙ ap (λ (x : TypeItem). Some x) (sym whole ∙ sym same)
