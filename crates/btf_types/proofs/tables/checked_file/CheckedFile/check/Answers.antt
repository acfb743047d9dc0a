use Rattle.std.proofs.Common.{◌≡◌, ◌+◌, ◌-◌, List, ℕ, take, drop, refl, arith}
use Rattle.btf_raw.specs.{declared.header.Header.Header, ReadHeader.ReadsHeader, Cause.HasNone, Header.HasNulEnds, Header.HeaderFault, Header.part}
use Rattle.btf_types.specs.{Denotes.HoldsSections, Sections.words_at, tables.TableInvariant.IsFramed}
use Rattle.btf_types.proofs.CheckLemmas.PhaseSteps.{HasFrames, types_of, strings_of, strings_checked, framing_checked, fails_fields}
use Rattle.btf_types.proofs.TableLemmas.TableSteps.{is_checked, holds_sections}
use Rattle.btf_types.proofs.tables.checked_file.CheckedFile.check.Goals as goal

-- the bytes from one offset to another are a part
cut : (b : List ℕ) (pos len : ℕ) → take (pos + len - pos) (drop pos b) ≡ part b pos len
cut b pos len = let same : pos + len - pos ≡ len = omega arith in rw same refl

frames_read : (b : List ℕ) (h : Header) (types strings offsets : List ℕ) → ReadsHeader b h × HasNone (HeaderFault b) → types ≡ types_of b h → strings ≡ strings_of b h
    → HasNulEnds strings → IsFramed h.order types offsets → HasFrames b h offsets
frames_read b h types strings offsets read types-are strings-are ends framed =
    framing_checked b h offsets (strings_checked b h (record { reads = read.0; none = read.1 }) (rw strings-are at ends)) (rw types-are at framed)

pub returns-in-Err-check_fields : goal.returns-in-Err-check_fields
returns-in-Err-check_fields g c =
    let b = c.args.bytes.now in
    let h = c.in_ok-header.header in
    let types = cut b h.types_pos h.types_len in
    let strings = cut b h.str_pos h.str_len in
    let offsets = c.in-Ok.offsets.items in
    let frames = frames_read b h _ _ offsets c.in_ok-header.ensures types strings c.in_default.ensures.cases c.in-Ok.ensures.cases in
    let fails = rw (types, strings, c.deref.ensures.value) at c.in-Err-check_fields.ensures.cases in
    rw c.moved-in-Err-check_fields.ensures (fails_fields b h offsets c.in-Err-check_fields.error frames fails)

pub invariant_of-result : goal.invariant_of-result
invariant_of-result g c =
    let b = c.args.bytes.now in
    let h = c.in_ok-header.header in
    let types = cut b h.types_pos h.types_len in
    let strings = cut b h.str_pos h.str_len in
    let offsets = c.in-Ok.offsets.items in
    let frames = frames_read b h _ _ offsets c.in_ok-header.ensures types strings c.in_default.ensures.cases c.in-Ok.ensures.cases in
    let right = rw (types, strings, c.deref.ensures.value) at c.in_default-check_fields.ensures.cases in
    rw (types, strings) (is_checked b h offsets frames right)

pub returns : goal.returns
returns g c =
    let b = c.args.bytes.now in
    let h = c.in_ok-header.header in
    let types = cut b h.types_pos h.types_len in
    let strings = cut b h.str_pos h.str_len in
    let offsets = c.in-Ok.offsets.items in
    let frames = frames_read b h _ _ offsets c.in_ok-header.ensures types strings c.in_default.ensures.cases c.in-Ok.ensures.cases in
    let right = rw (types, strings, c.deref.ensures.value) at c.in_default-check_fields.ensures.cases in
    let holds : HoldsSections b (words_at h.order (take (h.types_pos + h.types_len - h.types_pos) (drop h.types_pos b)) (take (h.str_pos + h.str_len - h.str_pos) (drop h.str_pos b)) offsets) =
    rw (types, strings) (holds_sections b h offsets frames right) in
    holds
