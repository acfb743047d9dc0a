-- A file has no fault if and only if it denotes some list of records.
use Rattle.std.proofs.Common.{ℕ, ◌+◌, ◌-◌, ◌<◌, ◌≤◌, List, length, map, refl, sym, subst, ◌∙◌, inl, inr, arith}
use Rattle.std.specs.{List.AllZip, Prelude.slice_index}
use Rattle.std.proofs.lemmas.Bool.{cases_eq}
use Rattle.bpf_words.specs.{declared.Order.Order, Words.IsBytes}
use Rattle.bpf_words.proofs.WordLemmas.{IsBytes-drop, IsBytes-take}
use Rattle.btf_raw.specs.declared.cause.BtfCause.{BtfCause, TheVariants.FirstString, TheVariants.LastString}
use Rattle.btf_raw.specs.{Cause.HasNone, Frames.Frames, Frames.section_of}
use Rattle.btf_raw.specs.Header.{Cut, HasNulEnds, HeaderFault, StringFault, part, types_at, strings_at, TYPES_LIMIT}
use Rattle.btf_raw.proofs.{Cuts.cut_unique, Cuts.cut_reads, HeaderLaw.header_there, HeaderLaw.cut_has_none}
use Rattle.btf_types.specs.{Values.TypeRecord, Reading.record_of, Encoding.Encodes, Denotes.Denotes}
use Rattle.btf_types.specs.{Valid.IsValid, Valid.facts, checks.FieldFaults.FieldFault}
use Rattle.btf_types.specs.Faults.{Phase, InHeader, InStrings, InFrames, InFields, Faults, StringsFault, FramesFault, FieldsFault}
use Rattle.btf_types.specs.Laws.{CutIsChecked, FramingIsChecked, FieldsAreChecked, NoFaultIsAccepted}
use Rattle.btf_types.proofs.{Denoting.frames_of, TableLemmas.TableSteps.frames_denote}
use Rattle.btf_types.proofs.CheckLemmas.PhaseSteps.{strings_have_none, framing_has_none, same_frames}
use Rattle.btf_types.proofs.CheckLemmas.{FramesLaw.frames_there, FieldsLaw.fields_have_none}
use Rattle.btf_types.proofs.FaultlessLemmas.Faultless.{frames_encode, frames_valid}

-- ---- the header and the strings

ends_there : (strings : List ℕ) → 0 < length strings → HasNone (StringFault strings) → HasNulEnds strings
ends_there strings some none = record {
  some = some;
  first = elim (cases_eq (slice_index strings 0) 0) [ inl nul ↦ nul | inr other ↦ absurd (none 0 FirstString (refl, some, other)) ];
  last = elim (cases_eq (slice_index strings (length strings - 1)) 0) [ inl nul ↦ nul | inr other ↦ absurd (none (length strings - 1) LastString (omega arith, other)) ];
}

pub cut_is_checked : CutIsChecked
cut_is_checked b fits = record {
  there = λ none.
      let found = header_there b fits none.0 in
      let h = found.0 in
      let cut = found.1.cut in
      let strings = part b h.str_pos h.str_len in
      record {
        order = h.order;
        types = part b h.types_pos h.types_len;
        strings = strings;
        cut = cut;
        nul_ends = ends_there strings cut.some_strings (λ p c fault. none.1 (strings_at h.order b + p) c (record {
          header = none.0;
          order = h.order;
          types = part b h.types_pos h.types_len;
          strings = strings;
          offset = p;
          cut = cut;
          fault = fault;
          at_offset_is = refl;
        }));
      };
  back = λ can. (cut_has_none b can.order can.types can.strings can.cut, strings_have_none b can.order can.types can.strings can.cut can.nul_ends);
}

-- ---- the framing

types_are_bytes : (b : List ℕ) (o : Order) (types strings : List ℕ) → IsBytes b → Cut b o types strings → IsBytes types
types_are_bytes b o types strings fits cut =
    let reads = cut_reads b o types strings cut in
    subst (λ (t : List ℕ). IsBytes t) (sym reads.types_are) (IsBytes-take (length types) _ (IsBytes-drop (types_at o b) b fits))

module _ (b : List ℕ) (o : Order) (types strings : List ℕ) (cut : Cut b o types strings) (ends : HasNulEnds strings) where
  framing_there : IsBytes b → HasNone (FramesFault b) → (frames : List (List ℕ)) × Frames o types frames
  framing_there fits none = frames_there o types (types_are_bytes b o types strings fits cut) (λ at_offset cause fault. none (types_at o b + at_offset) cause (record {
    header = cut_has_none b o types strings cut;
    ends = strings_have_none b o types strings cut ends;
    order = o;
    types = types;
    strings = strings;
    offset = at_offset;
    cut = cut;
    fault = fault;
    at_offset_is = refl;
  }))

  -- ---- the fields

  module _ (frames : List (List ℕ)) (framed : Frames o types frames) where
    fields_none : HasNone (FieldsFault b) → HasNone (FieldFault strings frames)
    fields_none none p c fault = none (types_at o b + p) c (record {
      header = cut_has_none b o types strings cut;
      ends = strings_have_none b o types strings cut ends;
      framing = framing_has_none b o types strings frames cut framed;
      order = o;
      types = types;
      strings = strings;
      frames = frames;
      offset = p;
      cut = cut;
      framed = framed;
      fault = fault;
      at_offset_is = refl;
    })

    fields_there : HasNone (FieldsFault b) → (v : List TypeRecord) × AllZip (Encodes strings) v frames × IsValid v
    fields_there none =
        let no_field = fields_none none in
        let few : length (section_of o frames) ≤ TYPES_LIMIT = subst (λ (t : List ℕ). length t ≤ TYPES_LIMIT) framed.whole cut.types_fit in (
          map (record_of strings) frames,
          frames_encode strings frames ends framed.each no_field,
          frames_valid strings frames ends framed.each no_field o cut.strings_fit few,
        )

    fields_back : (v : List TypeRecord) → AllZip (Encodes strings) v frames → IsValid v → HasNone (FieldsFault b)
    fields_back v encoded valid p c fault =
        let same = cut_unique b fault.order o fault.types fault.strings types strings fault.cut cut in
        let frames_are = same_frames o types fault.frames frames (rw (same.order, same.types) at fault.framed) framed in
        fields_have_none strings v frames encoded valid fault.offset c (rw (same.strings, frames_are) at fault.fault)

pub framing_is_checked : FramingIsChecked
framing_is_checked b o types strings fits cut ends = record {
  there = framing_there b o types strings cut ends fits;
  back = λ framed. framing_has_none b o types strings framed.0 cut framed.1;
}

pub fields_are_checked : FieldsAreChecked
fields_are_checked b o types strings frames fits cut ends framed = record {
  there = fields_there b o types strings cut ends frames framed;
  back = λ right. fields_back b o types strings cut ends frames framed right.0 right.1 right.2;
}

-- ---- the complete file

denoted : (b : List ℕ) → IsBytes b → ((phase : Phase) (at_offset : ℕ) (cause : BtfCause) → ¬ Faults b phase at_offset cause) → (v : List TypeRecord) × Denotes b v
denoted b fits none =
    let can = (cut_is_checked b fits).there (none InHeader, none InStrings) in
    let o = can.order in
    let framed = framing_there b o can.types can.strings can.cut can.nul_ends fits (none InFrames) in
    let frames = framed.0 in
    let right = fields_there b o can.types can.strings can.cut can.nul_ends frames framed.1 (none InFields) in
    (right.0, frames_denote b o can.types can.strings right.0 frames can.cut can.nul_ends framed.1 right.1 right.2)

faultless : (b : List ℕ) (v : List TypeRecord) → Denotes b v → (phase : Phase) (at_offset : ℕ) (cause : BtfCause) → ¬ Faults b phase at_offset cause
faultless b v d =
    let found = frames_of d.order d.strings (facts v) v d.encodings d.valid.each d.encoded in
    let framed : Frames d.order d.types found.frames = record { each = found.each; whole = d.whole ∙ found.bytes } in
    by_phase (cut_has_none b d.order d.types d.strings d.cut) (strings_have_none b d.order d.types d.strings d.cut d.nul_ends)
    (framing_has_none b d.order d.types d.strings found.frames d.cut framed)
    (fields_back b d.order d.types d.strings d.cut d.nul_ends found.frames framed v found.encoded d.valid)
  where
    by_phase : HasNone (HeaderFault b) → HasNone (StringsFault b) → HasNone (FramesFault b) → HasNone (FieldsFault b) → (phase : Phase) (at_offset : ℕ) (cause : BtfCause) → ¬ Faults b phase at_offset cause
    by_phase header strings frames fields InHeader = header
    by_phase header strings frames fields InStrings = strings
    by_phase header strings frames fields InFrames = frames
    by_phase header strings frames fields InFields = fields

pub no_fault_is_accepted : NoFaultIsAccepted
no_fault_is_accepted b fits = record { there = denoted b fits; back = λ some. faultless b some.0 some.1 }
