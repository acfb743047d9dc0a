-- From the faults of a section to those of the file.
use Rattle.std.proofs.Common.{◌≡◌, ℕ, ◌+◌, ◌-◌, List, [], ◌++◌, length, get_or, refl, sym, ap, subst, ◌∙◌, inl, inr, append-nil, arith}
use Rattle.bpf_words.specs.declared.Order.{Order}
use Rattle.btf_raw.specs.declared.{header.Header.Header, cause.BtfCause.BtfCause, cause.BtfFault.BtfFault}
use Rattle.btf_raw.specs.declared.cause.BtfCause.TheVariants.{FirstString, LastString, RecordCut, TailCut}
use Rattle.btf_raw.specs.{Cause.HasNone, Cause.LeastByCause, Cause.LeastByOffset, ReadHeader.ReadsHeader}
use Rattle.btf_raw.specs.Header.{Cut, HasNulEnds, HeaderFault, StringFault, part, types_at}
use Rattle.btf_raw.specs.Frames.{Frames, FramingFault, RecordFault, section_of}
use Rattle.btf_raw.proofs.{Frames.IsNoFrame, Frames.frame_has_none, Frames.frames_cancel, Cuts.cut_unique, Cuts.SameCut}
use Rattle.btf_types.proofs.Denoting.{nothing_is_no_frame}
use Rattle.btf_types.specs.{Faults.StringsFault, Faults.FramesFault, Faults.FieldsFault, checks.FieldFaults.FieldFault, Reading.frames_at}
use Rattle.btf_types.specs.{tables.TableInvariant.IsFramed, declared.error.BtfError.BtfError}
use Rattle.btf_types.specs.declared.error.BtfError.TheVariants as errors
use Rattle.btf_types.specs.tables.Tables.{Fails, FailsFraming, FailsFields, moved}
use Rattle.btf_types.proofs.CheckLemmas.Firsts.{first_of_strings, first_of_frames, first_of_fields}

-- ---- what the first phases leave of a file: a header, strings with their ends, and frames

pub record HasHeader (b : List ℕ) (h : Header) : Type 0 where
  pub reads : ReadsHeader b h
  pub none : HasNone (HeaderFault b)

abbrev pub types_of : List ℕ → Header → List ℕ
types_of b h = part b h.types_pos h.types_len

abbrev pub strings_of : List ℕ → Header → List ℕ
strings_of b h = part b h.str_pos h.str_len

pub record HasStrings (b : List ℕ) (h : Header) : Type 0 where
  pub header : HasHeader b h
  pub ends : HasNulEnds (strings_of b h)
  pub none : HasNone (StringsFault b)

pub record HasFrames (b : List ℕ) (h : Header) (offsets : List ℕ) : Type 0 where
  pub has_strings : HasStrings b h
  pub framed : IsFramed h.order (types_of b h) offsets
  pub none : HasNone (FramesFault b)

-- ---- from one phase to the next

pub no_string_fault : (strings : List ℕ) (p : ℕ) (c : BtfCause) → HasNulEnds strings → ¬ StringFault strings p c
no_string_fault strings p FirstString ends fault = fault.2 (subst (λ (i : ℕ). get_or strings i 0 ≡ 0) (sym fault.0) ends.first)
no_string_fault strings p LastString ends fault =
    let last : length strings - 1 ≡ p = omega (arith, fault.0) in
    fault.1 (subst (λ (i : ℕ). get_or strings i 0 ≡ 0) last ends.last)
no_string_fault strings p c ends fault = absurd fault

-- the cut of a fault is that of the header
same_cut : (b : List ℕ) (h : Header) (o : Order) (types strings : List ℕ) → HasHeader b h → Cut b o types strings → SameCut o h.order types strings (types_of b h) (strings_of b h)
same_cut b h o types strings has cut = cut_unique b o h.order types strings (types_of b h) (strings_of b h) cut has.reads.cut

pub strings_have_none : (b : List ℕ) (o : Order) (types strings : List ℕ) → Cut b o types strings → HasNulEnds strings → HasNone (StringsFault b)
strings_have_none b o types strings cut ends p c fault =
    let same = cut_unique b fault.order o fault.types fault.strings types strings fault.cut cut in
    no_string_fault strings fault.offset c ends (rw same.strings at fault.fault)

pub strings_checked : (b : List ℕ) (h : Header) → HasHeader b h → HasNulEnds (strings_of b h) → HasStrings b h
strings_checked b h has ends =
    record { header = has; ends = ends; none = strings_have_none b h.order (types_of b h) (strings_of b h) has.reads.cut ends }

pub first_string_fault : (b : List ℕ) (h : Header) (p q : ℕ) (c : BtfCause) → HasHeader b h → LeastByCause (StringFault (strings_of b h)) q c → p ≡ h.str_pos + q → LeastByCause (StringsFault b) p c
first_string_fault b h p q c has least is = record {
  holds = record {
    header = has.none;
    order = h.order;
    types = types_of b h;
    strings = strings_of b h;
    offset = q;
    cut = has.reads.cut;
    fault = least.holds;
    at_offset_is = is ∙ ap (λ (k : ℕ). k + q) has.reads.str_pos;
  };
  least = λ r d other. least.least other.offset d (rw (same_cut b h other.order other.types other.strings has other.cut).strings at other.fault);
}

no_fault_of_nothing : (o : Order) (p : ℕ) (c : BtfCause) → ¬ RecordFault o [] p c
no_fault_of_nothing o p RecordCut fault = omega (arith, fault.0)
no_fault_of_nothing o p TailCut fault = omega (arith, fault.1.0)
no_fault_of_nothing o p c fault = omega (arith, fault.1.0)

-- a section of frames has no fault of framing
pub frames_have_none : (o : Order) (types : List ℕ) (frames : List (List ℕ)) (p : ℕ) (c : BtfCause) → Frames o types frames → ¬ FramingFault o types p c
frames_have_none o types frames p c framed fault =
    let rest_is_none : IsNoFrame o fault.rest = λ f rest frame is. frame_has_none o f rest fault.offset c frame (subst (λ (b : List ℕ). RecordFault o b fault.offset c) is fault.fault) in
    let same = frames_cancel o frames fault.frames [] fault.rest framed.each fault.each (nothing_is_no_frame o) rest_is_none (rw append-nil (sym framed.whole ∙ fault.whole)) in
    no_fault_of_nothing o fault.offset c (subst (λ (b : List ℕ). RecordFault o b fault.offset c) (sym same.rest) fault.fault)

pub framing_has_none : (b : List ℕ) (o : Order) (types strings : List ℕ) (frames : List (List ℕ)) → Cut b o types strings → Frames o types frames → HasNone (FramesFault b)
framing_has_none b o types strings frames cut framed p c fault =
    let same = cut_unique b fault.order o fault.types fault.strings types strings fault.cut cut in
    frames_have_none o types frames fault.offset c framed (rw (same.order, same.types) at fault.fault)

pub framing_checked : (b : List ℕ) (h : Header) (offsets : List ℕ) → HasStrings b h → IsFramed h.order (types_of b h) offsets → HasFrames b h offsets
framing_checked b h offsets has framed = record {
  has_strings = has;
  framed = framed;
  none = framing_has_none b h.order (types_of b h) (strings_of b h) (frames_at h.order (types_of b h) offsets) has.header.reads.cut framed.frames;
}

pub first_frames_fault : (b : List ℕ) (h : Header) (p q : ℕ) (c : BtfCause) → HasStrings b h → LeastByOffset (FramingFault h.order (types_of b h)) q c → p ≡ h.types_pos + q → LeastByOffset (FramesFault b) p c
first_frames_fault b h p q c has least is = record {
  holds = record {
    header = has.header.none;
    ends = has.none;
    order = h.order;
    types = types_of b h;
    strings = strings_of b h;
    offset = q;
    cut = has.header.reads.cut;
    fault = least.holds;
    at_offset_is = is ∙ ap (λ (k : ℕ). k + q) has.header.reads.types_pos;
  };
  least = λ r d other.
      let same = same_cut b h other.order other.types other.strings has.header other.cut in
      let fault = rw (same.order, same.types) at other.fault in
      let base : types_at other.order b ≡ h.types_pos = ap (λ (o : Order). types_at o b) same.order ∙ sym has.header.reads.types_pos in
      let at_offset = other.at_offset_is in
      elim (least.least other.offset d fault) [
        | inl before ↦ inl (omega arith)
        | inr here ↦ inr (omega (arith, here.0), here.1)
      ];
}

-- a section can be cut into frames in only one way
pub same_frames : (o : Order) (types : List ℕ) (fs gs : List (List ℕ)) → Frames o types fs → Frames o types gs → fs ≡ gs
same_frames o types fs gs one other =
    let sections : section_of o fs ++ [] ≡ section_of o gs ++ [] = rw (append-nil, append-nil) (sym one.whole ∙ other.whole) in
    (frames_cancel o fs gs [] [] one.each other.each (nothing_is_no_frame o) (nothing_is_no_frame o) sections).frames

pub first_fields_fault : (b : List ℕ) (h : Header) (offsets : List ℕ) (p q : ℕ) (c : BtfCause) → HasFrames b h offsets
    → LeastByOffset (FieldFault (strings_of b h) (frames_at h.order (types_of b h) offsets)) q c → p ≡ h.types_pos + q → LeastByOffset (FieldsFault b) p c
first_fields_fault b h offsets p q c has least is =
    let reads = has.has_strings.header.reads in
    let frames = frames_at h.order (types_of b h) offsets in
    record {
      holds = record {
        header = has.has_strings.header.none;
        ends = has.has_strings.none;
        framing = has.none;
        order = h.order;
        types = types_of b h;
        strings = strings_of b h;
        frames = frames;
        offset = q;
        cut = reads.cut;
        framed = has.framed.frames;
        fault = least.holds;
        at_offset_is = is ∙ ap (λ (k : ℕ). k + q) reads.types_pos;
      };
      least = λ r d other.
          let same = same_cut b h other.order other.types other.strings has.has_strings.header other.cut in
          let these = same_frames h.order (types_of b h) other.frames frames (rw (same.order, same.types) at other.framed) has.framed.frames in
          let fault = rw (same.strings, these) at other.fault in
          let base : types_at other.order b ≡ h.types_pos = ap (λ (o : Order). types_at o b) same.order ∙ sym reads.types_pos in
          let at_offset = other.at_offset_is in
          elim (least.least other.offset d fault) [
            | inl before ↦ inl (omega arith)
            | inr here ↦ inr (omega (arith, here.0), here.1)
          ];
    }

-- ---- the fault of a section is the first of the file

pub fails_strings : (b : List ℕ) (h : Header) (fault : BtfFault) → HasHeader b h → LeastByCause (StringFault (strings_of b h)) fault.pos fault.cause
    → Fails b (moved h.str_pos (errors.Fault fault))
fails_strings b h fault has least =
    first_of_strings b (h.str_pos + fault.pos) fault.cause (first_string_fault b h (h.str_pos + fault.pos) fault.pos fault.cause has least refl)

pub fails_framing : (b : List ℕ) (h : Header) (e : BtfError) → HasStrings b h → FailsFraming h.order (types_of b h) e → Fails b (moved h.types_pos e)
fails_framing b h (errors.Fault fault) has least =
    first_of_frames b (h.types_pos + fault.pos) fault.cause (first_frames_fault b h (h.types_pos + fault.pos) fault.pos fault.cause has least refl)
fails_framing b h errors.Memory has least = tt

pub fails_fields : (b : List ℕ) (h : Header) (offsets : List ℕ) (e : BtfError) → HasFrames b h offsets → FailsFields h.order (types_of b h) (strings_of b h) offsets e
    → Fails b (moved h.types_pos e)
fails_fields b h offsets (errors.Fault fault) has least =
    first_of_fields b (h.types_pos + fault.pos) fault.cause (first_fields_fault b h offsets (h.types_pos + fault.pos) fault.pos fault.cause has least refl)
fails_fields b h offsets errors.Memory has least = tt
