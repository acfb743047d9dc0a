-- A fault of BTF is inside its bytes, or at their end.
use Rattle.std.proofs.Common.{◌≡◌, ℕ, ◌+◌, ◌^◌, ◌<◌, ◌≤◌, List, length, drop, ap, ◌∙◌, length-append, arith}
use Rattle.std.proofs.lemmas.List.{length-take, length-drop}
use Rattle.bpf_words.specs.declared.Order.{Order}
use Rattle.btf_raw.specs.declared.cause.{BtfCause.BtfCause, BtfFault.BtfFault}
use Rattle.btf_raw.specs.declared.cause.BtfCause.TheVariants.{ShortHeader, Magic, Version, Flags, HeaderLength, HeaderTail, TypeLength, StringLength, Sections, FileLength, FirstString, LastString, RecordCut, TailCut}
use Rattle.btf_raw.specs.Header.{HeaderFault, StringFault, types_at, strings_at, part}
use Rattle.btf_raw.specs.Frames.{FramingFault, RecordFault, section_of}
use Rattle.btf_raw.proofs.Cuts.{cut_reads}
use Rattle.btf_types.specs.{Faults.Phase, Faults.InHeader, Faults.InStrings, Faults.InFrames, Faults.InFields, Faults.Faults, Faults.IsFirst, checks.FieldFaults.FieldFault}
use Rattle.btf_types.proofs.CheckLemmas.SectionSteps.{length-section}
use Rattle.bpf_object.proofs.TypesLemmas.{record_at}

in_header : (b : List ℕ) (p : ℕ) (c : BtfCause) → HeaderFault b p c → p ≤ length b
in_header b p ShortHeader h = omega (arith, h.1)
in_header b p Magic h = omega (arith, h.0, h.2)
in_header b p Version h = omega (arith, h.0, h.2)
in_header b p Flags h = omega (arith, h.0, h.2)
in_header b p HeaderLength h = omega (arith, h.2.1, h.4)
in_header b p HeaderTail h = omega (arith, h.5)
in_header b p TypeLength h = omega (arith, h.2.1, h.4)
in_header b p StringLength h = omega (arith, h.2.1, h.4)
in_header b p Sections h = omega (arith, h.5.1, h.11)
in_header b p FileLength h = omega (arith, h.8)
in_header b p c h = absurd h

in_strings : (strings : List ℕ) (p : ℕ) (c : BtfCause) → StringFault strings p c → p < length strings
in_strings strings p FirstString h = omega (arith, h.0, h.1)
in_strings strings p LastString h = omega (arith, h.0)
in_strings strings p c h = absurd h

record IsInside (bytes : List ℕ) (p : ℕ) : Type 0 where
  some : 0 < length bytes
  low : p ≤ length bytes

in_record : (o : Order) (rest : List ℕ) (p : ℕ) (c : BtfCause) → RecordFault o rest p c → IsInside rest p
in_record o rest p RecordCut h = record { some = h.0; low = omega (arith, h.2) }
in_record o rest p TailCut h = record { some = omega (arith, h.3); low = omega (arith, h.3, h.5) }
in_record o rest p c h = record { some = omega (arith, h.1.0); low = omega (arith, h.1.0, h.3) }

in_framing : (o : Order) (types : List ℕ) (p : ℕ) (c : BtfCause) → FramingFault o types p c → IsInside types p
in_framing o types p c h =
    let inside = in_record o h.rest h.offset c h.fault in
    let len = ap length h.whole ∙ length-append (section_of o h.frames) h.rest in
    record { some = omega (arith, inside.some, len); low = omega (arith, inside.low, len, h.at_offset_is) }

in_fields : (o : Order) (strings : List ℕ) (frames : List (List ℕ)) (p : ℕ) (c : BtfCause) → FieldFault strings frames p c → IsInside (section_of o frames) p
in_fields o strings frames p c h =
    let at = record_at frames h.index h.frame h.frame_is in
    let len = length-section o frames in
    record { some = omega (arith, at.within, h.inside, len); low = omega (arith, at.within, h.inside, h.at_offset_is, len) }

-- a part with bytes is inside
part_inside : (b x : List ℕ) (pos : ℕ) → x ≡ part b pos (length x) → 0 < length x → pos + length x ≤ length b
part_inside b x pos is some =
    let len : length x ≡ length (part b pos (length x)) = ap length is in
    omega (arith, len, length-take (length x) (drop pos b), length-drop pos b)

fault_inside : (b : List ℕ) (phase : Phase) (p : ℕ) (c : BtfCause) → Faults b phase p c → p ≤ length b
fault_inside b InHeader p c h = in_header b p c h
fault_inside b InStrings p c h =
    let low = in_strings h.strings h.offset c h.fault in
    let reads = cut_reads b h.order h.types h.strings h.cut in
    omega (arith, low, h.at_offset_is, part_inside b h.strings (strings_at h.order b) reads.strings_are (omega (arith, low)))
fault_inside b InFrames p c h =
    let inside = in_framing h.order h.types h.offset c h.fault in
    let reads = cut_reads b h.order h.types h.strings h.cut in
    omega (arith, inside.low, h.at_offset_is, part_inside b h.types (types_at h.order b) reads.types_are inside.some)
fault_inside b InFields p c h =
    let inside = in_fields h.order h.strings h.frames h.offset c h.fault in
    let len = ap length h.framed.whole in
    let reads = cut_reads b h.order h.types h.strings h.cut in
    omega (arith, inside.low, len, h.at_offset_is, part_inside b h.types (types_at h.order b) reads.types_are (omega (arith, inside.some, len)))

pub fault_near : (b : List ℕ) (fault : BtfFault) → length b ≤ 15728640 → IsFirst b fault → fault.pos < 2 ^ 63
fault_near b fault short first = omega (arith, short, fault_inside b first.phase fault.pos fault.cause first.holds)
