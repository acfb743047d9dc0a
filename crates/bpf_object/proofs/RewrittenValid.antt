-- .BTF of a file, with its records in their order, has no faults of its own.
use Rattle.std.proofs.Common.{◌≡◌, ℕ, suc, ◌+◌, ◌*◌, ◌≤◌, List, [], ◌∷◌, length, map, refl, sym, ap, subst, ◌∙◌, length-append, arith}
use Rattle.std.specs.List.{sum_by, range_with_len}
use Rattle.std.proofs.lemmas.List.Sums.{sum_by-cons}
use Rattle.std.proofs.lemmas.List.Sorted.{sum_by-IsPermutation}
use Rattle.bpf_words.specs.declared.Order.{Order}
use Rattle.btf_raw.specs.{Header.HasNulEnds}
use Rattle.btf_raw.specs.Frames.{bytes_of, section_of}
use Rattle.btf_raw.proofs.{Cuts.cut_unique, Frames.length-bytes_of}
use Rattle.btf_types.specs.{Denotes.HoldsSections, Sections.SectionWords, Sections.records_in, tables.TableInvariant.IsTable}
use Rattle.btf_types.proofs.TableLemmas.TableSteps.{frames_denote}
use Rattle.btf_types.proofs.{CheckLemmas.FieldsLaw.fields_have_none, FaultlessLemmas.Faultless.frames_encode, FaultlessLemmas.Faultless.frames_valid}
use Rattle.bpf_object.specs.Canonical.{btf_of}
use Rattle.bpf_object.specs.private.OrderedTypes.{IsRewritten}
use Rattle.bpf_object.specs.TypeOrder.{frame_of, new_number, renewed_frame, IsOrder, ordered}
use Rattle.bpf_object.proofs.{CanonBtf.cut_of, CanonBtf.held_encode, RenewedFrames.renewed_length, RewrittenTypes.ordered_frames, OrderedFaults.ordered_none}
use Rattle.bpf_object.proofs.OrderedAgain.{mapped_range}

-- ---- lengths

section_length : (o : Order) (value : ℕ → List ℕ) (ids : List ℕ) → length (section_of o (map value ids)) ≡ sum_by (λ id. 4 * length (value id)) ids
section_length o value [] = refl
section_length o value (id ∷ ids) =
    let more = sum_by-cons (λ a. 4 * length (value a)) id ids in
    omega (arith, length-append (bytes_of o (value id)) (section_of o (map value ids)), length-bytes_of o (value id), section_length o value ids, more)

same_sum : (f g : ℕ → ℕ) (ids : List ℕ) → ((id : ℕ) → f id ≡ g id) → sum_by f ids ≡ sum_by g ids
same_sum f g ids same = ap (λ (h : ℕ → ℕ). sum_by h ids) (λ i id. same id i)

-- records in another order have the same length
pub ordered_bytes : (s : SectionWords) (ids : List ℕ) → IsOrder s ids → length (section_of s.order (ordered ids s).frames) ≡ length (section_of s.order s.frames)
ordered_bytes s ids is =
    let o = s.order in
    let new = new_number ids in
    let range = range_with_len 1 (length s.frames) in
    let whole : map (frame_of s) range ≡ s.frames = mapped_range 1 s.frames (frame_of s) (λ i lt. let at : 1 + i ≡ suc i = omega arith in ap (frame_of s) at) in
    section_length o (λ id. renewed_frame new (frame_of s id)) ids
    ∙ same_sum (λ id. 4 * length (renewed_frame new (frame_of s id))) (λ id. 4 * length (frame_of s id)) ids (λ id. ap (λ (m : ℕ). 4 * m) (renewed_length new (frame_of s id)))
    ∙ sum_by-IsPermutation (λ id. 4 * length (frame_of s id)) range ids is.permutation
    ∙ sym (section_length o (frame_of s) range) ∙ ap (λ (fs : List (List ℕ)). length (section_of o fs)) whole

-- ---- the section

-- the strings of a section begin and end with NUL
held_ends : (b : List ℕ) (s : SectionWords) → HoldsSections b s → HasNulEnds s.strings
held_ends b s held =
    let d = held.denotes in
    let cut = cut_unique b d.order s.order d.types d.strings (section_of s.order s.frames) s.strings d.cut held.cut in
    subst HasNulEnds cut.strings d.nul_ends

-- the records are a table, of no more bytes
pub ordered_table : (b : List ℕ) (s : SectionWords) (ids : List ℕ) → HoldsSections b s → IsOrder s ids → IsTable (ordered ids s)
ordered_table b s ids held is =
    let fs = (ordered ids s).frames in
    let fit = held.cut.types_fit in
    let short = held.cut.strings_fit in
    let few : length (section_of s.order fs) ≤ 33554432 = omega (arith, fit, ordered_bytes s ids is) in
    let ends = held_ends b s held in
    let each = ordered_frames b s ids held is in
    let none = ordered_none s ids is held.each (fields_have_none s.strings (records_in s) s.frames (held_encode b s held) held.denotes.valid) in
    record {
      short = short;
      ends = ends;
      each = each;
      none = none;
      encoded = frames_encode s.strings fs ends each none;
      valid = frames_valid s.strings fs ends each none s.order short few;
    }

pub rewritten_of : (b : List ℕ) (s : SectionWords) (ids : List ℕ) → HoldsSections b s → IsOrder s ids → IsRewritten ids s
rewritten_of b s ids held is =
    let o = s.order in
    let fs = (ordered ids s).frames in
    let types = section_of o fs in
    let fit = held.cut.types_fit in
    let some = held.cut.some_strings in
    let few : length types ≤ 33554432 = omega (arith, fit, ordered_bytes s ids is) in
    let table = ordered_table b s ids held is in
    let cut = cut_of o types s.strings few held.cut.strings_fit (λ e. omega (arith, some, e)) in
    record {
      cut = cut;
      each = table.each;
      denotes =
          frames_denote (btf_of o types s.strings) o types s.strings (records_in (ordered ids s)) fs cut table.ends (record { each = table.each; whole = refl })
          table.encoded table.valid;
    }
