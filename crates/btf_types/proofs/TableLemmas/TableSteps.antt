-- What the phases leave is a table of the sections of the file.
use Rattle.std.proofs.Common.{◌≡◌, ℕ, arith, List, [], ◌∷◌, ◌++◌, map, refl, sym, ap, subst, ◌∙◌}
use Rattle.std.specs.List.{AllZip, concat}
use Rattle.bpf_words.specs.declared.Order.{Order}
use Rattle.btf_raw.specs.{declared.header.Header.Header, Header.Cut, Header.HasNulEnds, Frames.Frames, Frames.bytes_of, Frames.section_of}
use Rattle.btf_types.specs.{Values.TypeRecord, Denotes.Denotes, Denotes.HoldsSections, Valid.IsValid, Encoding.Encodes, Encoding.IsRecord}
use Rattle.btf_types.specs.{Reading.frames_at, Sections.words_at, tables.TableInvariant.IsTable, tables.TableInvariant.IsChecked}
use Rattle.btf_types.proofs.CheckLemmas.PhaseSteps.{HasFrames, types_of, strings_of, fails_strings, fails_framing, fails_fields, strings_checked, framing_checked}

pub concat-map : (o : Order) (frames : List (List ℕ)) → concat (map (bytes_of o) frames) ≡ section_of o frames
concat-map o [] = refl
concat-map o (f ∷ frames) = ap (λ (t : List ℕ). bytes_of o f ++ t) (concat-map o frames)

pub encoded_bytes : (o : Order) (strings : List ℕ) (v : List TypeRecord) (frames : List (List ℕ)) → AllZip (Encodes strings) v frames → AllZip (IsRecord o strings) v (map (bytes_of o) frames)
encoded_bytes o strings [] [] s = tt
encoded_bytes o strings [] (f ∷ frames) s = absurd s
encoded_bytes o strings (r ∷ v) [] s = absurd s
encoded_bytes o strings (r ∷ v) (f ∷ frames) s = ((f, s.0, refl), encoded_bytes o strings v frames s.1)

pub frames_denote : (b : List ℕ) (o : Order) (types strings : List ℕ) (v : List TypeRecord) (frames : List (List ℕ)) → Cut b o types strings → HasNulEnds strings
    → Frames o types frames → AllZip (Encodes strings) v frames → IsValid v → Denotes b v
frames_denote b o types strings v frames cut ends framed encoded valid = record {
  order = o;
  types = types;
  strings = strings;
  encodings = map (bytes_of o) frames;
  cut = cut;
  nul_ends = ends;
  encoded = encoded_bytes o strings v frames encoded;
  whole = framed.whole ∙ sym (concat-map o frames);
  valid = valid;
}

pub holds_sections : (b : List ℕ) (h : Header) (offsets : List ℕ) → HasFrames b h offsets → IsTable (words_at h.order (types_of b h) (strings_of b h) offsets)
    → HoldsSections b (words_at h.order (types_of b h) (strings_of b h) offsets)
holds_sections b h offsets has right =
    let cut = has.has_strings.header.reads.cut in
    let framed = has.framed.frames in
    let frames = frames_at h.order (types_of b h) offsets in
    record {
      cut = subst (λ (types : List ℕ). Cut b h.order types (strings_of b h)) framed.whole cut;
      each = framed.each;
      denotes = frames_denote b h.order (types_of b h) (strings_of b h) _ frames cut has.has_strings.ends framed right.encoded right.valid;
    }

pub is_checked : (b : List ℕ) (h : Header) (offsets : List ℕ) → HasFrames b h offsets → IsTable (words_at h.order (types_of b h) (strings_of b h) offsets) → IsChecked h.order (types_of b h) (strings_of b h) offsets
is_checked b h offsets has right = record {
  few = omega (arith, has.framed.count, has.has_strings.header.reads.cut.types_fit);
  framed = has.framed;
  table = right;
}

-- what the search cites of the phases of a parser
pub ruleset phases = (fails_strings, fails_framing, fails_fields, strings_checked, framing_checked, holds_sections, is_checked)
