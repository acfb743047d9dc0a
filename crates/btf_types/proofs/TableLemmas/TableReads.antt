-- What a table's invariant says of one record.
use Rattle.std.proofs.Common.{◌≡◌, ◌⊎◌, ℕ, ◌+◌, ◌-◌, ◌*◌, ◌^◌, ◌<◌, ◌≤◌, Bool, true, false, Some, List, [], length, get_or, take, map, refl, ap, subst, ◌∙◌, inl, inr, arith}
use Rattle.std.specs.Prelude.{slice_index, slice_get, unwrap_or, IfSome, ◌==◌}
use Rattle.std.proofs.{lemmas.List.length-map, lemmas.List.get_or-map, lemmas.Bool.eqb-true, lemmas.Option.slice_get-get_or}
use Rattle.bpf_words.specs.declared.Order.{Order}
use Rattle.btf_raw.specs.{KindNumbers.DECL_TAG, Header.HasNulEnds, Names.NameAt, Kinds.item_words}
use Rattle.btf_raw.specs.Frames.{IsFrame, section_of, kind, name_word}
use Rattle.btf_raw.proofs.Texts.{TextAt-unique, TextAt-inside}
use Rattle.btf_types.specs.{Values.TypeRecord, checks.FieldFaults.frame_facts}
use Rattle.btf_types.specs.{Encoding.Encodes, Encoding.HeadInRange}
use Rattle.btf_types.specs.tables.{TableInvariant.IsChecked, OffsetWords.HasRecordAt, TableWords.record_at, TableWords.no_record}
use Rattle.btf_types.proofs.Lists.{length-tabulate, get-map, zip_at}
use Rattle.btf_types.proofs.{CheckLemmas.SectionSteps.ends_inside, TableLemmas.TextSteps.text_there}
use Rattle.btf_types.specs.Reading.{text_from, frame_at, frames_at, record_of, records_at, item_of, item_total, head_from, head_of, component_of}
use Rattle.btf_types.proofs.FaultlessLemmas.{Faultless.faultless, ItemReads.item_names_there}

name_at_word : (strings : List ℕ) (r : TypeRecord) (f : List ℕ) → HasNulEnds strings → Encodes strings r f → NameAt strings (name_word f) (text_from strings (name_word f))
name_at_word strings r f ends s =
    let offset : name_word f ≡ s.name_offset = ap (λ (t : List ℕ). slice_index t 0) s.whole in
    let text = text_there strings s.name_offset ends (TextAt-inside strings s.name_offset _ s.name.text) in
    let same = TextAt-unique strings s.name_offset _ (text_from strings s.name_offset) s.name.text text in
    rw offset (subst (λ (x : List ℕ). NameAt strings s.name_offset x) same s.name)

component_fits_word : (w : ℕ) → IfSome (component_of w) (λ c. c < 2 ^ 16) → (w ≡ 0xffffffff) ⊎ (w < 2 ^ 16)
component_fits_word w h = split (w == 0xffffffff) refl h
  where
    split : (b : Bool) → (w == 0xffffffff) ≡ b → IfSome (component_of w) (λ c. c < 2 ^ 16) → (w ≡ 0xffffffff) ⊎ (w < 2 ^ 16)
    split true e h = inl (eqb-true w 0xffffffff e)
    split false e h = inr (rw e at h)

tag_in_range : (name frame : List ℕ) → kind frame ≡ DECL_TAG → HeadInRange (head_of frame name) → IfSome (component_of (slice_index frame 3)) (λ c. c < 2 ^ 16)
unfolding head_from
tag_in_range name frame tag range = let opened = rw tag at range in opened.1

pub has_record_at : (o : Order) (types strings offsets : List ℕ) (i : ℕ) → IsChecked o types strings offsets → i < length offsets → HasRecordAt o types strings (get_or offsets i 0)
has_record_at o types strings offsets i checked h =
    let table = checked.table in
    let frames = frames_at o types offsets in
    let pos = get_or offsets i 0 in
    let f = frame_at o types pos in
    let inside : i < length frames = omega (arith, length-map offsets (frame_at o types)) in
    let frame-is : get_or frames i [] ≡ f = get_or-map (frame_at o types) offsets i 0 [] h in
    let start = checked.framed.starts i h in
    let whole : length types ≡ length (section_of o frames) = ap length checked.framed.frames.whole in
    let room : length (section_of o (take i frames)) + 4 * length f ≤ length (section_of o frames) = rw frame-is at (ends_inside o frames i inside) in
    let encoded : Encodes strings (record_of strings f) f =
    rw (get_or-map (record_of strings) frames i [] (record_of strings []) inside, frame-is) at (zip_at (Encodes strings) (map (record_of strings) frames) frames i (record_of strings []) [] table.encoded (omega (arith, inside, length-map frames (record_of strings)))) in
    let is : IsFrame f = subst (λ (g : List ℕ). IsFrame g) frame-is (checked.framed.frames.each i [] inside) in
    record {
      inside = omega arith;
      reads = record {
        ends = table.ends;
        frame = is;
        encoded = encoded;
        name = name_at_word strings (record_of strings f) f table.ends encoded;
        item_names =
            let frame_there : slice_get frames i ≡ Some f = slice_get-get_or frames i [] inside ∙ ap (λ (g : List ℕ). Some g) frame-is in
            item_names_there strings (map frame_facts frames) f table.ends is (faultless strings frames table.ends checked.framed.frames.each table.none i f frame_there);
        component = λ tag. component_fits_word (slice_index f 3) (tag_in_range (text_from strings (name_word f)) f tag encoded.head_in_range);
      };
    }

-- what is read at the offset of the record with an ID
pub record ReadsRecordOf (o : Order) (types strings offsets : List ℕ) (id : ℕ) : Type 0 where
  pub at_offset : id - 1 < length offsets
  pub here : HasRecordAt o types strings (get_or offsets (id - 1) 0)
  pub frame : slice_get (frames_at o types offsets) (id - 1) ≡ Some (frame_at o types (get_or offsets (id - 1) 0))
  pub is : record_at (records_at o types strings offsets) id ≡ record_of strings (frame_at o types (get_or offsets (id - 1) 0))

pub record_read : (o : Order) (types strings offsets : List ℕ) (id : ℕ) → IsChecked o types strings offsets → 0 < id → id ≤ length (frames_at o types offsets) → ReadsRecordOf o types strings offsets id
record_read o types strings offsets id checked some low =
    let at_offset : id - 1 < length offsets = omega (arith, length-map offsets (frame_at o types)) in
    let frame : slice_get (frames_at o types offsets) (id - 1) ≡ Some (frame_at o types (get_or offsets (id - 1) 0)) = get-map (frame_at o types) offsets (id - 1) 0 at_offset in
    let got : slice_get (records_at o types strings offsets) (id - 1) ≡ Some (record_of strings (frame_at o types (get_or offsets (id - 1) 0))) =
    get-map (record_of strings) (frames_at o types offsets) (id - 1) [] (omega arith)
    ∙ ap (λ (f : List ℕ). Some (record_of strings f)) (get_or-map (frame_at o types) offsets (id - 1) 0 [] at_offset) in
    record {
      at_offset = at_offset;
      here = has_record_at o types strings offsets (id - 1) checked at_offset;
      frame = frame;
      is = ap (λ r. unwrap_or r no_record) got;
    }

pub length_records_at : (o : Order) (types strings offsets : List ℕ) → length (records_at o types strings offsets) ≡ length offsets
length_records_at o types strings offsets = length-map (frames_at o types offsets) (record_of strings) ∙ length-map offsets (frame_at o types)

pub count_there : (strings frame : List ℕ) → length (record_of strings frame).items ≡ item_total frame
count_there strings frame = length-tabulate (λ i. item_of strings frame (3 + item_words (kind frame) * i)) (item_total frame)

-- the number of records and of their items
pub ruleset placed = (length_records_at, count_there)
