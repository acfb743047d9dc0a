-- The records of a file can be written in their order.
use Rattle.std.proofs.Common.{◌≡◌, ℕ, zero, suc, ◌+◌, ◌*◌, ◌<◌, ◌≤◌, ◌==◌, ◌&&◌, true, false, not, List, [], ◌∷◌, ◌++◌, length, map, get_or, refl, sym, ap, subst, ◌∙◌, inl, inr, arith}
use Rattle.std.specs.Prelude.{if◌then◌else◌, slice_index}
use Rattle.std.specs.List.{All, flat_map}
use Rattle.std.proofs.lemmas.Bool.{cases_Bool}
use Rattle.std.proofs.lemmas.List.{get_or-map, length-map}
use Rattle.btf_raw.specs.{Kinds.is_struct, Kinds.item_words, Kinds.has_item_names}
use Rattle.bpf_words.specs.declared.Order.{Order}
use Rattle.btf_raw.specs.Frames.{kind, flag, bytes_of, section_of}
use Rattle.btf_types.specs.{Encoding.Encodes, Reading.record_of, Reading.tabulate, Sections.SectionWords, Sections.records_in, checks.FieldFaults.width, checks.FieldFaults.width_in}
use Rattle.btf_types.specs.tables.TableInvariant.{IsTable}
use Rattle.btf_types.proofs.{CheckLemmas.RoleSteps.struct_size, KindCases.named_kind, Lists.zip_at}
use Rattle.bpf_canon.specs.btf.CanonicalBtf.{record_words}
use Rattle.bpf_canon.specs.btf.write.NameOffsets.{item_word, name_offsets, all_offsets}
use Rattle.bpf_object.specs.Canonical.{types_bytes}
use Rattle.bpf_object.specs.{Lines.any_of, TypesFaults.KeepsTypes}
use Rattle.bpf_object.specs.Types.{TypesSection, is_flagged}
use Rattle.bpf_object.specs.TypeOrder.{frame_of, new_number, renewed_frame, IsOrder, ordered}
use Rattle.bpf_object.specs.private.TypeSteps.{renewed_frames, AreNumbered}
use Rattle.bpf_object.specs.private.WrittenRecords.{IsWritable, renewed, AreWritable}
use Rattle.bpf_object.proofs.{CanonBtfRules.no_record, CanonBtfRules.frame_plain, Places.ids_in_range, RenewedWords.name_no_type, RenewedWords.member_word}
use Rattle.bpf_object.proofs.RenewedFrames.{renewed_other, renewed_name, renewed_kind, renewed_vlen, renewed_flag}
use Rattle.bpf_object.proofs.RewrittenValid.{ordered_table, ordered_bytes}

-- ---- names

module _ (new : ℕ → ℕ) (f : List ℕ) where
  abbrev g : List ℕ
  g = renewed_frame new f

  item_kept : (k : ℕ) → has_item_names (kind f) ≡ true → item_word g k ≡ item_word f k
  item_kept k has =
      let j = 3 + item_words (kind f) * k in
      ap (λ (n : ℕ). slice_index g (3 + item_words n * k)) (renewed_kind new f)
      ∙ renewed_other new f j (name_no_type (kind f) j k (named_kind (kind f) has) has (omega arith))

  -- a record with new numbers has its names where they were
  pub names_kept : name_offsets g ≡ name_offsets f
  names_kept = elim (cases_Bool (has_item_names (kind f))) [
    | inl has ↦ λ i. renewed_name new f i ∷ (if has_item_names (renewed_kind new f i) then tabulate (λ k. item_kept k has i) (renewed_vlen new f i) else [])
    | inr none ↦ rw (ap has_item_names (renewed_kind new f) ∙ none, none, renewed_name new f) refl
  ]

-- and so have all
pub all_names_kept : (s : SectionWords) (new : ℕ → ℕ) (ids : List ℕ) → all_offsets (renewed_frames s new ids) ≡ flat_map (λ id. name_offsets (frame_of s id)) ids
all_names_kept s new [] = refl
all_names_kept s new (id ∷ ids) = λ i. names_kept new (frame_of s id) i ++ all_names_kept s new ids i

-- ---- bytes

-- those of a record that is written
abbrev pub new_bytes : Order → (List ℕ → ℕ) → SectionWords → (ℕ → ℕ) → ℕ → List ℕ
new_bytes o place s new id = bytes_of o (record_words place (record_of s.strings (renewed_frame new (frame_of s id))))

pub new_bytes_are : (o : Order) (place : List ℕ → ℕ) (s : SectionWords) (new : ℕ → ℕ) (ids : List ℕ)
    → flat_map (new_bytes o place s new) ids ≡ types_bytes o place (map (record_of s.strings) (renewed_frames s new ids))
new_bytes_are o place s new [] = refl
new_bytes_are o place s new (id ∷ ids) = ap (λ (b : List ℕ). new_bytes o place s new id ++ b) (new_bytes_are o place s new ids)

-- ---- kind_flag

module _ (new : ℕ → ℕ) (f : List ℕ) where
  abbrev h : List ℕ
  h = renewed_frame new f

  width_kept : (k : ℕ) → is_struct (kind f) ≡ true → width h (5 + 3 * k) ≡ width f (5 + 3 * k)
  width_kept k struct =
      let j = 5 + 3 * k in
      let at : j ≡ 3 + item_words (kind f) * k + 2 = rw (struct_size (kind f) struct) (omega arith) in
      ap (λ (b : ℕ). width_in b (slice_index h j)) (renewed_flag new f)
      ∙ ap (width_in (flag f)) (renewed_other new f j (member_word (kind f) j k 2 struct at (omega arith)))

  flagged_kept : is_flagged f ≡ false → is_flagged h ≡ false
  flagged_kept plain = elim (cases_Bool (is_struct (kind f))) [
    | inl struct ↦
        (λ i. is_struct (renewed_kind new f i) && (not (renewed_flag new f i == 0) && not (any_of (renewed_vlen new f i) (λ k. not (width_kept k struct i == 0)))))
        ∙ plain
    | inr other ↦ rw (ap is_struct (renewed_kind new f) ∙ other) refl
  ]

record_plain : (x : TypesSection) (s : SectionWords) (new : ℕ → ℕ) → KeepsTypes x s → (id : ℕ) → 0 < id → id ≤ length s.frames → is_flagged (renewed_frame new (frame_of s id)) ≡ false
record_plain x s new keeps zero some le = absurd (omega (arith, some))
record_plain x s new keeps (suc k) some le = flagged_kept new (frame_of s (suc k)) (frame_plain x s keeps k (omega (arith, le)))

-- ---- all

each_writable : (x : TypesSection) (s : SectionWords) (ids : List ℕ) → KeepsTypes x s → IsOrder s ids → IsTable (ordered ids s) → All (IsWritable s.strings) (ordered ids s).frames
each_writable x s ids keeps is table k d lt =
    let w = ordered ids s in
    let value : ℕ → List ℕ = λ id. renewed_frame (new_number ids) (frame_of s id) in
    let there : k < length ids = omega (arith, lt, length-map ids value) in
    let range = ids_in_range (length s.frames) ids is.permutation k 0 there in
    let at : get_or w.frames k d ≡ value (get_or ids k 0) = get_or-map value ids k 0 d there in
    let encoded = zip_at (Encodes w.strings) (records_in w) w.frames k no_record d table.encoded (omega (arith, lt, length-map w.frames (record_of w.strings))) in
    record {
      ends = table.ends;
      frame = table.each k d lt;
      encoded = subst (λ r. Encodes s.strings r (get_or w.frames k d)) (get_or-map (record_of w.strings) w.frames k d no_record lt) encoded;
      plain = ap is_flagged at ∙ record_plain x s (new_number ids) keeps (get_or ids k 0) range.0 range.1;
    }

pub are_writable : (x : TypesSection) (s : SectionWords) (ids numbers : List ℕ) → KeepsTypes x s → AreNumbered s ids numbers → AreWritable s ids numbers
are_writable x s ids numbers keeps are =
    let is : ordered ids s ≡ renewed s ids numbers = λ i. record { order = s.order; strings = s.strings; frames = renewed_frames s (λ id. sym (are.each id) i) ids } in
    let table = ordered_table x.bytes s ids keeps.sections are.order in
    record {
      inside = ids_in_range (length s.frames) ids are.order.permutation;
      table = subst IsTable is table;
      each = subst (λ (w : SectionWords). All (IsWritable s.strings) w.frames) is (each_writable x s ids keeps are.order table);
      bytes = ap (λ (w : SectionWords). length (section_of s.order w.frames)) (sym is) ∙ ordered_bytes s ids are.order;
    }
