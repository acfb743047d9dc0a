-- The records of a file in their order are those that a canonical file may have.
use Rattle.std.proofs.Common.{◌≡◌, ◌⊎◌, ℕ, zero, suc, ◌-◌, ◌<◌, ◌==◌, ◌&&◌, true, false, List, [], ◌∷◌, length, get_or, inl, inr, refl, sym, ap, subst, ◌∙◌, arith}
use Rattle.std.specs.{List.All, List.AllZip, List.range_with_len}
use Rattle.std.proofs.lemmas.Bool.{cases_lt}
use Rattle.std.proofs.lemmas.List.{get_or-map, length-map}
use Rattle.bpf_elf.specs.Kinds.{is_reserved}
use Rattle.bpf_elf.specs.Names.{string_at}
use Rattle.btf_raw.specs.{KindNumbers.DATASEC, KindNumbers.TYPE_TAG}
use Rattle.btf_raw.specs.Frames.{kind, flag, third_word, name_word}
use Rattle.btf_types.specs.Values.{TypeHead, KStruct, KUnion, TypeRecord}
use Rattle.btf_types.specs.{Names.head_name, Reading.record_of, Valid.IsValidRecord, Valid.facts}
use Rattle.btf_types.specs.Encoding.{Encodes, FlagEncodes, kind_number, head_third}
use Rattle.btf_types.specs.{checks.Numbers.TypeFacts, Sections.SectionWords, Sections.records_in}
use Rattle.btf_types.proofs.{Lists.zip_at, Encoded.numbers}
use Rattle.bpf_object.specs.private.OrderedTypes.{IsRewritten}
use Rattle.bpf_object.specs.{Types.TypesSection, Types.is_reserved_section, TypesFaults.KeepsTypes}
use Rattle.bpf_object.specs.TypeOrder.{frame_of, new_number, renewed_frame, IsOrder, ordered}
use Rattle.bpf_object.proofs.{CanonBtf.held_encode}
use Rattle.bpf_object.proofs.CanonBtfRules.{no_record, is_reserved_record, is_long, is_long_record, AreFree, name_read, reserved_is, are_named, frame_free, frame_short}
use Rattle.bpf_object.proofs.NameRules.{IsOneOf, apart_among, kind_in, name_in, apart_kept}
use Rattle.bpf_object.proofs.{OrderAlike.is_ranked, OrderAlike.IsAlike, OrderLayers.frame_out, Places.id_above}
use Rattle.bpf_object.proofs.OrderedAgain.{order_length, ordered_length, ordered_again, order_of_alike}
use Rattle.bpf_object.proofs.RenewedFrames.{renewed_name, renewed_kind}

-- ---- words that encode the same records

flag_same : (h : TypeHead) (a b : ℕ) → is_ranked (kind_number h) ≡ true → FlagEncodes h a → FlagEncodes h b → a ≡ b
flag_same (KStruct name size) a b ranked p q = absurd cc
flag_same (KUnion name size) a b ranked p q = absurd cc
flag_same h a b ranked p q = p ∙ sym q

zip_length : {X Y : Type 0} (R : X → Y → Type 0) (xs : List X) (ys : List Y) → AllZip R xs ys → length xs ≡ length ys
zip_length R [] [] all = refl
zip_length R [] (y ∷ ys) all = absurd all
zip_length R (x ∷ xs) [] all = absurd all
zip_length R (x ∷ xs) (y ∷ ys) all = omega (arith, zip_length R xs ys all.1)

-- the fields of a frame that the order needs
record HasFields (strings : List ℕ) (r : TypeRecord) (f : List ℕ) : Type 0 where
  kind_is : kind f ≡ kind_number r.head
  third_is : third_word f ≡ head_third r.head
  name_is : string_at strings (name_word f) ≡ head_name r.head
  flag_is : FlagEncodes r.head (flag f)

fields_of : (strings : List ℕ) (types : List TypeFacts) (r : TypeRecord) (f : List ℕ) → IsValidRecord types r → Encodes strings r f → HasFields strings r f
fields_of strings types r f valid s =
    let n = numbers strings types r f valid s in
    record {
      kind_is = n.kind;
      third_is = n.third;
      name_is = name_read strings types r f valid s;
      flag_is = subst (FlagEncodes r.head) (sym n.flag) s.flag_encodes;
    }

module _ (s w : SectionWords) (v : List TypeRecord) (types : List TypeFacts) (valid : All (IsValidRecord types) v) (left : AllZip (Encodes s.strings) v s.frames)
    (right : AllZip (Encodes w.strings) v w.frames) where
  same_size : length w.frames ≡ length s.frames
  same_size = sym (zip_length (Encodes w.strings) v w.frames right) ∙ zip_length (Encodes s.strings) v s.frames left

  outside : (id : ℕ) → (id ≡ 0) ⊎ (length s.frames < id) → IsAlike s w (λ u. u) id
  outside id out =
      let first = frame_out s id out in
      let second = frame_out w id (elim out [ inl none ↦ inl none | inr over ↦ inr (omega (arith, over, same_size)) ]) in
      let none : (is : is_ranked (kind (frame_of s id)) ≡ true) → is_ranked (kind []) ≡ true = λ is. subst (λ (f : List ℕ). is_ranked (kind f) ≡ true) first is in
      record {
        same_kind = ap kind (second ∙ sym first);
        same_name = λ is. let bad = none is in absurd cc;
        same_flag = λ is. ap flag (second ∙ sym first);
        same_third = λ is. let bad : kind [] ≡ TYPE_TAG = subst (λ (f : List ℕ). kind f ≡ TYPE_TAG) first is in absurd cc;
      }

  inside : (i : ℕ) → i < length s.frames → IsAlike s w (λ u. u) (suc i)
  inside i lt =
      let counted = zip_length (Encodes s.strings) v s.frames left in
      let there : i < length v = omega (arith, lt, counted) in
      let r = get_or v i no_record in
      let first = fields_of s.strings types r (get_or s.frames i []) (valid i no_record there) (zip_at (Encodes s.strings) v s.frames i no_record [] left there) in
      let second = fields_of w.strings types r (get_or w.frames i []) (valid i no_record there) (zip_at (Encodes w.strings) v w.frames i no_record [] right there) in
      record {
        same_kind = second.kind_is ∙ sym first.kind_is;
        same_name = λ is. second.name_is ∙ sym first.name_is;
        same_flag = λ is. flag_same r.head _ _ (ap is_ranked (sym first.kind_is) ∙ is) second.flag_is first.flag_is;
        same_third = λ is. second.third_is ∙ sym first.third_is;
      }

  alike : (id : ℕ) → IsAlike s w (λ u. u) id
  alike zero = outside 0 (inl refl)
  alike (suc i) = elim (cases_lt i (length s.frames)) [ inl lt ↦ inside i lt | inr le ↦ outside (suc i) (inr (omega (arith, le))) ]

  pub same_order : IsOrder s (range_with_len 1 (length s.frames)) → IsOrder w (range_with_len 1 (length w.frames))
  same_order is = order_of_alike s w same_size alike is

-- ---- the records of a file

-- words that encode these records have them in order
abbrev pub AreInOrder : List TypeRecord → Type 0
AreInOrder v = (w : SectionWords) → AllZip (Encodes w.strings) v w.frames → IsOrder w (range_with_len 1 (length w.frames))

pub ordered_in_order : (s : SectionWords) (ids : List ℕ) → IsOrder s ids → IsRewritten ids s → AreInOrder (records_in (ordered ids s))
ordered_in_order s ids is rewritten w encodes =
    let v = records_in (ordered ids s) in
    same_order (ordered ids s) w v (facts v) rewritten.denotes.valid.each (held_encode _ (ordered ids s) rewritten) encodes (ordered_again s ids is)

-- a record of a file, with new numbers
record IsRenewed (s : SectionWords) (new : ℕ → ℕ) (f : List ℕ) : Type 0 where
  index : ℕ
  there : index < length s.frames
  is : f ≡ renewed_frame new (get_or s.frames index [])

renewed_at : (s : SectionWords) (ids : List ℕ) → IsOrder s ids → (k : ℕ) → k < length (ordered ids s).frames → IsRenewed s (new_number ids) (get_or (ordered ids s).frames k [])
renewed_at s ids is k there =
    let new = new_number ids in
    let inside : k < length ids = omega (arith, there, ordered_length s ids is, order_length s ids is) in
    let id = get_or ids k 0 in
    let above = id_above (length s.frames) ids is.permutation k inside in
    record {
      index = id - 1;
      there = omega (arith, above.0, above.1);
      is = get_or-map (λ a. renewed_frame new (frame_of s a)) ids k 0 [] inside ∙ ap (renewed_frame new) (found id above.0);
    }
  where
    found : (a : ℕ) → 0 < a → frame_of s a ≡ get_or s.frames (a - 1) []
    found zero some = absurd (omega (arith, some))
    found (suc i) some = let at : i ≡ suc i - 1 = omega arith in ap (λ (j : ℕ). get_or s.frames j []) at

module _ (x : TypesSection) (s : SectionWords) (ids : List ℕ) (keeps : KeepsTypes x s) (is : IsOrder s ids) (rewritten : IsRewritten ids s) where
  abbrev w : SectionWords
  w = ordered ids s

  abbrev v : List TypeRecord
  v = records_in w

  abbrev new : ℕ → ℕ
  new = new_number ids

  encode : AllZip (Encodes w.strings) v w.frames
  encode = held_encode _ w rewritten

  there : (k : ℕ) → k < length v → k < length w.frames
  there k lt = omega (arith, lt, length-map w.frames (record_of w.strings))

  none_reserved : (k : ℕ) → k < length v → is_reserved_record (get_or v k no_record) ≡ false
  none_reserved k lt =
      let renewed = renewed_at s ids is k (there k lt) in
      let f = get_or s.frames renewed.index [] in
      sym (reserved_is w.strings (facts v) (get_or v k no_record) (get_or w.frames k []) (rewritten.denotes.valid.each k no_record lt) (zip_at (Encodes w.strings) v w.frames k no_record [] encode lt))
      ∙ ap (is_reserved_section s.strings) renewed.is
      ∙ ap (λ (n : ℕ). n == DATASEC && is_reserved (string_at s.strings (name_word (renewed_frame new f)))) (renewed_kind new f)
      ∙ ap (λ (off : ℕ). kind f == DATASEC && is_reserved (string_at s.strings off)) (renewed_name new f)
      ∙ frame_free x s keeps renewed.index renewed.there

  named : (k : ℕ) → k < length v → IsOneOf (length s.frames) (kind_in s) (name_in s) (kind_number (get_or v k no_record).head) (head_name (get_or v k no_record).head)
  named k lt =
      let renewed = renewed_at s ids is k (there k lt) in
      let f = get_or s.frames renewed.index [] in
      let own = are_named w.strings (facts v) v w.frames rewritten.denotes.valid.each encode k lt in
      record {
        to = renewed.index;
        there = renewed.there;
        kind_is = sym own.0 ∙ ap kind renewed.is ∙ renewed_kind new f;
        name_is = sym own.1 ∙ ap (λ (g : List ℕ). string_at s.strings (name_word g)) renewed.is ∙ ap (string_at s.strings) (renewed_name new f);
      }

  none_long : (k : ℕ) → k < length v → is_long_record (get_or v k no_record) ≡ false
  none_long k lt =
      let a = named k lt in
      ap (λ (n : ℕ). is_long n (head_name (get_or v k no_record).head)) a.kind_is ∙ ap (is_long (kind_in s a.to)) a.name_is ∙ frame_short x s keeps a.to a.there

  -- none of them has a reserved name, or one that is taken, or too long
  pub ordered_free : AreFree v
  ordered_free = record {
    reserved = none_reserved;
    short = none_long;
    apart =
        apart_among (length s.frames) (length v) (kind_in s) (λ k. kind_number (get_or v k no_record).head) (name_in s) (λ k. head_name (get_or v k no_record).head) (apart_kept x s keeps) named;
  }
