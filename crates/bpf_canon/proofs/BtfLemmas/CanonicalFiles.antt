-- The canonical bytes of valid records are a file that denotes them, and no file that does is shorter.
use Rattle.std.proofs.Common.{◌≡◌, ℕ, ◌+◌, ◌-◌, ◌*◌, ◌≤◌, List, [], ◌∷◌, ◌++◌, length, map, refl, sym, ap, subst, ◌∙◌, append_assoc, length-append, arith}
use Rattle.std.specs.{Prelude.slice_index, List.All, List.AllZip, List.concat, List.flat_map, List.sum_by}
use Rattle.std.proofs.{lemmas.List.Elements.All-head, lemmas.List.Elements.All-tail, lemmas.List.Sums.sum_by-cons, Math.Seq.get_or-append_seam}
use Rattle.bpf_words.specs.declared.Order.{Order}
use Rattle.btf_raw.specs.{Header.Cut, Header.HasNulEnds, Frames.bytes_of, Frames.section_of}
use Rattle.btf_raw.proofs.{Frames.length-bytes_of}
use Rattle.btf_types.specs.{Values.TypeRecord, Denotes.Denotes, checks.Numbers.TypeFacts, strings.SharedNames.hosts, strings.StringTable.string_table}
use Rattle.btf_types.specs.{Names.names, Names.with_nul, Names.table_of, Encoding.head_tail, Encoding.Encodes}
use Rattle.btf_types.specs.Valid.{IsValidRecord, IsValid, record_size, facts}
use Rattle.btf_types.proofs.{Encoded.fixed_is, Encoded.items_size, Denoting.frames_of, Denoting.denotes_unique}
use Rattle.btf_types.proofs.{TableLemmas.TableSteps.concat-map, TableLemmas.TableSteps.encoded_bytes, StringLemmas.EncodedNames.encoded_table_fits}
use Rattle.bpf_canon.specs.btf.CanonicalBtf.{canonical, canonical_frames, canonical_types}
use Rattle.bpf_canon.specs.btf.BtfLaws.{CanonicalBtfIsAccepted, CanonicalBtfTellsApart, CanonicalBtfIsShortest}
use Rattle.bpf_canon.proofs.BtfLemmas.CanonicalEncodes.{frames_encode}

-- ---- sizes

-- what encodes a valid record has the length of the record
frame_size : (strings : List ℕ) (types : List TypeFacts) (r : TypeRecord) (f : List ℕ) → IsValidRecord types r → Encodes strings r f → 4 * length f ≡ record_size r
frame_size strings types r f valid s =
    omega (
      arith,
      ap length s.whole,
      length-append (head_tail r.head) (concat s.item_words),
      fixed_is r.head,
      items_size strings s.flag r.head r.items s.item_words valid.items_of s.items,
    )

pub types_size : (o : Order) (strings : List ℕ) (types : List TypeFacts) (v : List TypeRecord) (fs : List (List ℕ)) → All (IsValidRecord types) v → AllZip (Encodes strings) v fs
    → length (section_of o fs) ≡ sum_by record_size v
types_size o strings types [] [] valid s = refl
types_size o strings types [] (f ∷ fs) valid s = absurd s
types_size o strings types (r ∷ v) [] valid s = absurd s
types_size o strings types (r ∷ v) (f ∷ fs) valid s =
    omega (
      arith,
      length-append (bytes_of o f) (section_of o fs),
      length-bytes_of o f,
      sum_by-cons record_size r v,
      frame_size strings types r f (All-head (IsValidRecord types) r v valid) s.0,
      types_size o strings types v fs (All-tail (IsValidRecord types) r v valid) s.1,
    )

pub canonical_size : (o : Order) (v : List TypeRecord) → IsValid v → length (canonical_types o v) ≡ sum_by record_size v
canonical_size o v valid = types_size o (string_table v) (facts v) v (canonical_frames v) valid.each (frames_encode v valid)

pub length-canonical : (o : Order) (v : List TypeRecord) → length (canonical o v) ≡ 24 + length (canonical_types o v) + length (string_table v)
length-canonical o v = grind (arith, length-append)

file_length : (b : List ℕ) (o : Order) (types strings : List ℕ) → Cut b o types strings → 24 + length types + length strings ≤ length b
file_length b o types strings cut = grind (arith, length-append)

-- ---- the string table begins and ends with NUL

table_front : (ks : List (List ℕ)) → (front : List ℕ) × (table_of ks ≡ front ++ 0 ∷ [])
table_front [] = ([], refl)
table_front (k ∷ ks) =
    let rest = table_front ks in (
      (0 ∷ k) ++ rest.0,
      ap (λ (t : List ℕ). 0 ∷ t) (append_assoc k (0 ∷ []) (flat_map with_nul ks) ∙ ap (λ (t : List ℕ). k ++ t) rest.1 ∙ sym (append_assoc k rest.0 (0 ∷ []))),
    )

pub table_ends : (ks : List (List ℕ)) → HasNulEnds (table_of ks)
table_ends ks =
    let t = table_front ks in
    let at : length (table_of ks) - 1 ≡ length t.0 = omega (arith, ap length t.1, length-append t.0 (0 ∷ [])) in
    record {
      some = omega arith;
      first = refl;
      last = rw at (ap (λ (s : List ℕ). slice_index s (length t.0)) t.1 ∙ get_or-append_seam t.0 0 [] 0);
    }

-- ---- the laws

pub canonical_denotes : CanonicalBtfIsAccepted
canonical_denotes o v valid =
    let encoded = frames_encode v valid in
    record {
      order = o;
      types = canonical_types o v;
      strings = string_table v;
      encodings = map (bytes_of o) (canonical_frames v);
      cut = grind (arith, canonical_size);
      nul_ends = table_ends (hosts (names v));
      encoded = encoded_bytes o (string_table v) v (canonical_frames v) encoded;
      whole = sym (concat-map o (canonical_frames v));
      valid = valid;
    }

pub canonical_apart : CanonicalBtfTellsApart
canonical_apart o v w p q e = denotes_unique (canonical o w) v w (subst (λ (b : List ℕ). Denotes b v) e (canonical_denotes o v p)) (canonical_denotes o w q)

pub canonical_shortest : CanonicalBtfIsShortest
canonical_shortest o b v p =
    let their = frames_of p.order p.strings (facts v) v p.encodings p.valid.each p.encoded in
    let size = types_size p.order p.strings (facts v) v their.frames p.valid.each their.encoded in
    omega (
      arith,
      file_length b p.order p.types p.strings p.cut,
      ap length (p.whole ∙ their.bytes),
      size,
      canonical_size o v p.valid,
      length-canonical o v,
      encoded_table_fits p.order p.strings v p.encodings p.nul_ends p.encoded,
    )
