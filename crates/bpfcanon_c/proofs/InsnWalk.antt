-- The next instruction of a file or of a list of records, and what is written with it.
use Rattle.std.proofs.Common.{◌≡◌, ◌<◌, ◌≤◌, ◌+◌, ◌*◌, ◌-◌, ◌++◌, ◌∙◌, ℕ, zero, suc, List, [], ◌∷◌, length, take, drop, replicate, get_or, refl, sym, ap, arith, length-append, length-drop, length-take, length-take-le, subst, zero-add}
use Rattle.std.specs.Prelude.{All}
use Rattle.std.specs.List.{AllZip}
use Rattle.std.proofs.Math.ListN.{set, length-set}
use Rattle.std.proofs.Math.Seq.{drop-cons}
use Rattle.std.proofs.lemmas.List.{take_more, take_more_set, take-append-drop, drop_at, take_at, take_all, append-nil}
use Rattle.std.proofs.lemmas.List.Concat.{flat_map-append}
use Rattle.std.proofs.lemmas.List.Elements.{All-get_or, All-push}
use Rattle.std.proofs.lemmas.Slice.Zip.{AllZip-long}
use Rattle.bpf_words.specs.declared.Order.{Order, TheVariants.Little}
use Rattle.bpf_insn.specs.declared.insn.Insn.{Insn}
use Rattle.bpf_insn.specs.{Table.IsInsn, Encoding.file_of, Encoding.encoding, Faults.BeginsWith}
use Rattle.bpf_insn.proofs.{FrontLemmas.length-at_most_file, FileLaws.at_most_two}
use Rattle.bpf_text.proofs.InsnLemmas.ZipLemmas.{zip_push}
use Rattle.bpf_canon.proofs.InsnLemmas.FrontLaws.{length-file_same}
use Rattle.bpfcanon_c.specs.declared.insn_rows.InsnRow.{InsnRow}
use Rattle.bpfcanon_c.specs.{InsnRows.row_at, InsnRows.rows_from, InsnDecoding.IsDecoded, InsnEncoding.SaysInsn, InsnEncoding.IsEncoded, RawEncoding.raw_bytes}
use Rattle.bpfcanon_c.specs.InsnSteps.{HasInsns, DecodesTo, SayInsns, EncodesTo}
use Rattle.bpfcanon_c.proofs.{InsnRows.rows_push, InsnRows.length-rows, InsnEncoding.raw_is}

-- the instruction that a record says
says_at : (rows : List InsnRow) (l : List Insn) (k : ℕ) (d : InsnRow) (e : Insn) → AllZip SaysInsn rows l → k < length l → SaysInsn (get_or rows k d) (get_or l k e)
says_at rows [] k d e zip h = absurd (omega arith)
says_at [] (i ∷ l) k d e zip h = absurd zip
says_at (r ∷ rows) (i ∷ l) zero d e zip h = zip.0
says_at (r ∷ rows) (i ∷ l) (suc k) d e zip h = says_at rows l k d e zip.1 (omega arith)

-- instruction k of a list, and the bytes from it on
pub record CutInsn (o : Order) (l : List Insn) (k : ℕ) : Type 0 where
  pub insn : Insn
  pub after : List ℕ
  pub is_insn : All IsInsn l → IsInsn insn
  pub says : (rows : List InsnRow) (d : InsnRow) → AllZip SaysInsn rows l → SaysInsn (get_or rows k d) insn
  pub more : take (k + 1) l ≡ take k l ++ insn ∷ []
  pub whole : file_of o l ≡ file_of o (take k l) ++ (encoding o insn ++ after)

cut_insn : (o : Order) (l : List Insn) (k : ℕ) → k < length l → CutInsn o l k
cut_insn o [] k h = absurd (omega arith)
cut_insn o (d ∷ l) k h =
    let xs = d ∷ l in
    let i = get_or xs k d in
    let rest = drop (suc k) xs in
    record {
      insn = i;
      after = file_of o rest;
      is_insn = λ each. All-get_or IsInsn xs k d h each;
      says = λ rows e zip. says_at rows xs k e d zip h;
      more = take_more xs k d h;
      whole =
          ap (file_of o) (sym (take-append-drop k xs) ∙ ap (λ (x : List Insn). take k xs ++ x) (drop-cons xs k d h))
          ∙ flat_map-append (encoding o) (take k xs) (i ∷ rest);
    }

-- what the next instruction of a file adds to the records before it
pub record NextInsn (o : Order) (bytes : List ℕ) (k at : ℕ) (out : List InsnRow) : Type 0 where
  pub insn : Insn
  pub begins : BeginsWith o insn (take (length bytes - at) (drop at bytes))
  pub inside : at + length (encoding o insn) ≤ length bytes
  pub more : DecodesTo o bytes (k + 1) (at + length (encoding o insn)) (set out k (row_at at insn))

pub next_insn : (o : Order) (bytes : List ℕ) (k at : ℕ) (out : List InsnRow) → DecodesTo o bytes k at out → k < length out → NextInsn o bytes k at out
next_insn o bytes k at out d h =
    let c = cut_insn o d.insns k (omega (arith, d.counted)) in
    let before = file_of o (take k d.insns) in
    let encoded = encoding o c.insn in
    let whole : bytes ≡ before ++ (encoded ++ c.after) = d.file.1 ∙ c.whole in
    let rest : drop at bytes ≡ encoded ++ c.after = ap (λ (x : List ℕ). drop at x) whole ∙ drop_at before (encoded ++ c.after) at (sym d.at_offset) in
    let long : length bytes ≡ length before + (length encoded + length c.after) =
    omega (arith, ap length whole, length-append before (encoded ++ c.after), length-append encoded c.after)
    in
    let row = row_at at c.insn in
    let longer : length (file_of o (take (k + 1) d.insns)) ≡ at + length encoded =
    omega (arith, ap length (ap (file_of o) c.more ∙ flat_map-append (encoding o) (take k d.insns) (c.insn ∷ [])), length-append before (file_of o (c.insn ∷ [])), length-append encoded [], d.at_offset)
    in
    record {
      insn = c.insn;
      begins = (c.is_insn d.file.0, (c.after, take_all (length bytes - at) (drop at bytes) (omega (arith, length-drop at bytes)) ∙ rest));
      inside = omega (arith, long, d.at_offset);
      more = record {
        insns = d.insns;
        file = d.file;
        counted = omega (arith, d.counted, length-set out k row);
        at_offset = sym longer;
        rows =
            take_more_set out k row h
            ∙ ap (λ (x : List InsnRow). x ++ row ∷ []) d.rows
            ∙ ap (λ (n : ℕ). rows_from o 0 (take k d.insns) ++ row_at n c.insn ∷ []) d.at_offset
            ∙ ap (λ (n : ℕ). rows_from o 0 (take k d.insns) ++ row_at n c.insn ∷ []) (sym (zero-add (length before)))
            ∙ sym (rows_push o 0 (take k d.insns) c.insn)
            ∙ ap (rows_from o 0) (sym c.more);
      };
    }

-- the records of the instructions of a file
pub record Rows (o : Order) (bytes : List ℕ) (count : ℕ) : Type 0 where
  pub rows : List InsnRow
  pub decoded : IsDecoded o bytes rows
  pub counted : count ≡ length rows

pub decoded_rows : (o : Order) (bytes : List ℕ) (count : ℕ) → HasInsns o bytes count → Rows o bytes count
decoded_rows o bytes count h = record {
  rows = rows_from o 0 h.insns;
  decoded = record {
    insns = h.insns;
    file = h.file;
    form = refl;
    fits = omega (arith, length-rows o 0 h.insns, ap length h.file.1, length-at_most_file o h.insns);
  };
  counted = h.counted ∙ sym (length-rows o 0 h.insns);
}

pub decodes_none : (o : Order) (bytes : List ℕ) (out : List InsnRow) → HasInsns o bytes (length out) → DecodesTo o bytes 0 0 out
decodes_none o bytes out h = record { insns = h.insns; file = h.file; counted = h.counted; at_offset = refl; rows = refl }

pub decodes_all : (o : Order) (bytes : List ℕ) (k at : ℕ) (out : List InsnRow) → DecodesTo o bytes k at out → length out ≤ k → IsDecoded o bytes out
decodes_all o bytes k at out d h =
    let whole : take k d.insns ≡ d.insns = take_all k d.insns (omega (arith, d.counted)) in
    record {
      insns = d.insns;
      file = d.file;
      form = sym (take_all k out h) ∙ d.rows ∙ ap (rows_from o 0) whole;
      fits = omega (arith, d.counted, ap length d.file.1, length-at_most_file o d.insns);
    }

-- ---- records that say instructions

-- one record more
pub say_more : (rows : List InsnRow) (k : ℕ) (d : InsnRow) (total : ℕ) (i : Insn) (len : ℕ) → k < length rows → SayInsns (take k rows) total → IsInsn i → SaysInsn (get_or rows k d) i
    → len ≡ length (encoding Little i) → SayInsns (take (k + 1) rows) (total + len)
say_more rows k d total i len h s is says e = record {
  insns = s.insns ++ i ∷ [];
  says =
      subst (λ (xs : List InsnRow). AllZip SaysInsn xs (s.insns ++ i ∷ [])) (sym (take_more rows k d h)) (zip_push SaysInsn (take k rows) s.insns (get_or rows k d) i s.says says);
  each = All-push IsInsn s.insns i s.each is;
  long =
      omega (arith, s.long, e, ap length (flat_map-append (encoding Little) s.insns (i ∷ [])), length-append (file_of Little s.insns) (file_of Little (i ∷ [])), length-append (encoding Little i) []);
}

file_at_most : (o : Order) (l : List Insn) → length (file_of o l) ≤ 16 * length l
file_at_most o [] = omega arith
file_at_most o (i ∷ l) = omega (arith, length-append (encoding o i) (file_of o l), at_most_two o i, file_at_most o l)

pub says_most : (rows : List InsnRow) (total : ℕ) → SayInsns rows total → total ≤ 16 * length rows
says_most rows total s = omega (arith, s.long, file_at_most Little s.insns, AllZip-long SaysInsn rows s.insns s.says)

-- the file of the instructions that the records say
pub record Said (to : Order) (rows : List InsnRow) (total : ℕ) : Type 0 where
  pub file : List ℕ
  pub encoded : IsEncoded to rows file
  pub long : total ≡ length file

pub said_file : (to : Order) (rows : List InsnRow) (total : ℕ) → SayInsns rows total → Said to rows total
said_file to rows total s = record {
  file = file_of to s.insns;
  encoded = record {
    insns = s.insns;
    says = s.says;
    file = (s.each, refl);
    fits = omega (arith, file_at_most to s.insns, AllZip-long SaysInsn rows s.insns s.says);
  };
  long = s.long ∙ length-file_same Little to s.insns;
}

pub encodes_none : (to : Order) (rows : List InsnRow) (out : List ℕ) → SayInsns rows (length out) → EncodesTo to rows 0 0 out
encodes_none to rows out s = record {
  insns = s.insns;
  says = s.says;
  each = s.each;
  long = s.long ∙ length-file_same Little to s.insns;
  at_offset = refl;
  bytes = refl;
}

-- what the next record adds to the bytes before it
pub record NextBytes (to : Order) (rows : List InsnRow) (k at : ℕ) (out encoded : List ℕ) (len : ℕ) : Type 0 where
  pub inside : at + len ≤ length out
  pub begun : at ≤ length out
  pub long : length encoded ≡ len
  pub more : (new : List ℕ) → take (at + len) new ≡ take at out ++ encoded → drop (at + len) new ≡ drop (at + len) out → EncodesTo to rows (k + 1) (at + len) new

pub next_bytes : (to : Order) (rows : List InsnRow) (k at : ℕ) (out : List ℕ) (d : InsnRow) (bytes : List ℕ) (len : ℕ) → EncodesTo to rows k at out → k < length rows
    → bytes ≡ raw_bytes to (get_or rows k d) ++ replicate (16 - len) 0 → len ≡ length (raw_bytes to (get_or rows k d)) → NextBytes to rows k at out (take len bytes) len
next_bytes to rows k at out d bytes len e h made counted =
    let row = get_or rows k d in
    let few : k < length e.insns = omega (arith, AllZip-long SaysInsn rows e.insns e.says) in
    let c = cut_insn to e.insns k few in
    let before = file_of to (take k e.insns) in
    let encoded = encoding to c.insn in
    let raw : raw_bytes to row ≡ encoded = raw_is to row c.insn (c.says rows d e.says) in
    let is : take len bytes ≡ encoded = ap (λ (x : List ℕ). take len x) made ∙ take_at (raw_bytes to row) (replicate (16 - len) 0) len (sym counted) ∙ raw in
    let longer : file_of to (take (k + 1) e.insns) ≡ before ++ encoded =
    ap (file_of to) c.more ∙ flat_map-append (encoding to) (take k e.insns) (c.insn ∷ []) ∙ ap (λ (x : List ℕ). before ++ x) (append-nil encoded)
    in
    let inside : at + len ≤ length out =
    omega (arith, e.long, ap length c.whole, length-append before (encoded ++ c.after), length-append encoded c.after, e.at_offset, ap length raw, counted)
    in
    let long : length (take len bytes) ≡ len = omega (arith, ap length is, ap length raw, counted) in
    record {
      inside = inside;
      begun = omega arith;
      long = long;
      more = λ new written kept. record {
        insns = e.insns;
        says = e.says;
        each = e.each;
        long =
            omega (arith, e.long, ap length kept, length-drop (at + len) new, length-drop (at + len) out, ap length written, length-take (at + len) new, length-append (take at out) (take len bytes), length-take-le at out (omega arith));
        at_offset = omega (arith, e.at_offset, ap length raw, counted, ap length longer, length-append before encoded);
        bytes = written ∙ ap (λ (x : List ℕ). x ++ take len bytes) e.bytes ∙ ap (λ (x : List ℕ). before ++ x) is ∙ sym longer;
      };
    }

pub encodes_all : (to : Order) (rows : List InsnRow) (k at : ℕ) (out : List ℕ) → EncodesTo to rows k at out → length rows ≤ k → IsEncoded to rows out
encodes_all to rows k at out e h =
    let long = AllZip-long SaysInsn rows e.insns e.says in
    let whole : take k e.insns ≡ e.insns = take_all k e.insns (omega arith) in
    let end : at ≡ length out = e.at_offset ∙ ap (λ (l : List Insn). length (file_of to l)) whole ∙ sym e.long in
    record {
      insns = e.insns;
      says = e.says;
      file = (e.each, sym (take_all at out (omega arith)) ∙ e.bytes ∙ ap (file_of to) whole);
      fits = omega (arith, e.long, file_at_most to e.insns);
    }
