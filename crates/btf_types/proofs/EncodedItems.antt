-- The items of a valid record, in the words of the frame that encodes it.
use Rattle.std.proofs.Common.{◌≡◌, ℕ, zero, suc, ◌+◌, ◌*◌, ◌<◌, List, [], ◌∷◌, ◌++◌, length, get_or, refl, sym, ap, ◌∙◌, arith}
use Rattle.std.specs.{Prelude.slice_index, List.All, List.AllZip, List.concat}
use Rattle.std.proofs.Math.ListN.{get_or-append}
use Rattle.std.proofs.lemmas.List.{get_or-drop, drop_at, Elements.All-head, Elements.All-tail}
use Rattle.btf_raw.specs.{Kinds.item_words, Frames.kind, Frames.vlen, Frames.flag}
use Rattle.btf_types.specs.Values.{TypeHead, KInt, KArray, KFunc, KVar, KDeclTag, TypeItem, Entry, TypeRecord}
use Rattle.btf_types.specs.Encoding.{kind_number, head_tail, ItemEncodes, Encodes}
use Rattle.btf_types.specs.{checks.Numbers.TypeFacts, Valid.ItemOf, Valid.IsValidRecord}
use Rattle.btf_types.proofs.{Lists.zip_at, Encoded.vlen_from, Encoded.item_size, Encoded.numbers}

pub nothing : TypeItem
nothing = Entry 0 0 0

-- a field of the i-th piece, if all pieces have the same length
piece_word : (strings : List ℕ) (flag : ℕ) (h : TypeHead) (xs : List TypeItem) (wss : List (List ℕ)) (i m : ℕ) → All (ItemOf h) xs → AllZip (ItemEncodes strings flag) xs wss
    → i < length xs → m < item_words (kind_number h) → get_or (concat wss) (item_words (kind_number h) * i + m) 0 ≡ get_or (get_or wss i []) m 0
piece_word strings flag h [] wss i m of z low word = absurd (omega arith)
piece_word strings flag h (x ∷ xs) [] i m of z low word = absurd z
piece_word strings flag h (x ∷ xs) (ws ∷ wss) zero m of z low word =
    let size = item_size strings flag h x ws (All-head (ItemOf h) x xs of) z.0 in
    let at : item_words (kind_number h) * 0 + m ≡ m = omega arith in
    rw at (get_or-append ws (concat wss) 0 m (omega arith))
piece_word strings flag h (x ∷ xs) (ws ∷ wss) (suc i) m of z low word =
    let size = item_size strings flag h x ws (All-head (ItemOf h) x xs of) z.0 in
    let rest = piece_word strings flag h xs wss i m (All-tail (ItemOf h) x xs of) z.1 (omega arith) word in
    let at : item_words (kind_number h) * suc i + m ≡ length ws + (item_words (kind_number h) * i + m) = grind arith in
    rw at (sym (get_or-drop (length ws) (ws ++ concat wss) (item_words (kind_number h) * i + m) 0)
    ∙ ap (λ (t : List ℕ). get_or t (item_words (kind_number h) * i + m) 0) (drop_at ws (concat wss) (length ws) refl) ∙ rest)

-- a head whose record has items has no fields of its own after the third, and vlen counts its items
pub no_tail : (h : TypeHead) → 0 < item_words (kind_number h) → head_tail h ≡ []
unfolding item_words
no_tail (KInt name size encoding offset bits) some = absurd (omega arith)
no_tail (KArray target index count) some = absurd (omega arith)
no_tail (KVar name target linkage) some = absurd (omega arith)
no_tail (KDeclTag name flag target component) some = absurd (omega arith)
no_tail h some = refl

pub counted : (h : TypeHead) (xs : List TypeItem) → 0 < item_words (kind_number h) → vlen_from h xs ≡ length xs
unfolding item_words
counted (KFunc name linkage target) xs some = absurd (omega arith)
counted h xs some = refl

-- item i: its fields, and what a valid record says of it
pub record ItemFits (strings : List ℕ) (r : TypeRecord) (f : List ℕ) (i : ℕ) (ws : List ℕ) : Type 0 where
  pub inside : i < length r.items
  pub of : ItemOf r.head (get_or r.items i nothing)
  pub encodes : ItemEncodes strings (flag f) (get_or r.items i nothing) ws
  pub words : (m : ℕ) → m < item_words (kind f) → slice_index f (3 + item_words (kind f) * i + m) ≡ get_or ws m 0

pub item_fits : (strings : List ℕ) (types : List TypeFacts) (r : TypeRecord) (f : List ℕ) (valid : IsValidRecord types r) (s : Encodes strings r f) (i : ℕ) → 0 < item_words (kind f) → i < vlen f
    → ItemFits strings r f i (get_or s.item_words i [])
item_fits strings types r f valid s i some low =
    let n = numbers strings types r f valid s in
    let its : item_words (kind f) ≡ item_words (kind_number r.head) = ap item_words n.kind in
    let count : vlen f ≡ length r.items = n.vlen ∙ counted r.head r.items (omega arith) in
    let inside : i < length r.items = omega arith in
    record {
      inside = inside;
      of = valid.items_of i nothing inside;
      encodes = rw n.flag (zip_at (ItemEncodes strings s.flag) r.items s.item_words i nothing [] s.items inside);
      words = λ m word.
          let j = item_words (kind_number r.head) * i + m in
          let at : 3 + item_words (kind f) * i + m ≡ suc (suc (suc j)) = rw its (omega arith) in
          let rest : head_tail r.head ++ concat s.item_words ≡ concat s.item_words = rw (no_tail r.head (omega arith)) refl in
          rw at (ap (λ (t : List ℕ). get_or t (suc (suc (suc j))) 0) s.whole ∙ ap (λ (t : List ℕ). get_or t j 0) rest
          ∙ piece_word strings s.flag r.head r.items s.item_words i m valid.items_of s.items inside (omega arith));
    }
