-- A header that passes every test cuts the file.
use Rattle.std.proofs.Common.{◌≡◌, ℕ, ◌+◌, ◌-◌, ◌<◌, ◌≤◌, List, [], ◌∷◌, ◌++◌, length, take, drop, replicate, refl, sym, ap, ◌∙◌, inl, inr, arith}
use Rattle.std.proofs.{lemmas.List.take_all, lemmas.List.get_or-drop, lemmas.List.length-drop, Math.Seq.drop-cons}
use Rattle.btf_raw.specs.declared.header.Header.{Header}
use Rattle.bpf_words.specs.{declared.Order.Order, Words.IsBytes, Words.word16, Words.word32, Words.word32_at}
use Rattle.bpf_words.proofs.WordLemmas.{word16-word16_at, word32-word32_at}
use Rattle.btf_raw.specs.Header.{Cut, part, header, TYPES_LIMIT, STRINGS_LIMIT}
use Rattle.btf_raw.specs.ReadHeader.{LengthIsRight, SectionsAreRight, ReadsHeader}
use Rattle.btf_raw.proofs.Parts.{front_more, length-part, zeros_are_part}

-- the header is a prefix of the file
header_is_front : (b : List ℕ) (o : Order) (n a t c s : ℕ) → IsBytes b → LengthIsRight b o n → a ≡ word32_at o b 8 → t ≡ word32_at o b 12 → c ≡ word32_at o b 16 → s ≡ word32_at o b 20 → header o n a t c s ≡ take n b
header_is_front b o n a t c s fits len a-is t-is c-is s-is =
    let there = len.start.there in
    let magic : word16 o 0xeb9f ≡ take 2 b = rw (← len.start.order) (word16-word16_at o b fits (omega arith)) in
    let two : 1 ∷ 0 ∷ [] ≡ part b 2 2 =
    let second : 2 < length b = omega arith in
    let third : 3 < length b = omega arith in
    rw (drop-cons b 2 0 second, drop-cons b 3 0 third, len.start.version, len.start.flags) refl in
    let four : word16 o 0xeb9f ++ (1 ∷ 0 ∷ []) ≡ take 4 b = front_more b 2 2 _ _ magic two in
    let eight : word16 o 0xeb9f ++ (1 ∷ 0 ∷ []) ++ word32 o n ≡ take 8 b = front_more b 4 4 _ _ four (rw len.word (word32-word32_at o b 4 fits (omega arith))) in
    let twelve = front_more b 8 4 _ (word32 o a) eight (rw a-is (word32-word32_at o b 8 fits (omega arith))) in
    let sixteen = front_more b 12 4 _ (word32 o t) twelve (rw t-is (word32-word32_at o b 12 fits (omega arith))) in
    let twenty = front_more b 16 4 _ (word32 o c) sixteen (rw c-is (word32-word32_at o b 16 fits (omega arith))) in
    let fixed = front_more b 20 4 _ (word32 o s) twenty (rw s-is (word32-word32_at o b 20 fits (omega arith))) in
    let zeros : replicate (n - 24) 0 ≡ part b 24 (n - 24) =
    zeros_are_part (drop 24 b) (n - 24) (omega (arith, length-drop 24 b, len.inside)) (λ i lt. rw get_or-drop (len.zeros (24 + i) (omega arith) (omega (arith, len.at_least)))) in
    let whole = front_more b 24 (n - 24) _ _ fixed zeros in
    let sum : 24 + (n - 24) ≡ n = omega (arith, len.at_least) in
    whole ∙ ap (λ (k : ℕ). take k b) sum

two_parts : (b : List ℕ) (n m k : ℕ) (h : List ℕ) → h ≡ take n b → n + m + k ≡ length b → b ≡ h ++ part b n m ++ part b (n + m) k
two_parts b n m k h is fill =
    sym (front_more b (n + m) k _ (part b (n + m) k) (front_more b n m h (part b n m) is refl) refl ∙ take_all (n + m + k) b (omega arith))

types_first : (b : List ℕ) (o : Order) (n t s : ℕ) → IsBytes b → LengthIsRight b o n → t ≡ word32_at o b 12 → s ≡ word32_at o b 20 → t ≤ TYPES_LIMIT → 0 < s → s ≤ STRINGS_LIMIT → n + t + s ≡ length b → word32_at o b 8 ≡ 0 → word32_at o b 16 ≡ t → Cut b o (part b n t) (part b (n + t) s)
types_first b o n t s fits len t-is s-is t-fits s-some s-fits fill first second =
    let t-len : length (part b n t) ≡ t = length-part b n t (omega arith) in
    let s-len : length (part b (n + t) s) ≡ s = length-part b (n + t) s (omega arith) in
    record {
      header_len = n;
      at_least = len.at_least;
      at_most = len.at_most;
      types_fit = rw t-len t-fits;
      some_strings = rw s-len s-some;
      strings_fit = rw s-len s-fits;
      parts = inl (rw (t-len, s-len) (two_parts b n t s (header o n 0 t t s) (header_is_front b o n 0 t t s fits len (sym first) t-is (sym second) s-is) fill));
    }

strings_first : (b : List ℕ) (o : Order) (n t s : ℕ) → IsBytes b → LengthIsRight b o n → t ≡ word32_at o b 12 → s ≡ word32_at o b 20 → t ≤ TYPES_LIMIT → 0 < s → s ≤ STRINGS_LIMIT → n + s + t ≡ length b → word32_at o b 16 ≡ 0 → word32_at o b 8 ≡ s → Cut b o (part b (n + s) t) (part b n s)
strings_first b o n t s fits len t-is s-is t-fits s-some s-fits fill first second =
    let t-len : length (part b (n + s) t) ≡ t = length-part b (n + s) t (omega arith) in
    let s-len : length (part b n s) ≡ s = length-part b n s (omega arith) in
    record {
      header_len = n;
      at_least = len.at_least;
      at_most = len.at_most;
      types_fit = rw t-len t-fits;
      some_strings = rw s-len s-some;
      strings_fit = rw s-len s-fits;
      parts = inr (rw (t-len, s-len) (two_parts b n s t (header o n s t 0 s) (header_is_front b o n s t 0 s fits len (sym second) t-is (sym first) s-is) fill));
    }

pub reads_header : (b : List ℕ) (h : Header) → IsBytes b → SectionsAreRight b h → ReadsHeader b h
reads_header b h fits right = record {
  cut = elim right.order_of_sections [
    | inl first ↦
        let t-at : h.types_pos ≡ right.header_len = omega arith in
        let s-at : h.str_pos ≡ right.header_len + h.types_len = omega arith in
        rw (t-at, s-at) (types_first b h.order right.header_len h.types_len h.str_len fits right.len right.types_len right.str_len right.types_fit right.some_strings right.strings_fit right.fill first.0 first.1)
    | inr first ↦
        let s-at : h.str_pos ≡ right.header_len = omega arith in
        let t-at : h.types_pos ≡ right.header_len + h.str_len = omega arith in
        rw (t-at, s-at) (strings_first b h.order right.header_len h.types_len h.str_len fits right.len right.types_len right.str_len right.types_fit right.some_strings right.strings_fit (omega arith) first.0 first.1)
  ];
  types_pos = omega (arith, right.len.word);
  str_pos = omega (arith, right.len.word);
  types_there = elim right.order_of_sections [ inl first ↦ omega arith | inr first ↦ omega arith ];
  strings_there = elim right.order_of_sections [ inl first ↦ omega arith | inr first ↦ omega arith ];
}
