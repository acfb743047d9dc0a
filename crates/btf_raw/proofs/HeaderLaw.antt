-- A file's header has no fault if and only if the file can be cut.
use Rattle.std.proofs.Common.{◌≡◌, ◌≢◌, ◌⊎◌, ℕ, zero, suc, ◌+◌, ◌-◌, ◌*◌, ◌^◌, ◌<◌, ◌≤◌, List, ◌++◌, length, get_or, drop, replicate, refl, sym, ap, ◌∙◌, inl, inr, append_assoc, length-append, lit<, arith}
use Rattle.std.specs.Prelude.{slice_index}
use Rattle.std.proofs.lemmas.{Bool.cases_lt, Bool.cases_eq, List.drop_at, List.get_or-drop, List.length-replicate}
use Rattle.std.proofs.Math.ListN.{get_or-append}
use Rattle.bpf_words.specs.declared.Order.{Order, TheVariants.Little, TheVariants.Big}
use Rattle.bpf_words.specs.Words.{IsBytes, word16_at, word32_at}
use Rattle.btf_raw.specs.{declared.header.Header.Header, Cause.HasNone, Frames.bytes_of}
use Rattle.btf_raw.specs.declared.cause.BtfCause.TheVariants.{ShortHeader, Magic, Version, Flags, HeaderLength, HeaderTail, TypeLength, StringLength, Sections, FileLength}
use Rattle.btf_raw.specs.Header.{Cut, HeaderFault, HasOrder, HasWord, header, TYPES_LIMIT, STRINGS_LIMIT}
use Rattle.btf_raw.specs.ReadHeader.{StartIsRight, LengthIsRight, SectionsAreRight, ReadsHeader}
use Rattle.btf_raw.proofs.{Frames.length-bytes_of, Headers.reads_header}
use Rattle.btf_raw.proofs.Cuts.{header_words, first_four, header_regrouped, length-first_four, length-header, header_word, five_fit}

-- ---- without a fault the numbers are right

below : (a b : ℕ) → ¬ (b < a) → a ≤ b
below a b h = elim (cases_lt b a) [ inl lt ↦ absurd (h lt) | inr le ↦ le ]

same : (a b : ℕ) → ¬ (a ≢ b) → a ≡ b
same a b h = elim (cases_eq a b) [ inl e ↦ e | inr n ↦ absurd (h n) ]

order_there : (b : List ℕ) → 24 ≤ length b → HasNone (HeaderFault b) → (o : Order) × (word16_at o b 0 ≡ 0xeb9f)
order_there b long none = elim (cases_eq (word16_at Little b 0) 0xeb9f) [
  | inl little ↦ (Little, little)
  | inr not_little ↦ elim (cases_eq (word16_at Big b 0) 0xeb9f) [
    | inl big ↦ (Big, big)
    | inr not_big ↦ absurd (none 0 Magic (omega arith, neither not_little not_big, refl))
  ]
]
  where
    neither : word16_at Little b 0 ≢ 0xeb9f → word16_at Big b 0 ≢ 0xeb9f → (o : Order) → ¬ HasOrder b o
    neither l g Little has = l has.1
    neither l g Big has = g has.1

start_there : (b : List ℕ) → HasNone (HeaderFault b) → (o : Order) × StartIsRight b o
start_there b none =
    let long = below 24 (length b) (λ short. none (length b) ShortHeader (short, refl)) in
    let order = order_there b long none in (
      order.0,
      record {
        there = long;
        order = order.1;
        version = same (slice_index b 2) 1 (λ other. none 2 Version (omega arith, other, refl));
        flags = same (slice_index b 3) 0 (λ other. none 3 Flags (omega arith, other, refl));
      },
    )

-- the first byte of a range that isn't 0, or none
record FirstOther (b : List ℕ) (from end : ℕ) : Type 0 where
  at_offset : ℕ
  at_least : from ≤ at_offset
  inside : at_offset < end
  other : slice_index b at_offset ≢ 0
  before : (q : ℕ) → from ≤ q → q < at_offset → slice_index b q ≡ 0

zeros_or_other : (b : List ℕ) (from n : ℕ) → ((q : ℕ) → from ≤ q → q < from + n → slice_index b q ≡ 0) ⊎ FirstOther b from (from + n)
zeros_or_other b from zero = inl (λ q low high. absurd (omega arith))
zeros_or_other b from (suc n) = elim (zeros_or_other b from n) [
  | inr found ↦
      let inside = found.inside in
      inr (record { at_offset = found.at_offset; at_least = found.at_least; inside = omega arith; other = found.other; before = found.before })
  | inl zeros ↦ elim (cases_eq (slice_index b (from + n)) 0) [
    | inr some ↦ inr (record { at_offset = from + n; at_least = omega arith; inside = omega arith; other = some; before = zeros })
    | inl none ↦ inl (λ q low high. elim (cases_lt q (from + n)) [
      | inl before ↦ zeros q low before
      | inr past ↦ let last : q ≡ from + n = omega arith in ap (λ (k : ℕ). slice_index b k) last ∙ none
    ])
  ]
]

length_there : (b : List ℕ) (o : Order) → HasNone (HeaderFault b) → StartIsRight b o → LengthIsRight b o (word32_at o b 4)
length_there b o none start =
    let n = word32_at o b 4 in
    let there = start.there in
    let has : HasWord b o 4 n = ((omega arith, start.order), omega arith, refl) in
    let low = below 24 n (λ small. none 4 HeaderLength (o, n, has, inl small, refl)) in
    let inside = below n (length b) (λ past. none 4 HeaderLength (o, n, has, inr (inr past), refl)) in
    record {
      start = start;
      word = refl;
      at_least = low;
      at_most = below n 4096 (λ large. none 4 HeaderLength (o, n, has, inr (inl large), refl));
      inside = inside;
      zeros = elim (zeros_or_other b 24 (n - 24)) [
        | inl zeros ↦ λ q from end. zeros q from (omega arith)
        | inr found ↦
            let end = found.inside in
            absurd (none found.at_offset HeaderTail (o, n, has, found.at_least, omega arith, omega arith, found.other, found.before))
      ];
    }

sections_there : (b : List ℕ) (o : Order) → HasNone (HeaderFault b) → LengthIsRight b o (word32_at o b 4)
    → SectionsAreRight b (record { order = o; types_pos = word32_at o b 4 + word32_at o b 8; types_len = word32_at o b 12; str_pos = word32_at o b 4 + word32_at o b 16; str_len = word32_at o b 20 })
sections_there b o none len =
    let n = word32_at o b 4 in
    let a = word32_at o b 8 in
    let t = word32_at o b 12 in
    let c = word32_at o b 16 in
    let s = word32_at o b 20 in
    let there = len.start.there in
    let order : HasOrder b o = (omega arith, len.start.order) in
    let has4 : HasWord b o 4 n = (order, omega arith, refl) in
    let has8 : HasWord b o 8 a = (order, omega arith, refl) in
    let has12 : HasWord b o 12 t = (order, omega arith, refl) in
    let has16 : HasWord b o 16 c = (order, omega arith, refl) in
    let has20 : HasWord b o 20 s = (order, omega arith, refl) in
    record {
      header_len = n;
      len = len;
      types_len = refl;
      str_len = refl;
      types_pos = refl;
      str_pos = refl;
      types_fit = below t TYPES_LIMIT (λ large. none 12 TypeLength (o, t, has12, large, refl));
      some_strings = elim (cases_eq s 0) [ inl empty ↦ absurd (none 20 StringLength (o, s, has20, inl empty, refl)) | inr some ↦ omega arith ];
      strings_fit = below s STRINGS_LIMIT (λ large. none 20 StringLength (o, s, has20, inr large, refl));
      fill = same (n + t + s) (length b) (λ other. none _ FileLength (o, n, t, s, has4, has12, has20, other, refl));
      order_of_sections = elim (both a 0 c t) [
        | inl first ↦ inl first
        | inr not_first ↦ elim (both c 0 a s) [
          | inl second ↦ inr second
          | inr not_second ↦ absurd (none 8 Sections (o, a, t, c, s, has8, has12, has16, has20, not_first, not_second, refl))
        ]
      ];
    }
  where
    both : (w x y z : ℕ) → ((w ≡ x) × (y ≡ z)) ⊎ ¬ ((w ≡ x) × (y ≡ z))
    both w x y z = elim (cases_eq w x) [
      | inr not ↦ inr (λ p. not p.0)
      | inl yes' ↦ elim (cases_eq y z) [ inl also ↦ inl (yes', also) | inr not ↦ inr (λ p. not p.1) ]
    ]

-- so the file can be cut
pub header_there : (b : List ℕ) → IsBytes b → HasNone (HeaderFault b) → (h : Header) × ReadsHeader b h
header_there b fits none =
    let start = start_there b none in
    let o = start.0 in
    let h : Header = record { order = o; types_pos = word32_at o b 4 + word32_at o b 8; types_len = word32_at o b 12; str_pos = word32_at o b 4 + word32_at o b 16; str_len = word32_at o b 20 } in
    (h, reads_header b h fits (sections_there b o none (length_there b o none start.1)))

-- ---- a file that can be cut has no fault of the header

first_four_bytes : (b : List ℕ) (o : Order) (n a t c s : ℕ) (rest : List ℕ) → b ≡ header o n a t c s ++ rest → (word16_at o b 0 ≡ 0xeb9f) × (slice_index b 2 ≡ 1) × (slice_index b 3 ≡ 0)
first_four_bytes b Little n a t c s rest is =
    let zeroth : slice_index b 0 ≡ 0x9f = ap (λ (x : List ℕ). slice_index x 0) is in
    let first : slice_index b 1 ≡ 0xeb = ap (λ (x : List ℕ). slice_index x 1) is in
    (omega arith, ap (λ (x : List ℕ). slice_index x 2) is, ap (λ (x : List ℕ). slice_index x 3) is)
first_four_bytes b Big n a t c s rest is =
    let zeroth : slice_index b 0 ≡ 0xeb = ap (λ (x : List ℕ). slice_index x 0) is in
    let first : slice_index b 1 ≡ 0x9f = ap (λ (x : List ℕ). slice_index x 1) is in
    (omega arith, ap (λ (x : List ℕ). slice_index x 2) is, ap (λ (x : List ℕ). slice_index x 3) is)

zeros_at : (n i : ℕ) → i < n → slice_index (replicate n 0) i ≡ 0
zeros_at zero i h = absurd (omega arith)
zeros_at (suc n) zero h = refl
zeros_at (suc n) (suc i) h = zeros_at n i (omega arith)

header_zeros : (b : List ℕ) (o : Order) (n a t c s : ℕ) (rest : List ℕ) → b ≡ header o n a t c s ++ rest → (q : ℕ) → 24 ≤ q → q < n → slice_index b q ≡ 0
header_zeros b o n a t c s rest is q low high =
    let words = bytes_of o (header_words n a t c s) in
    let front = first_four o ++ words in
    let after = replicate (n - 24) 0 ++ rest in
    let whole : b ≡ front ++ after = is ∙ header_regrouped o n a t c s rest ∙ sym (append_assoc (first_four o) words after) in
    let len : length front ≡ 24 = omega (arith, length-append (first_four o) words, length-first_four o, length-bytes_of o (header_words n a t c s)) in
    let at : q ≡ 24 + (q - 24) = omega arith in
    let inside : q - 24 < length (replicate {A = ℕ} (n - 24) 0) = omega (arith, length-replicate {A = ℕ} (n - 24) 0) in
    ap (λ (k : ℕ). slice_index b k) at ∙ sym (get_or-drop 24 b (q - 24) 0)
    ∙ ap (λ (x : List ℕ). get_or (drop 24 x) (q - 24) 0) whole ∙ ap (λ (x : List ℕ). get_or x (q - 24) 0) (drop_at front after 24 len)
    ∙ get_or-append (replicate (n - 24) 0) rest 0 (q - 24) inside ∙ zeros_at (n - 24) (q - 24) (omega arith)

header_length : (b : List ℕ) (o : Order) (n a t c s : ℕ) (rest : List ℕ) → 24 ≤ n → n ≤ 4096 → n < 2 ^ 32 → a < 2 ^ 32 → t < 2 ^ 32 → c < 2 ^ 32 → s < 2 ^ 32 → b ≡ header o n a t c s ++ rest
    → LengthIsRight b o n
header_length b o n a t c s rest low high hn ha ht hc hs is =
    let bytes = first_four_bytes b o n a t c s rest is in
    let len : length b ≡ n + length rest = ap length is ∙ length-append (header o n a t c s) rest ∙ rw (length-header o n a t c s low) refl in
    record {
      start = record { there = omega arith; order = bytes.0; version = bytes.1; flags = bytes.2 };
      word = sym (rw is (header_word o n a t c s 0 rest (five_fit n a t c s hn ha ht hc hs) (lit< tt)));
      at_least = low;
      at_most = high;
      inside = omega arith;
      zeros = header_zeros b o n a t c s rest is;
    }

-- the numbers of a header whose sections fill the rest of the file, in one of the two orders
cut_at : (b : List ℕ) (o : Order) (n a t c s : ℕ) (rest : List ℕ) → 24 ≤ n → n ≤ 4096 → t ≤ TYPES_LIMIT → 0 < s → s ≤ STRINGS_LIMIT
    → ((a ≡ 0) × (c ≡ t)) ⊎ ((c ≡ 0) × (a ≡ s)) → length rest ≡ t + s → b ≡ header o n a t c s ++ rest → (h : Header) × SectionsAreRight b h
cut_at b o n a t c s rest low high t-fits some s-fits places fill is =
    let a-fits : a < 2 ^ 32 = elim places [ inl first ↦ let at = first.0 in omega arith | inr first ↦ let at = first.1 in omega arith ] in
    let c-fits : c < 2 ^ 32 = elim places [ inl first ↦ let at = first.1 in omega arith | inr first ↦ let at = first.0 in omega arith ] in
    let fit = five_fit n a t c s (omega arith) a-fits (omega arith) c-fits (omega arith) in
    let word : (j : ℕ) → j < 5 → word32_at o b (4 + 4 * j) ≡ slice_index (header_words n a t c s) j = λ j lt. rw is (header_word o n a t c s j rest fit lt) in
    let len : length b ≡ n + length rest = ap length is ∙ length-append (header o n a t c s) rest ∙ rw (length-header o n a t c s low) refl in (
      record { order = o; types_pos = n + word32_at o b 8; types_len = t; str_pos = n + word32_at o b 16; str_len = s },
      record {
        header_len = n;
        len = header_length b o n a t c s rest low high (omega arith) a-fits (omega arith) c-fits (omega arith) is;
        types_len = sym (word 2 (lit< tt));
        str_len = sym (word 4 (lit< tt));
        types_pos = refl;
        str_pos = refl;
        types_fit = t-fits;
        some_strings = some;
        strings_fit = s-fits;
        fill = omega arith;
        order_of_sections = elim places [
          | inl first ↦ inl (word 1 (lit< tt) ∙ first.0, word 3 (lit< tt) ∙ first.1)
          | inr first ↦ inr (word 3 (lit< tt) ∙ first.0, word 1 (lit< tt) ∙ first.1)
        ];
      },
    )

-- the numbers of a cut
cut_right : (b : List ℕ) (o : Order) (types strings : List ℕ) → Cut b o types strings → (h : Header) × SectionsAreRight b h
cut_right b o types strings cut =
    let n = cut.header_len in
    let t = length types in
    let s = length strings in
    elim cut.parts [
      | inl is ↦
          cut_at b o n 0 t t s (types ++ strings) cut.at_least cut.at_most cut.types_fit cut.some_strings cut.strings_fit
          (inl (refl, refl)) (length-append types strings) (is ∙ append_assoc (header o n 0 t t s) types strings)
      | inr is ↦
          cut_at b o n s t 0 s (strings ++ types) cut.at_least cut.at_most cut.types_fit cut.some_strings cut.strings_fit
          (inr (refl, refl)) (omega (arith, length-append strings types)) (is ∙ append_assoc (header o n s t 0 s) strings types)
    ]

one_order : (b : List ℕ) (o p : Order) → word16_at o b 0 ≡ 0xeb9f → word16_at p b 0 ≡ 0xeb9f → o ≡ p
one_order b Little Little e f = refl
one_order b Little Big e f = absurd (omega arith)
one_order b Big Little e f = absurd (omega arith)
one_order b Big Big e f = refl

module _ (b : List ℕ) (h : Header) (right : SectionsAreRight b h) where
  its_word : (o : Order) (at_offset w : ℕ) → HasWord b o at_offset w → w ≡ word32_at h.order b at_offset
  its_word o at_offset w has = has.2 ∙ ap (λ (p : Order). word32_at p b at_offset) (one_order b o h.order has.0.1 right.len.start.order)

  right_has_none : HasNone (HeaderFault b)
  right_has_none p ShortHeader fault = let there = right.len.start.there in omega (arith, fault.0)
  right_has_none p Magic fault = fault.1 h.order (fault.0, right.len.start.order)
  right_has_none p Version fault = fault.1 right.len.start.version
  right_has_none p Flags fault = fault.1 right.len.start.flags
  right_has_none p HeaderLength fault =
      let n : fault.1 ≡ right.header_len = its_word fault.0 4 fault.1 fault.2 ∙ sym right.len.word in
      let low = right.len.at_least in
      let high = right.len.at_most in
      let inside = right.len.inside in
      elim fault.3 [ inl small ↦ omega arith | inr more ↦ elim more [ inl large ↦ omega arith | inr past ↦ omega arith ] ]
  right_has_none p HeaderTail fault =
      let n : fault.1 ≡ right.header_len = its_word fault.0 4 fault.1 fault.2 ∙ sym right.len.word in
      fault.6 (right.len.zeros p fault.3 (omega (arith, fault.4)))
  right_has_none p TypeLength fault =
      let t : fault.1 ≡ h.types_len = its_word fault.0 12 fault.1 fault.2 ∙ sym right.types_len in
      omega (arith, right.types_fit, fault.3)
  right_has_none p StringLength fault =
      let s : fault.1 ≡ h.str_len = its_word fault.0 20 fault.1 fault.2 ∙ sym right.str_len in
      let some = right.some_strings in
      let fits = right.strings_fit in
      elim fault.3 [ inl empty ↦ omega arith | inr large ↦ omega arith ]
  right_has_none p Sections fault =
      let a : fault.1 ≡ word32_at h.order b 8 = its_word fault.0 8 fault.1 fault.5 in
      let t : fault.2 ≡ h.types_len = its_word fault.0 12 fault.2 fault.6 ∙ sym right.types_len in
      let c : fault.3 ≡ word32_at h.order b 16 = its_word fault.0 16 fault.3 fault.7 in
      let s : fault.4 ≡ h.str_len = its_word fault.0 20 fault.4 fault.8 ∙ sym right.str_len in
      elim right.order_of_sections [
        | inl first ↦ fault.9 (a ∙ first.0, c ∙ first.1 ∙ sym t)
        | inr first ↦ fault.10 (c ∙ first.0, a ∙ first.1 ∙ sym s)
      ]
  right_has_none p FileLength fault =
      let n : fault.1 ≡ right.header_len = its_word fault.0 4 fault.1 fault.4 ∙ sym right.len.word in
      let t : fault.2 ≡ h.types_len = its_word fault.0 12 fault.2 fault.5 ∙ sym right.types_len in
      let s : fault.3 ≡ h.str_len = its_word fault.0 20 fault.3 fault.6 ∙ sym right.str_len in
      let fill = right.fill in
      fault.7 (omega arith)
  right_has_none p c fault = absurd fault

pub cut_has_none : (b : List ℕ) (o : Order) (types strings : List ℕ) → Cut b o types strings → HasNone (HeaderFault b)
cut_has_none b o types strings cut = let numbers = cut_right b o types strings cut in right_has_none b numbers.0 numbers.1
