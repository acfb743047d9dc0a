-- The steps of a file while its sections are written.
use Rattle.std.proofs.Common.{◌≡◌, ℕ, ◌+◌, ◌*◌, ◌<◌, ◌≤◌, ◌-◌, true, false, List, [], ◌∷◌, ◌++◌, length, replicate, drop, refl, sym, ap, ◌∙◌, add-zero, append-nil, append_assoc, length-append, arith}
use Rattle.std.proofs.lemmas.Bool.Decides.{nat_tests}
use Rattle.std.proofs.lemmas.List.{drop_at, Concat.flat_map-append}
use Rattle.bpf_words.specs.declared.Order.{Order, TheVariants.Little, TheVariants.Big}
use Rattle.bpf_object.specs.private.Fields.{encode}
use Rattle.bpf_object.specs.File.{WrittenSection, ident}
use Rattle.bpf_object.specs.private.FileOf.{header_fields, section_fields, padded, contents, headers, file_of, is_small_file}
use Rattle.bpf_object.specs.private.FileWriter.{FileSoFar, Holds}

pub contents_push : (ss : List WrittenSection) (s : WrittenSection) → contents (ss ++ s ∷ []) ≡ contents ss ++ padded s.content
contents_push ss s = flat_map-append (λ (t : WrittenSection). padded t.content) ss (s ∷ []) ∙ ap (λ (t : List ℕ). contents ss ++ t) (append-nil (padded s.content))

pub headers_push : (o : Order) (at : ℕ) (ss : List WrittenSection) (s : WrittenSection) → headers o at (ss ++ s ∷ []) ≡ headers o at ss ++ encode o (section_fields s (at + length (contents ss)))
headers_push o at [] s = append-nil (encode o (section_fields s at)) ∙ ap (λ (n : ℕ). encode o (section_fields s n)) (sym (add-zero at))
headers_push o at (t ∷ ts) s =
    ap (λ (x : List ℕ). encode o (section_fields t at) ++ x) (headers_push o (at + length (padded t.content)) ts s
    ∙ ap (λ (n : ℕ). headers o (at + length (padded t.content)) ts ++ encode o (section_fields s n)) (omega (arith, length-append (padded t.content) (contents ts))))
    ∙ sym (append_assoc (encode o (section_fields t at)) (headers o (at + length (padded t.content)) ts) (encode o (section_fields s (at + length (contents (t ∷ ts))))))

length-section_fields : (o : Order) (s : WrittenSection) (at : ℕ) → length (encode o (section_fields s at)) ≡ 64
length-section_fields Little s at = refl
length-section_fields Big s at = refl

pub length-headers : (o : Order) (at : ℕ) (ss : List WrittenSection) → length (headers o at ss) ≡ 64 * length ss
length-headers o at [] = refl
length-headers o at (s ∷ ss) =
    omega (arith, length-append (encode o (section_fields s at)) (headers o (at + length (padded s.content)) ss), length-section_fields o s at, length-headers o (at + length (padded s.content)) ss)

pub length-header_fields : (o : Order) (flags table count : ℕ) → length (ident o ++ encode o (header_fields flags table count)) ≡ 64
length-header_fields Little flags table count = refl
length-header_fields Big flags table count = refl

-- one section more
pub holds_more : (limit : ℕ) (ss : List WrittenSection) (old new : FileSoFar) (s : WrittenSection) → Holds limit ss old → new.order ≡ old.order → new.limit ≡ old.limit → new.out ≡ old.out ++ padded s.content
    → new.headers ≡ old.headers ++ encode old.order (section_fields s (length old.out)) → new.count ≡ old.count + 1 → Holds limit (ss ++ s ∷ []) new
holds_more limit ss old new s h order same out headers_are count = record {
  limit_is = same ∙ h.limit_is;
  out = out ∙ ap (λ (t : List ℕ). t ++ padded s.content) h.out ∙ append_assoc (replicate 64 0) (contents ss) (padded s.content) ∙ ap (λ (t : List ℕ). replicate 64 0 ++ t) (sym (contents_push ss s));
  headers =
      headers_are ∙ ap (λ (t : List ℕ). t ++ encode old.order (section_fields s (length old.out))) h.headers
      ∙ append_assoc (replicate 64 0) (headers old.order 64 ss) (encode old.order (section_fields s (length old.out)))
      ∙ ap (λ (t : List ℕ). replicate 64 0 ++ t) (ap (λ (n : ℕ). headers old.order 64 ss ++ encode old.order (section_fields s n)) (ap length h.out ∙ length-append (replicate 64 0) (contents ss)) ∙ sym (headers_push old.order 64 ss s)
      ∙ ap (λ (o : Order). headers o 64 (ss ++ s ∷ [])) (sym order));
  count = let c = h.count in omega (arith, count, c, length-append ss (s ∷ []));
}

-- a section that doesn't fit
pub not_small : (limit : ℕ) (ss : List WrittenSection) → limit < 64 + length (contents ss) + 64 * (length ss + 1) → is_small_file limit ss ≡ false
not_small limit ss large = grind (arith, nat_tests)

pub too_many : (limit : ℕ) (ss : List WrittenSection) → 65536 ≤ length ss + 1 → is_small_file limit ss ≡ false
too_many limit ss many = grind (arith, nat_tests)

pub past_room : (limit : ℕ) (ss : List WrittenSection) (w : FileSoFar) (s : WrittenSection) → Holds limit ss w → limit < length w.out + length (padded s.content) → is_small_file limit (ss ++ s ∷ []) ≡ false
past_room limit ss w s h large =
    not_small limit (ss ++ s ∷ []) (omega (arith, large, ap length h.out, length-append (replicate 64 0) (contents ss), ap length (contents_push ss s), length-append (contents ss) (padded s.content)))

pub past_count : (limit : ℕ) (ss : List WrittenSection) (w : FileSoFar) (s : WrittenSection) → Holds limit ss w → 65536 ≤ w.count + 1 → is_small_file limit (ss ++ s ∷ []) ≡ false
past_count limit ss w s h many = let c = h.count in too_many limit (ss ++ s ∷ []) (omega (arith, many, c, length-append ss (s ∷ [])))

-- the file
pub small_now : (limit : ℕ) (ss : List WrittenSection) (w : FileSoFar) → Holds limit ss w → w.count < 65536 → 64 * w.count ≤ limit - length w.out → length w.out ≤ limit → is_small_file limit ss ≡ true
small_now limit ss w h few room short = let c = h.count in let n = ap length h.out in let m = length-append (replicate 64 0) (contents ss) in grind (arith, nat_tests)

pub finished : (limit : ℕ) (ss : List WrittenSection) (w : FileSoFar) (flags : ℕ) (out file : List ℕ) → Holds limit ss w → out ≡ (ident w.order ++ encode w.order (header_fields flags (length w.out) w.count)) ++ drop 64 w.out → file ≡ out ++ w.headers → file ≡ file_of w.order flags ss
finished limit ss w flags out file h out_is file_is =
    let place : length w.out ≡ 64 + length (contents ss) = ap length h.out ∙ length-append (replicate 64 0) (contents ss) in
    let rest : drop 64 w.out ≡ contents ss = ap (drop 64) h.out ∙ drop_at (replicate 64 0) (contents ss) 64 refl in
    let head : List ℕ = ident w.order ++ encode w.order (header_fields flags (64 + length (contents ss)) (length ss + 1)) in
    let head_is : (ident w.order ++ encode w.order (header_fields flags (length w.out) w.count)) ++ drop 64 w.out ≡ head ++ contents ss = rw (place, h.count, rest) refl in
    file_is ∙ ap (λ (t : List ℕ). t ++ w.headers) (out_is ∙ head_is) ∙ ap (λ (t : List ℕ). (head ++ contents ss) ++ t) h.headers
    ∙ append_assoc head (contents ss) (replicate 64 0 ++ headers w.order 64 ss)
