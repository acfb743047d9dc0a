-- Frames differ in their bytes: at most one list of frames is a prefix of a section up to the first record that isn't a frame.
use Rattle.std.proofs.Common.{◌≡◌, ◌≢◌, ℕ, zero, suc, ◌+◌, ◌*◌, ◌^◌, ◌<◌, ◌≤◌, List, [], ◌∷◌, ◌++◌, length, drop, refl, sym, ap, subst, ◌∙◌, append_assoc, length-append, arith}
use Rattle.std.specs.{Prelude.slice_index, List.All}
use Rattle.std.proofs.lemmas.List.{drop_at, Elements.All-head, Elements.All-tail}
use Rattle.bpf_words.specs.{declared.Order.Order, Words.word32, Words.word32_at}
use Rattle.bpf_words.proofs.WordLemmas.{word32_at-word32, length-word32, word32_at-append}
use Rattle.btf_raw.specs.declared.cause.BtfCause.{BtfCause, TheVariants.RecordCut, TheVariants.TailCut}
use Rattle.btf_raw.specs.Kinds.{tail_words}
use Rattle.btf_raw.specs.Frames.{IsFrame, bytes_of, section_of, InfoFault, RecordFault, info_word, kind, vlen}
use Rattle.btf_raw.proofs.RecordFaults.{allowed_has_none}

abbrev pub IsWords : List ℕ → Type 0
IsWords ws = (i : ℕ) → slice_index ws i < 2 ^ 32

pub length-bytes_of : (o : Order) (ws : List ℕ) → length (bytes_of o ws) ≡ 4 * length ws
length-bytes_of o [] = refl
length-bytes_of o (w ∷ ws) = omega (arith, length-append (word32 o w) (bytes_of o ws), length-word32 o w, length-bytes_of o ws)

-- one field, then more
words_first : (o : Order) (w : ℕ) (xs ys : List ℕ) → (word32 o w ++ xs) ++ ys ≡ word32 o w ++ (xs ++ ys)
words_first o w xs ys = append_assoc (word32 o w) xs ys

-- the fields read back from their bytes
pub word32_at-bytes_of : (o : Order) (ws rest : List ℕ) (j : ℕ) → IsWords ws → j < length ws → word32_at o (bytes_of o ws ++ rest) (4 * j) ≡ slice_index ws j
word32_at-bytes_of o [] rest j fit h = absurd (omega arith)
word32_at-bytes_of o (w ∷ ws) rest zero fit h = rw words_first (word32_at-word32 o w (bytes_of o ws ++ rest) (fit 0))
word32_at-bytes_of o (w ∷ ws) rest (suc j) fit h =
    let next = word32_at-bytes_of o ws rest j (λ i. fit (suc i)) (omega arith) in
    let step : 4 * suc j ≡ length (word32 o w) + 4 * j = omega (arith, length-word32 o w) in
    rw (step, words_first) (word32_at-append o (word32 o w) (bytes_of o ws ++ rest) (4 * j) ∙ next)

pub record Same (f g x y : List ℕ) : Type 0 where
  pub words : f ≡ g
  pub rest : x ≡ y

word_cancel : (o : Order) (a b : ℕ) (x y : List ℕ) → a < 2 ^ 32 → b < 2 ^ 32 → word32 o a ++ x ≡ word32 o b ++ y → (a ≡ b) × (x ≡ y)
word_cancel o a b x y p q e = (
  sym (word32_at-word32 o a x p) ∙ ap (λ (t : List ℕ). word32_at o t 0) e ∙ word32_at-word32 o b y q,
  sym (drop_at (word32 o a) x 4 (length-word32 o a)) ∙ ap (λ (t : List ℕ). drop 4 t) e ∙ drop_at (word32 o b) y 4 (length-word32 o b),
)

words_cancel : (o : Order) (f g x y : List ℕ) → IsWords f → IsWords g → length f ≡ length g → bytes_of o f ++ x ≡ bytes_of o g ++ y → Same f g x y
words_cancel o [] [] x y p q n e = record { words = refl; rest = e }
words_cancel o [] (b ∷ g) x y p q n e = absurd (omega arith)
words_cancel o (a ∷ f) [] x y p q n e = absurd (omega arith)
words_cancel o (a ∷ f) (b ∷ g) x y p q n e =
    let one = word_cancel o a b (bytes_of o f ++ x) (bytes_of o g ++ y) (p 0) (q 0) (sym (words_first o a (bytes_of o f) x) ∙ e ∙ words_first o b (bytes_of o g) y) in
    let rest = words_cancel o f g x y (λ i. p (suc i)) (λ i. q (suc i)) (omega arith) one.1 in
    record { words = let head = one.0 in let tail = rest.words in cc; rest = rest.rest }

-- a frame has at least its first three fields
three : (f : List ℕ) → IsFrame f → 3 ≤ length f
three f frame = omega (arith, frame.size)

info_of_bytes : (o : Order) (f x : List ℕ) → IsFrame f → word32_at o (bytes_of o f ++ x) 4 ≡ info_word f
info_of_bytes o f x frame = word32_at-bytes_of o f x 1 frame.words (omega (arith, three f frame))

pub frame_cancel : (o : Order) (f g x y : List ℕ) → IsFrame f → IsFrame g → bytes_of o f ++ x ≡ bytes_of o g ++ y → Same f g x y
frame_cancel o f g x y p q e =
    let info : info_word f ≡ info_word g = sym (info_of_bytes o f x p) ∙ ap (λ (t : List ℕ). word32_at o t 4) e ∙ info_of_bytes o g y q in
    let size : length f ≡ length g = p.size ∙ rw info (sym q.size) in
    words_cancel o f g x y p.words q.words size e

-- the record that a frame begins has no fault, whatever follows
pub frame_has_none : (o : Order) (f x : List ℕ) (at_offset : ℕ) (cause : BtfCause) → IsFrame f → ¬ RecordFault o (bytes_of o f ++ x) at_offset cause
frame_has_none o f x at_offset RecordCut frame fault =
    omega (arith, three f frame, length-append (bytes_of o f) x, length-bytes_of o f, fault.1)
frame_has_none o f x at_offset TailCut frame fault =
    let info : fault.0 ≡ info_word f = fault.1.1 ∙ info_of_bytes o f x frame in
    let short : length (bytes_of o f ++ x) < 12 + 4 * tail_words (kind f) (vlen f) = rw (← info) fault.4 in
    omega (arith, frame.size, short, length-append (bytes_of o f) x, length-bytes_of o f)
frame_has_none o f x at_offset cause frame fault =
    let info : fault.0 ≡ info_word f = fault.1.1 ∙ info_of_bytes o f x frame in
    allowed_has_none (info_word f) cause frame.info (subst (λ (i : ℕ). InfoFault i cause) info fault.2)

pub record SameFrames (fs gs : List (List ℕ)) (x y : List ℕ) : Type 0 where
  pub frames : fs ≡ gs
  pub rest : x ≡ y

-- the bytes don't begin with a frame
abbrev pub IsNoFrame : Order → List ℕ → Type 0
IsNoFrame o x = (f rest : List ℕ) → IsFrame f → x ≢ bytes_of o f ++ rest

pub frames_cancel : (o : Order) (fs gs : List (List ℕ)) (x y : List ℕ) → All IsFrame fs → All IsFrame gs → IsNoFrame o x → IsNoFrame o y → section_of o fs ++ x ≡ section_of o gs ++ y → SameFrames fs gs x y
frames_cancel o [] [] x y p q nx ny e = record { frames = refl; rest = e }
frames_cancel o [] (g ∷ gs) x y p q nx ny e =
    absurd (nx g (section_of o gs ++ y) (All-head IsFrame g gs q) (e ∙ append_assoc (bytes_of o g) (section_of o gs) y))
frames_cancel o (f ∷ fs) [] x y p q nx ny e =
    absurd (ny f (section_of o fs ++ x) (All-head IsFrame f fs p) (sym e ∙ append_assoc (bytes_of o f) (section_of o fs) x))
frames_cancel o (f ∷ fs) (g ∷ gs) x y p q nx ny e =
    let one = frame_cancel o f g (section_of o fs ++ x) (section_of o gs ++ y) (All-head IsFrame f fs p) (All-head IsFrame g gs q)
    (sym (append_assoc (bytes_of o f) (section_of o fs) x) ∙ e ∙ append_assoc (bytes_of o g) (section_of o gs) y) in
    let rest = frames_cancel o fs gs x y (All-tail IsFrame f fs p) (All-tail IsFrame g gs q) nx ny one.rest in
    record { frames = let head = one.words in let tail = rest.frames in cc; rest = rest.rest }
