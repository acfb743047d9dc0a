-- Numbers one after another, and that each of them reads back at its offset.
use Rattle.std.proofs.Common.{◌≡◌, ℕ, ◌+◌, ◌^◌, ◌<◌, List, [], ◌∷◌, ◌++◌, length, refl, sym, ap, ◌∙◌, add-zero, add_assoc, arith}
use Rattle.std.specs.Prelude.{slice_index}
use Rattle.bpf_words.specs.declared.Order.{Order}
use Rattle.bpf_words.specs.Words.{word16, word32, word16_at, word32_at}
use Rattle.bpf_words.proofs.WordLemmas.{length-word16, length-word32}
use Rattle.bpf_elf.specs.Numbers.{word64_at}
use Rattle.bpf_object.specs.File.{word64}
use Rattle.bpf_object.proofs.ReadBackWords.{HasBytes, has_at, has_first, has_rest, length-word64, read_16, read_32, read_64, read_byte}

-- a number of 8, 16, 32 or 64 bits
pub data Number : Type 0 where
  byte : ℕ → Number
  half : ℕ → Number
  word : ℕ → Number
  long : ℕ → Number

-- how many bytes it has
abbrev pub width : Number → ℕ
width (byte v) = 1
width (half v) = 2
width (word v) = 4
width (long v) = 8

abbrev pub bytes : Order → Number → List ℕ
bytes o (byte v) = v ∷ []
bytes o (half v) = word16 o v
bytes o (word v) = word32 o v
bytes o (long v) = word64 o v

abbrev pub FitsWidth : Number → Type 0
FitsWidth (byte v) = Unit {0}
FitsWidth (half v) = v < 2 ^ 16
FitsWidth (word v) = v < 2 ^ 32
FitsWidth (long v) = v < 2 ^ 64

-- it is what stands at an offset
abbrev pub ReadsAt : Order → List ℕ → ℕ → Number → Type 0
ReadsAt o b i (byte v) = slice_index b i ≡ v
ReadsAt o b i (half v) = word16_at o b i ≡ v
ReadsAt o b i (word v) = word32_at o b i ≡ v
ReadsAt o b i (long v) = word64_at o b i ≡ v

-- the bytes of numbers
abbrev pub encode : Order → List Number → List ℕ
encode o [] = []
encode o (x ∷ xs) = bytes o x ++ encode o xs

abbrev pub FitWidths : List Number → Type 0
FitWidths [] = Unit {0}
FitWidths (x ∷ xs) = FitsWidth x × FitWidths xs

-- each is what stands at its offset after a place
abbrev pub Read : Order → List ℕ → ℕ → ℕ → List Number → Type 0
Read o b place offset [] = Unit {0}
Read o b place offset (x ∷ xs) = ReadsAt o b (place + offset) x × Read o b place (offset + width x) xs

length-bytes : (o : Order) (x : Number) → length (bytes o x) ≡ width x
length-bytes o (byte v) = refl
length-bytes o (half v) = length-word16 o v
length-bytes o (word v) = length-word32 o v
length-bytes o (long v) = length-word64 o v

pub read_one : (o : Order) (b : List ℕ) (i : ℕ) (x : Number) → FitsWidth x → HasBytes b i (bytes o x) → ReadsAt o b i x
read_one o b i (byte v) fit h = ap (λ (k : ℕ). slice_index b k) (sym (add-zero i)) ∙ read_byte b i 0 (v ∷ []) h (omega arith)
read_one o b i (half v) fit h = read_16 o b i v h fit
read_one o b i (word v) fit h = read_32 o b i v h fit
read_one o b i (long v) fit h = read_64 o b i v h fit

pub read_all : (o : Order) (b : List ℕ) (place offset : ℕ) (xs : List Number) → FitWidths xs → HasBytes b (place + offset) (encode o xs) → Read o b place offset xs
read_all o b place offset [] fit h = tt
read_all o b place offset (x ∷ xs) fit h =
    let rest : HasBytes b (place + (offset + width x)) (encode o xs) =
    has_at b (place + offset + width x) (place + (offset + width x)) (encode o xs)
    (has_rest b (place + offset) (width x) (bytes o x) (encode o xs) h (length-bytes o x)) (add_assoc place offset (width x)) in
    (read_one o b (place + offset) x fit.0 (has_first b (place + offset) (bytes o x) (encode o xs) h), read_all o b place (offset + width x) xs fit.1 rest)
