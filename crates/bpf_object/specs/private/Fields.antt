-- Numbers one after another, as the headers of ELF have them.
use Rattle.std.specs.Prelude.{ℕ, List, [], ◌∷◌, ◌++◌}
use Rattle.bpf_words.specs.declared.Order.{Order}
use Rattle.bpf_words.specs.Words.{word16, word32}
use Rattle.bpf_object.specs.declared.fields.Field.{Field}
use Rattle.bpf_object.specs.declared.fields.Field.TheVariants.{Byte, Half, Word, Long}
use Rattle.bpf_object.specs.File.{word64}

-- the bytes of a number
abbrev pub bytes : Order → Field → List ℕ
bytes o (Byte v) = v ∷ []
bytes o (Half v) = word16 o v
bytes o (Word v) = word32 o v
bytes o (Long v) = word64 o v

-- the bytes of numbers
abbrev pub encode : Order → List Field → List ℕ
encode o [] = []
encode o (x ∷ xs) = bytes o x ++ encode o xs
