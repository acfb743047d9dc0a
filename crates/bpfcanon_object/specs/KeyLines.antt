-- The lines of lists of keys, and of their comparison, as sha256sum writes them.
use Rattle.std.specs.Prelude.{◌++◌, ℕ, List, codes}
use Rattle.hex.specs.Hex.{encode_lower}
use Rattle.bpfcanon_object.specs.Escape.{escaped, mark, marked}
use Rattle.bpfcanon_object.specs.Lines.{newline}

-- 64 digits, two blanks, the name
abbrev pub key_line : List ℕ → List ℕ → List ℕ
key_line key name = mark name ++ (encode_lower key ++ (codes "  " ++ (escaped name ++ newline)))

-- the result for a row: the name and a word
abbrev pub row_line : List ℕ → List ℕ → List ℕ
row_line name word = marked name ++ (codes ": " ++ (word ++ newline))
