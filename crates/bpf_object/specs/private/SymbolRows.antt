-- The rows of symbols, and where the global ones begin.
use Rattle.std.specs.Prelude.{ℕ, zero, suc, ◌&&◌, List, ◌∷◌, [], ◌++◌, if◌then◌else◌}
use Rattle.bpf_words.specs.{declared.Order.Order, Words.word16, Words.word32}
use Rattle.bpf_elf.specs.Symbols.{is_kept_symbol, is_local, st_info}
use Rattle.bpf_object.specs.File.{word64}
use Rattle.bpf_object.specs.Kept.{number_of}

-- a symbol: st_name, st_info, st_other, st_shndx, st_value and st_size
abbrev pub symbol_row : Order → ℕ → ℕ → ℕ → ℕ → ℕ → ℕ → List ℕ
symbol_row o name info other section value size =
    word32 o name ++ (info ∷ other ∷ []) ++ word16 o section ++ word64 o value ++ word64 o size

-- the number after the last local one among the first n symbols that are kept
abbrev pub globals_from : List ℕ → ℕ → ℕ
globals_from b zero = 0
globals_from b (suc n) = if is_kept_symbol b n && is_local (st_info b n) then number_of (is_kept_symbol b) (suc n) else globals_from b n
