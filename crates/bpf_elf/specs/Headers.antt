-- What the numbers of a header that was read mean, and what has been checked of a file so far.
use Rattle.std.specs.Prelude.{◌≡◌, ◌⊎◌, ℕ, ◌+◌, ◌*◌, ◌<◌, ◌≤◌, true, List, length}
use Rattle.bpf_elf.specs.declared.{header.Header.Header, symbols.SymbolTable.SymbolTable}
use Rattle.bpf_elf.specs.Header.{FILE_LIMIT}
use Rattle.bpf_elf.specs.Numbers.{order_of, table, count, names, name_off, offset, size, link}
use Rattle.bpf_elf.specs.Names.{is_section_name}
use Rattle.bpf_elf.specs.Sections.{content, is_inside, is_string_table, kept_total}
use Rattle.bpf_elf.specs.Symbols.{symbols, symbol_count, symbol_strings, st_name, st_shndx, is_special}

-- the header of a file, whose section header table is inside it
pub record IsHeaderOf (b : List ℕ) (h : Header) : Type 0 where
  pub short : length b ≤ FILE_LIMIT
  pub whole : 64 ≤ length b
  pub table_inside : table b + 64 * count b ≤ length b
  pub some : 0 < count b
  pub names_inside : names b < count b
  pub order : h.order ≡ order_of b
  pub table : h.table ≡ table b
  pub count : h.count ≡ count b
  pub names : h.names ≡ names b

-- and the names of the sections are in a string table
pub record HasNames (b : List ℕ) (h : Header) : Type 0 where
  pub header : IsHeaderOf b h
  pub names : is_string_table b (names b) ≡ true

-- a section is in the file and has a name
pub record IsKnown (b : List ℕ) (i : ℕ) : Type 0 where
  pub inside : is_inside b i ≡ true
  pub named : is_section_name (content b (names b)) (name_off b i) ≡ true

-- so are the first n
abbrev pub AreKnown : List ℕ → ℕ → Type 0
AreKnown b n = (i : ℕ) → i < n → IsKnown b i

-- the first n have this many bytes that are kept, which aren't more than the file has
pub record IsTotal (b : List ℕ) (n : ℕ) (total : ℕ) : Type 0 where
  pub value : total ≡ kept_total b n
  pub small : total ≤ length b

-- all sections have been checked
pub record HasSections (b : List ℕ) (h : Header) : Type 0 where
  pub names : HasNames b h
  pub known : AreKnown b (count b)

-- the index is special or that of a section
abbrev pub HasSection : List ℕ → ℕ → Type 0
HasSection b section = is_special section ≡ true ⊎ section < count b

-- and there is a symbol table, whose bytes are in the file
pub record HasSymbolSection (b : List ℕ) (h : Header) (i : ℕ) : Type 0 where
  pub sections : HasSections b h
  pub section : i ≡ symbols b
  pub there : symbols b < count b
  pub inside : offset b (symbols b) + size b (symbols b) ≤ length b

-- and the symbols are in it
pub record HasSymbols (b : List ℕ) (h : Header) (t : SymbolTable) : Type 0 where
  pub sections : HasSections b h
  pub there : symbols b < count b
  pub names_there : link b (symbols b) < count b
  pub strings : is_string_table b (link b (symbols b)) ≡ true
  pub inside : offset b (symbols b) + 24 * symbol_count b ≤ length b
  pub section : t.section ≡ symbols b
  pub offset : t.offset ≡ offset b (symbols b)
  pub count : t.count ≡ symbol_count b
  pub names : t.names ≡ link b (symbols b)

-- all sections and symbols have been checked: each symbol has a name, and a section index that it may have
pub record HasKeptSymbols (b : List ℕ) (h : Header) (t : SymbolTable) : Type 0 where
  pub table : HasSymbols b h t
  pub named : (j : ℕ) → j < symbol_count b → st_name b j < length (symbol_strings b)
  pub sections : (j : ℕ) → j < symbol_count b → HasSection b (st_shndx b j)

-- a section is in the file, so each of its rows is
pub record HasRows (b : List ℕ) (h : Header) (i : ℕ) : Type 0 where
  pub header : IsHeaderOf b h
  pub there : i < count b
  pub inside : offset b i + size b i ≤ length b
