-- What is written of a file: its sections, .BTF and .BTF.ext, and the symbols, with the offsets of all strings that it will have.
use Rattle.std.specs.Prelude.{◌≡◌, ◌⊎◌, ℕ, ◌+◌, ◌<◌, nat_le, ⊤, Bool, false, Option, Some, None, List, [], ◌∷◌, ◌++◌, Result, MatchResult, length, map, codes, if◌then◌else◌}
use Rattle.bpf_words.specs.declared.Order.{Order}
use Rattle.bpf_elf.specs.Numbers.{count, order_of}
use Rattle.btf_types.specs.Names.{kept}
use Rattle.bpf_object.specs.declared.fault.ObjectError.{ObjectError}
use Rattle.bpf_object.specs.declared.fault.ObjectError.TheVariants as errors
use Rattle.bpf_object.specs.Canonical.{canonical, strings_of, offset_of, written_section, symbol_bytes, own_section}
use Rattle.bpf_object.specs.Denotes.{object_of, result_limit}
use Rattle.bpf_elf.specs.Kinds.{SHT_PROGBITS, SHT_SYMTAB, SHT_STRTAB}
use Rattle.bpf_object.specs.private.SymbolRows.{globals_from}
use Rattle.bpf_object.specs.File.{WrittenSection}
use Rattle.bpf_object.specs.private.FileOf.{is_small_file}
use Rattle.bpf_object.specs.private.FileWriter.{FileSoFar, Holds}
use Rattle.bpf_object.specs.Kept.{listed, is_kept_section, kept_section, kept_sections, kept_symbol}
use Rattle.bpf_elf.specs.Symbols.{is_kept_symbol, symbol_count}
use Rattle.std.specs.List.{flat_map}
use Rattle.bpf_object.specs.private.Names.{Strings, Extends}
use Rattle.bpf_object.specs.ObjectFaults.{IsTooLarge}
use Rattle.bpf_object.specs.Objects.{ObjectTypes}
use Rattle.bpf_object.specs.private.Written.{btf_content, extension_content}

-- no file of these sections, or with these strings, is small enough
abbrev pub FailsToWrite : ℕ → List (List ℕ) → List WrittenSection → ObjectError → Type 0
FailsToWrite limit all ss (errors.Fault fault) = ((is_small_file limit ss ≡ false) ⊎ (limit < length (strings_of all))) × IsTooLarge fault
FailsToWrite limit all ss errors.Memory = ⊤

-- these strings and sections were added
pub record HasWritten (limit : ℕ) (added : List (List ℕ)) (ss : List WrittenSection) (old_names new_names : Strings) (old new : FileSoFar) : Type 0 where
  pub texts : kept new_names.texts ≡ kept (old_names.texts ++ added)
  pub source : new_names.source ≡ old_names.source
  pub limit_is : new_names.limit ≡ old_names.limit
  pub held : (before : List WrittenSection) → Holds limit before old → Holds limit (before ++ ss) new × (new.order ≡ old.order)

-- for all strings that the file will have, the sections with the offsets of these are written, or the file is too large
abbrev pub Writes : {A : Type 0} → ℕ → List (List ℕ) → ((List ℕ → ℕ) → List WrittenSection) → Strings → Strings → FileSoFar → FileSoFar → Result A ObjectError → Type 0
Writes limit texts sections old_names new_names old new result =
    (all : List (List ℕ)) → Extends all (kept (old_names.texts ++ texts))
    → MatchResult result (λ _. HasWritten limit texts (sections (offset_of all)) old_names new_names old new)
    (λ e. (before : List WrittenSection) → Holds limit before old → FailsToWrite limit all (before ++ sections (offset_of all)) e)

-- a section that is kept, and nothing of another one
abbrev pub name_if : List ℕ → ℕ → List (List ℕ)
name_if b i = map (λ s. s.name) (if is_kept_section b i then kept_section b i ∷ [] else [])

abbrev pub written_if : List ℕ → ℕ → ℕ → (List ℕ → ℕ) → List WrittenSection
written_if b link i place = map (written_section (order_of b) place link) (if is_kept_section b i then kept_section b i ∷ [] else [])

-- the kept ones among the first n sections: their names, and what is written
abbrev pub section_names : List ℕ → ℕ → List (List ℕ)
section_names b n = map (λ s. s.name) (listed (is_kept_section b) (kept_section b) n)

abbrev pub written_first : List ℕ → ℕ → ℕ → (List ℕ → ℕ) → List WrittenSection
written_first b link n place = map (written_section (order_of b) place link) (listed (is_kept_section b) (kept_section b) n)

-- ---- .BTF and .BTF.ext

-- the name of a section, if there is one with a content
abbrev pub name_with : List ℕ → Option (List ℕ) → List (List ℕ)
name_with name None = []
name_with name (Some content) = name ∷ []

abbrev pub names_with : Option (List ℕ) → Option (List ℕ) → List (List ℕ)
names_with types extension = name_with (codes ".BTF") types ++ name_with (codes ".BTF.ext") extension

-- a section of this content, if there is one
abbrev pub section_with : List ℕ → Option (List ℕ) → (List ℕ → ℕ) → List WrittenSection
section_with name None place = []
section_with name (Some content) place = own_section (place name) SHT_PROGBITS content 0 0 4 0 ∷ []

abbrev pub both_with : Option (List ℕ) → Option (List ℕ) → (List ℕ → ℕ) → List WrittenSection
both_with types extension place = section_with (codes ".BTF") types place ++ section_with (codes ".BTF.ext") extension place

-- the number of .symtab
abbrev pub symtab_of : List ℕ → Option (List ℕ) → Option (List ℕ) → ℕ
symtab_of b types extension = 1 + length (kept_sections b) + length (names_with types extension)

-- all sections but the last two
abbrev pub first_names : List ℕ → Option (List ℕ) → Option (List ℕ) → List (List ℕ)
first_names b types extension = section_names b (count b) ++ names_with types extension

abbrev pub first_written : List ℕ → ℕ → Option (List ℕ) → Option (List ℕ) → (List ℕ → ℕ) → List WrittenSection
first_written b symtab types extension place = written_first b symtab (count b) place ++ both_with types extension place

-- ---- the symbols

-- these strings and bytes were added
pub record HasRows (added : List (List ℕ)) (bytes : List ℕ) (old_names new_names : Strings) (old new : List ℕ) : Type 0 where
  pub texts : kept new_names.texts ≡ kept (old_names.texts ++ added)
  pub source : new_names.source ≡ old_names.source
  pub limit_is : new_names.limit ≡ old_names.limit
  pub held : new ≡ old ++ bytes

abbrev pub WritesRows : {A : Type 0} → ℕ → List (List ℕ) → ((List ℕ → ℕ) → List ℕ) → Strings → Strings → List ℕ → List ℕ → Result A ObjectError → Type 0
WritesRows limit texts bytes old_names new_names old new result =
    (all : List (List ℕ)) → Extends all (kept (old_names.texts ++ texts))
    → MatchResult result (λ _. HasRows texts (bytes (offset_of all)) old_names new_names old new) (λ e. (ss : List WrittenSection) → FailsToWrite limit all ss e)

abbrev pub symbol_name_if : List ℕ → ℕ → List (List ℕ)
symbol_name_if b j = map (λ s. s.name) (if is_kept_symbol b j then kept_symbol b j ∷ [] else [])

abbrev pub symbol_if : List ℕ → ℕ → (List ℕ → ℕ) → List ℕ
symbol_if b j place = flat_map (symbol_bytes (order_of b) place) (if is_kept_symbol b j then kept_symbol b j ∷ [] else [])

-- the kept ones among the first n symbols
abbrev pub symbol_names : List ℕ → ℕ → List (List ℕ)
symbol_names b n = map (λ s. s.name) (listed (is_kept_symbol b) (kept_symbol b) n)

abbrev pub symbols_first : List ℕ → ℕ → (List ℕ → ℕ) → List ℕ
symbols_first b n place = flat_map (symbol_bytes (order_of b) place) (listed (is_kept_symbol b) (kept_symbol b) n)

-- ---- the last two sections

abbrev pub last_names : List ℕ → List (List ℕ)
last_names b = (codes ".symtab" ∷ codes ".strtab" ∷ []) ++ symbol_names b (symbol_count b)

-- link is the number of .strtab
abbrev pub last_written : List ℕ → ℕ → List (List ℕ) → List WrittenSection
last_written b link all =
    own_section (offset_of all (codes ".symtab")) SHT_SYMTAB (symbols_first b (symbol_count b) (offset_of all)) link (globals_from b (symbol_count b)) 8 24
    ∷ own_section (offset_of all (codes ".strtab")) SHT_STRTAB (strings_of all) 0 0 1 0 ∷ []

-- ---- the file

-- the bytes are those of .BTF and .BTF.ext of these types
pub record AreContents (o : Order) (t : Option ObjectTypes) (types extension : Option (List ℕ)) : Type 0 where
  pub types_are : types ≡ btf_content o t
  pub extension_is : extension ≡ extension_content o t

-- the canonical file with these types isn't larger than it may be
abbrev pub fits : List ℕ → Option ObjectTypes → Bool
fits b t = nat_le (length (canonical (object_of b t))) (result_limit (length b))
