-- What follows from the rules that hold: sections that have symbols or relocations are in the file.
use Rattle.std.proofs.Common.{◌≡◌, ℕ, ◌+◌, ◌<◌, ◌≤◌, ◌==◌, true, false, Bool, inl, inr, Option, None, List, length, drop, refl, sym, ◌∙◌, subst, cond, arith}
use Rattle.std.proofs.lemmas.{Bool.leb-true, Bool.cases_lt, List.length-take, List.length-drop}
use Rattle.bpf_elf.specs.declared.{header.Header.Header, kinds.Kind.Kind}
use Rattle.bpf_elf.specs.declared.kinds.Kind.TheVariants.{Symbols, Relocations}
use Rattle.bpf_elf.specs.Header.{FILE_LIMIT}
use Rattle.bpf_elf.specs.Numbers.{count, type, flags, offset, size}
use Rattle.bpf_elf.specs.Kinds.{is_kind, kind_of, SHT_SYMTAB, SHT_REL, SHT_NOBITS}
use Rattle.bpf_elf.specs.Sections.{content, kind, name, file_size, section_of}
use Rattle.bpf_elf.specs.Symbols.{symbols}
use Rattle.bpf_elf.specs.Headers.{HasSections, HasSymbolSection, HasRows, IsKnown}
use Rattle.bpf_elf.proofs.RuleLemmas.{first_of_there}
use Rattle.bpf_elf.proofs.KindLemmas.{symbols_type, relocations_type, none_is, true_false}

-- a section of another type than SHT_NOBITS has sh_size bytes
in_file : (b : List ℕ) (i t : ℕ) → type b i ≡ t → (t == SHT_NOBITS) ≡ false → IsKnown b i → offset b i + size b i ≤ length b
in_file b i t same other known =
    let no : (type b i == SHT_NOBITS) ≡ false = subst (λ (n : ℕ). (n == SHT_NOBITS) ≡ false) (sym same) other in
    let whole : file_size b i ≡ size b i = rw no refl in
    let inside : offset b i + file_size b i ≤ length b = leb-true _ _ known.inside in
    subst (λ (n : ℕ). offset b i + n ≤ length b) whole inside

known_kind : (w : Kind) (x : Bool) (k : Option Kind) → is_kind w (cond x None k) ≡ true → is_kind w k ≡ true
known_kind w true k is = absurd (true_false (sym is ∙ none_is w))
known_kind w false k is = is

symbols_type_at : (b : List ℕ) (i : ℕ) → is_kind Symbols (kind b i) ≡ true → type b i ≡ SHT_SYMTAB
symbols_type_at b i is =
    symbols_type (type b i) (name b i) (flags b i) (known_kind Symbols (i == 0) (kind_of (type b i) (name b i) (flags b i)) is)

pub relocations_type_at : (b : List ℕ) (i : ℕ) → is_kind Relocations (kind b i) ≡ true → type b i ≡ SHT_REL
relocations_type_at b i is =
    relocations_type (type b i) (name b i) (flags b i) (known_kind Relocations (i == 0) (kind_of (type b i) (name b i) (flags b i)) is)

pub has_symbol_section : (b : List ℕ) (h : Header) (i : ℕ) → HasSections b h → i ≡ symbols b → 0 < i → HasSymbolSection b h i
has_symbol_section b h i s same some =
    let there = first_of_there (count b) i (λ k. is_kind Symbols (kind b k)) (sym same) some in
    let at : symbols b < count b = subst (λ (n : ℕ). n < count b) same there.0 in
    let is : is_kind Symbols (kind b (symbols b)) ≡ true = subst (λ (n : ℕ). is_kind Symbols (kind b n) ≡ true) same there.1 in
    record {
      sections = s;
      section = same;
      there = at;
      inside = in_file b (symbols b) SHT_SYMTAB (symbols_type_at b (symbols b) is) refl (s.known (symbols b) at);
    }

pub has_rows : (b : List ℕ) (h : Header) (i : ℕ) → HasSections b h → i < count b → is_kind Relocations (kind b i) ≡ true → HasRows b h i
has_rows b h i s lt is = record { header = s.names.header; there = lt; inside = in_file b i SHT_REL (relocations_type_at b i is) refl (s.known i lt) }

-- the first section of a kind is one; section 0 is always there
pub section_there : (b : List ℕ) (k : Kind) → 0 < count b → section_of b k (count b) < count b
section_there b k some =
    elim (cases_lt 0 (section_of b k (count b))) [
      | inl found ↦ (first_of_there (count b) (section_of b k (count b)) (λ i. is_kind k (kind b i)) refl found).0
      | inr none ↦ omega (arith, none, some)
    ]

-- the content of a section isn't longer than a file may be
pub content_short : (b : List ℕ) (i : ℕ) → length b ≤ FILE_LIMIT → length (content b i) ≤ FILE_LIMIT
content_short b i short = omega (arith, length-take (file_size b i) (drop (offset b i) b), length-drop (offset b i) b, short)
