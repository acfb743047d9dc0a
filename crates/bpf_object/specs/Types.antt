-- The rules on .BTF (Linux Documentation/bpf/btf.rst section 2).
use Rattle.std.specs.Prelude.{ℕ, ◌+◌, ◌*◌, ◌==◌, ◌||◌, ◌&&◌, not, nat_le, Bool, true, false, List, [], ◌∷◌, ◌++◌, length, take, slice_index, slice_index_or, if◌then◌else◌}
use Rattle.std.specs.{List.concat, List.list_any, Str.bytes_eq}
use Rattle.bpf_words.specs.{declared.Order.Order, declared.Order.TheVariants.Little, declared.Order.TheVariants.Big, Words.word32_at}
use Rattle.bpf_elf.specs.{Rules.rule, Rules.each, Names.string_at, Kinds.is_reserved}
use Rattle.btf_raw.specs.KindNumbers.{FWD, FUNC, VAR, DATASEC, TYPE_TAG}
use Rattle.btf_raw.specs.Kinds.{one_of, has_item_names, is_struct, item_words}
use Rattle.btf_raw.specs.Frames.{name_word, kind, vlen, flag}
use Rattle.btf_types.specs.{Sections.SectionWords, checks.FieldFaults.width}
use Rattle.bpf_object.specs.declared.fault.ObjectCause.TheVariants as cause
use Rattle.bpf_object.specs.Faults.{ObjectRule}
use Rattle.bpf_object.specs.Lines.{any_of}

-- the section: the byte order of the file, where the header of the section and the section are in it, and its bytes
pub record TypesSection : Type 0 where
  pub order : Order
  pub header_offset : ℕ
  pub start : ℕ
  pub bytes : List ℕ

-- it has at most 15 MiB: sh_size is at offset 32 of its header
abbrev pub size_rules : TypesSection → List ObjectRule
size_rules x = rule cause.TypesTooLarge (x.header_offset + 32) (nat_le (length x.bytes) 15728640) ∷ []

-- two byte orders are the same
abbrev pub is_order : Order → Order → Bool
is_order Little Little = true
is_order Big Big = true
is_order _ _ = false

-- the byte order is that of the file, and type_off, at offset 8 of the header, is 0
abbrev pub form_rules : TypesSection → SectionWords → List ObjectRule
form_rules x s =
    rule cause.TypesOrder x.start (is_order s.order x.order)
    ∷ rule cause.TypesLayout (x.start + 8) (word32_at s.order x.bytes 8 == 0)
    ∷ []

-- ---- a record at an offset of the file

-- a name_off is 0, or leads to a name
abbrev pub leads_to_name : List ℕ → ℕ → Bool
leads_to_name strings off = off == 0 || not (slice_index strings off == 0)

-- The names of these are compared with each other. Any number of them may share the bytes of one string, so they have at most 1,024 bytes, as those of sections.
abbrev pub has_long_name : List ℕ → List ℕ → Bool
has_long_name strings f =
    one_of (FWD ∷ FUNC ∷ VAR ∷ TYPE_TAG ∷ []) (kind f) && not (nat_le (length (string_at strings (name_word f))) 1024)

-- a DATASEC with a reserved name
abbrev pub is_reserved_section : List ℕ → List ℕ → Bool
is_reserved_section strings f = kind f == DATASEC && is_reserved (string_at strings (name_word f))

-- the kind_flag of a struct or union isn't 0, but the width of each member is: it is in the member's third field
abbrev pub is_flagged : List ℕ → Bool
is_flagged f = is_struct (kind f) && (not (flag f == 0) && not (any_of (vlen f) (λ k. not (width f (5 + 3 * k) == 0))))

-- the first field is name_off, and the second one info
abbrev pub head_rules : List ℕ → ℕ → List ℕ → List ObjectRule
head_rules strings pos f =
    rule cause.TypesName pos (leads_to_name strings (name_word f))
    ∷ rule cause.TypesName pos (not (has_long_name strings f))
    ∷ rule cause.TypesSection pos (not (is_reserved_section strings f))
    ∷ rule cause.TypesFlag (pos + 4) (not (is_flagged f))
    ∷ []

-- the field that is the name_off of an item
abbrev pub item_name : List ℕ → ℕ → ℕ
item_name f k = 3 + item_words (kind f) * k

-- and the name of an item is one
abbrev pub item_rules : List ℕ → ℕ → List ℕ → ℕ → List ObjectRule
item_rules strings pos f k = rule cause.TypesName (pos + 4 * item_name f k) (leads_to_name strings (slice_index f (item_name f k))) ∷ []

-- how many items with names it has
abbrev pub named_items : List ℕ → ℕ
named_items f = if has_item_names (kind f) then vlen f else 0

-- a record, and then its items
abbrev pub record_rules : List ℕ → ℕ → List ℕ → List ObjectRule
record_rules strings pos f = head_rules strings pos f ++ each (named_items f) (item_rules strings pos f)

-- ---- all records

-- where the records begin: after the header, whose size hdr_len is at offset 4 of it
abbrev pub records_start : TypesSection → SectionWords → ℕ
records_start x s = x.start + word32_at s.order x.bytes 4

-- where record k is, if the first one is at start: four bytes for each field of those before it
abbrev pub record_offset : ℕ → SectionWords → ℕ → ℕ
record_offset start s k = start + 4 * length (concat (take k s.frames))

-- the rules on record k
abbrev pub rules_of : ℕ → SectionWords → ℕ → List ObjectRule
rules_of start s k = record_rules s.strings (record_offset start s k) (slice_index_or s.frames k [])

-- ---- names by which alone libbpf looks up externs and sections of data, and takes the first type that has one

-- a FUNC has this name
abbrev pub is_func_name : SectionWords → List ℕ → Bool
is_func_name s name = list_any (λ f. kind f == FUNC && bytes_eq (string_at s.strings (name_word f)) name) s.frames

-- a name begins with `.`, like that of a section
abbrev pub is_dotted : List ℕ → Bool
is_dotted name = slice_index name 0 == 0x2e

-- a VAR with the name of a FUNC, or a VAR, FWD or TYPE_TAG with that of a section: canonical files have these records last
abbrev pub is_taken : SectionWords → ℕ → List ℕ → Bool
is_taken s kind name = kind == VAR && is_func_name s name || one_of (VAR ∷ FWD ∷ TYPE_TAG ∷ []) kind && is_dotted name

-- the rule on the name of record k
abbrev pub name_rules : ℕ → SectionWords → ℕ → List ObjectRule
name_rules start s k =
    let f = slice_index_or s.frames k [] in
    rule cause.TypesNameTaken (record_offset start s k) (not (is_taken s (kind f) (string_at s.strings (name_word f)))) ∷ []

-- ---- the section

-- all records, and then their names
abbrev pub all_rules : ℕ → SectionWords → List ObjectRule
all_rules start s = each (length s.frames) (rules_of start s) ++ each (length s.frames) (name_rules start s)

-- the rules on a .BTF without faults of its own, in the order in which they are checked
abbrev pub types_rules : TypesSection → SectionWords → List ObjectRule
types_rules x s = form_rules x s ++ all_rules (records_start x s) s
