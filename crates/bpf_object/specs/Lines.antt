-- The rules on functions, source lines and CO-RE relocations of .BTF.ext.
use Rattle.std.specs.Prelude.{ℕ, zero, suc, ◌+◌, ◌-◌, ◌==◌, ◌||◌, ◌&&◌, not, nat_lt, Bool, true, false, List, [], ◌∷◌, ◌++◌, length, if◌then◌else◌}
use Rattle.std.specs.{List.list_any, Str.bytes_eq}
use Rattle.bpf_elf.specs.Rules.{rule, each}
use Rattle.bpf_elf.specs.Names.{string_at}
use Rattle.bpf_object.specs.declared.fault.ObjectCause.TheVariants as cause
use Rattle.bpf_object.specs.declared.extension.Part.{Part, TheVariants.Functions, TheVariants.Lines, TheVariants.Relocations}
use Rattle.bpf_object.specs.Faults.{ObjectRule}
use Rattle.bpf_object.specs.Extension.{Section, word, part_len, group_name, group_count, groups, record_offset, head_rules, part_rules}

-- the name of the section of a group
abbrev pub name_of : Section → ℕ → List ℕ
name_of x g = string_at x.strings (group_name x g)

-- insn_off of a record
abbrev pub insn_off : Section → Part → ℕ → ℕ → ℕ
insn_off x p g k = word x (record_offset p g k)

-- all of the first n numbers, or one of them, pass a test
abbrev pub all_of : ℕ → (ℕ → Bool) → Bool
all_of zero test = true
all_of (suc n) test = all_of n test && test n

abbrev pub any_of : ℕ → (ℕ → Bool) → Bool
any_of zero test = false
any_of (suc n) test = any_of n test || test n

-- the offsets of a group ascend
abbrev pub ascends : Section → Part → ℕ → Bool
ascends x p g = all_of (group_count x g) (λ k. k == 0 || nat_lt (insn_off x p g (k - 1)) (insn_off x p g k))

-- the part that has the lines of functions: if that of lines is empty, each function is taken for a line
abbrev pub lines_part : Section → Part
lines_part x = if part_len x Lines == 0 then Functions else Lines

-- a record of a group has an offset
abbrev pub has_record : Section → Part → ℕ → ℕ → Bool
has_record x p g off = any_of (group_count x g) (λ k. insn_off x p g k == off)

-- each function of a group has a line in a group of a part
abbrev pub have_lines : Section → Part → ℕ → ℕ → Bool
have_lines x p f l = all_of (group_count x f) (λ k. has_record x p l (insn_off x Functions f k))

-- the lines of a section belong to its functions
abbrev pub is_pair : Section → Part → ℕ → ℕ → Bool
is_pair x p f l = bytes_eq (name_of x f) (name_of x l) && (ascends x Functions f && (ascends x p l && have_lines x p f l))

-- a name is among others
abbrev pub is_among : List (List ℕ) → List ℕ → Bool
is_among names name = list_any (λ n. bytes_eq n name) names

-- functions and lines, the groups of a part, are of the same sections, in the same sequence; no section is among those of earlier groups
abbrev pub pairs_rules : Section → Part → List (List ℕ) → List ℕ → List ℕ → List ObjectRule
pairs_rules x p earlier [] [] = []
pairs_rules x p earlier (f ∷ fs) [] = rule cause.ExtensionLines (x.start + f) false ∷ []
pairs_rules x p earlier [] (l ∷ ls) = rule cause.ExtensionLines (x.start + l) false ∷ []
pairs_rules x p earlier (f ∷ fs) (l ∷ ls) =
    rule cause.ExtensionLines (x.start + f) (is_pair x p f l)
    ∷ rule cause.ExtensionGroupTwice (x.start + f) (not (is_among earlier (name_of x f)))
    ∷ pairs_rules x p (earlier ++ name_of x f ∷ []) fs ls

-- access_str_off of a CO-RE relocation
abbrev pub access_rules : Section → ℕ → ℕ → List ObjectRule
access_rules x g k =
    rule cause.ExtensionString (x.start + record_offset Relocations g k + 8) (nat_lt (word x (record_offset Relocations g k + 8)) (length x.strings)) ∷ []

abbrev pub accesses_rules : Section → List ℕ → List ObjectRule
accesses_rules x [] = []
accesses_rules x (g ∷ gs) = each (group_count x g) (access_rules x g) ++ accesses_rules x gs

-- the rules on the header, the parts with their groups, and functions and lines
abbrev pub section_rules : Section → List ObjectRule
section_rules x =
    head_rules x
    ++ (part_rules x Functions
    ++ (part_rules x Lines
    ++ (part_rules x Relocations ++ pairs_rules x (lines_part x) [] (groups x Functions) (groups x (lines_part x)))))

-- all rules on .BTF.ext with those on the symbols of the file, in the order in which they are checked
abbrev pub extension_rules : Section → List ObjectRule → List ObjectRule
extension_rules x symbols = section_rules x ++ (symbols ++ accesses_rules x (groups x Relocations))
