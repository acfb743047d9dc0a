-- The lines of types and items as the concatenation of their parts.
use Rattle.std.proofs.Common.{◌≡◌, ℕ, Bool, List, ◌++◌, refl, ap, subst, ◌∙◌, rules, append_assoc}
use Rattle.std.specs.Prelude.{Result, [], codes, decimal, if◌then◌else◌}
use Rattle.std.specs.List.{flat_map}
use Rattle.btf_types.specs.Values.{TypeHead, KPtr, KArray, KVolatile, KConst, KRestrict, KFuncProto, TypeItem, Member, EnumValue, Value64, Param, Entry}
use Rattle.btf_raw.specs.Kinds.{has_no_name}
use Rattle.btf_types.specs.{Names.head_name, Names.item_name, Encoding.kind_number}
use Rattle.bpf_text.specs.btf.BtfText.{fields_text, head_line, item_line, item_text, kind_word, name_text, quoted_byte}
use Rattle.bpf_text.specs.btf.LineParts.{head_end, head_fields, head_start, item_end, item_fields, item_start}
use Rattle.bpf_text.proofs.BtfLemmas.AppendingLemmas.{Extends, appended_after}

ended : (a n x z : List ℕ) → a ++ n ++ (x ++ z) ≡ (a ++ n ++ x) ++ z
ended a n x z = search (rules, append_assoc)

quoted_before : (n x : List ℕ) → codes " \"" ++ n ++ (codes "\"" ++ x) ≡ (codes " " ++ codes "\"" ++ n ++ codes "\"") ++ x
quoted_before n x = search (rules, append_assoc)

-- what follows the kind of a type
head_text : (head : TypeHead) (items : ℕ)
    → (if has_no_name (kind_number head) then [] else codes " \"") ++ flat_map quoted_byte (head_name head) ++ head_fields head items ≡ name_text head ++ fields_text head items
unfolding has_no_name
head_text (KPtr t) items = refl
head_text (KArray t i c) items = refl
head_text (KVolatile t) items = refl
head_text (KConst t) items = refl
head_text (KRestrict t) items = refl
head_text (KFuncProto t) items = refl
head_text head items = quoted_before (flat_map quoted_byte (head_name head)) (fields_text head items)

-- the ID and the kind before, and the end of the line after
around : (a b c k o n x m y z : List ℕ) → o ++ n ++ x ≡ m ++ y → (a ++ b ++ c ++ k ++ o) ++ n ++ (x ++ z) ≡ a ++ b ++ c ++ k ++ m ++ y ++ z
around a b c k o n x m y z e =
    let left : (a ++ b ++ c ++ k ++ o) ++ n ++ (x ++ z) ≡ a ++ b ++ c ++ k ++ (o ++ n ++ x) ++ z = search (rules, append_assoc) in
    let right : a ++ b ++ c ++ k ++ (m ++ y) ++ z ≡ a ++ b ++ c ++ k ++ m ++ y ++ z = search (rules, append_assoc) in
    left ∙ ap (λ (t : List ℕ). a ++ b ++ c ++ k ++ t ++ z) e ∙ right

-- the line of a type from its three parts
pub head_parts : (id : ℕ) (head : TypeHead) (items : ℕ) → head_start id head ++ flat_map quoted_byte (head_name head) ++ head_end head items ≡ head_line id head items
head_parts id head items =
    around (codes "[") (decimal id) (codes "] ") (kind_word head) _ (flat_map quoted_byte (head_name head)) (head_fields head items) (name_text head) (fields_text head items) (codes "\n") (head_text head items)

-- the line of an item without its newline
shown : (signed : Bool) (item : TypeItem) → item_start item ++ flat_map quoted_byte (item_name item) ++ item_fields signed item ≡ item_text signed item
shown signed (Member n t b w) = search (rules, append_assoc)
shown signed (EnumValue n v) = search (rules, append_assoc)
shown signed (Value64 n v) = search (rules, append_assoc)
shown signed (Param n t) = search (rules, append_assoc)
shown signed (Entry t o s) = refl

-- the line of an item from its three parts
pub item_parts : (signed : Bool) (item : TypeItem) → item_start item ++ flat_map quoted_byte (item_name item) ++ item_end signed item ≡ item_line signed item
item_parts signed item =
    ended (item_start item) (flat_map quoted_byte (item_name item)) (item_fields signed item) (codes "\n")
    ∙ ap (λ (t : List ℕ). t ++ codes "\n") (shown signed item)

-- three calls append the three parts of a line
pub appended : {E : Type 0} (r : Result (Unit {0}) E) (old a b c line one two three : List ℕ) → a ++ b ++ c ≡ line → one ≡ old ++ a → two ≡ one ++ b
    → Extends r two c three → Extends r old line three
appended r old a b c line one two three whole e f h =
    let both : two ≡ old ++ (a ++ b) = f ∙ ap (λ (t : List ℕ). t ++ b) e ∙ append_assoc old a b in
    subst (λ (t : List ℕ). Extends r old t three) whole (appended_after r old (a ++ b) c two three both h)
