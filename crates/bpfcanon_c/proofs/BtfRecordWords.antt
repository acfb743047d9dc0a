-- The words of a record that says a type encode it.
use Rattle.std.proofs.Common.{◌≡◌, ◌⊎◌, ◌<◌, ◌+◌, ◌*◌, ◌%◌, ◌^◌, ℕ, Bool, true, false, Some, None, List, ◌∷◌, length, refl, inl, inr, arith}
use Rattle.btf_raw.specs.{Heads.bit}
use Rattle.btf_types.specs.Values.{TypeHead, KInt, KStruct, KUnion, KEnum, KFwd, KFuncProto, KDatasec, KDeclTag, KTypeTag, KEnum64, TypeItem, Member, EnumValue, Value64, Param, Entry}
use Rattle.btf_types.specs.Names.{head_name, item_name}
use Rattle.btf_types.specs.Encoding.{kind_number, head_third, record_vlen, head_tail, info, ItemInRange}
use Rattle.btf_types.specs.Valid.{ItemOf, has_width}
use Rattle.bpf_canon.specs.btf.CanonicalBtf.{canonical_flag, words_of_item}
use Rattle.bpf_canon.specs.btf.write.BtfWords.{MemberFits}
use Rattle.bpfcanon_c.specs.BtfRows.{item_row, type_row}
use Rattle.bpfcanon_c.specs.BtfRows as rows
use Rattle.bpfcanon_c.specs.BtfPlain as plain

-- ---- a head

bit_low : (b : Bool) → rows.bit b % 2 ≡ bit b
bit_low false = refl
bit_low true = refl

-- what a head with these items has before them
abbrev words_before : ℕ → TypeHead → List TypeItem → Bool → List ℕ
words_before name h xs b = name ∷ info (kind_number h) (record_vlen (record { head = h; items = xs })) (canonical_flag h b) ∷ head_third h ∷ head_tail h

pub head_words_are : (start name first : ℕ) (h : TypeHead) (xs : List TypeItem) (b : Bool)
    → plain.head_words start (type_row name first (length xs) h) (plain.flag_word (type_row name first (length xs) h) b)
    ≡ words_before (plain.name_word start name (length (head_name h))) h xs b
head_words_are start name first (KEnum n signed size) xs b = rw (bit_low signed) refl
head_words_are start name first (KFwd n is_union) xs b = rw (bit_low is_union) refl
head_words_are start name first (KDeclTag n flag target None) xs b = rw (bit_low flag) refl
head_words_are start name first (KDeclTag n flag target (Some c)) xs b = rw (bit_low flag) refl
head_words_are start name first (KTypeTag n flag target) xs b = rw (bit_low flag) refl
head_words_are start name first (KEnum64 n signed size) xs b = rw (bit_low signed) refl
head_words_are start name first h xs b = refl

pub flag_word_is : (name first count : ℕ) (h : TypeHead) (b : Bool) → plain.flag_word (type_row name first count h) b ≡ canonical_flag h b
flag_word_is name first count (KEnum n signed size) b = bit_low signed
flag_word_is name first count (KFwd n is_union) b = bit_low is_union
flag_word_is name first count (KDeclTag n flag target c) b = bit_low flag
flag_word_is name first count (KTypeTag n flag target) b = bit_low flag
flag_word_is name first count (KEnum64 n signed size) b = bit_low signed
flag_word_is name first count h b = refl

-- ---- an item

-- the offset of its name is written, if it has one
abbrev pub written_item : ℕ → TypeItem → List ℕ
written_item offset x = words_of_item (λ n. offset) x

member_word : (offset width : ℕ) → offset < 2 ^ 32 → width < 2 ^ 8 → (width ≡ 0) ⊎ (offset < 2 ^ 24) → (offset + 2 ^ 24 * (width % 2 ^ 8)) % 2 ^ 32 ≡ offset + 2 ^ 24 * width
member_word offset width low few (inl e) = omega arith
member_word offset width low few (inr e) = omega arith

pub item_words_are : (start name : ℕ) (h : TypeHead) (x : TypeItem) → ItemOf h x → ItemInRange x → MemberFits x
    → plain.words_of start (kind_number h) (item_row name x) ≡ written_item (plain.name_word start name (length (item_name x))) x
item_words_are start name (KStruct n size) (Member m target offset width) of range fits = rw (member_word offset width range.1 range.2 fits) refl
item_words_are start name (KUnion n size) (Member m target offset width) of range fits = rw (member_word offset width range.1 range.2 fits) refl
item_words_are start name (KEnum n signed size) (EnumValue m value) of range fits =
    let low : value % 2 ^ 32 ≡ value = omega arith in
    rw low refl
item_words_are start name (KFuncProto target) (Param m t) of range fits = refl
item_words_are start name (KDatasec n size) (Entry target offset bytes) of range fits = refl
item_words_are start name (KEnum64 n signed size) (Value64 m value) of range fits = refl
item_words_are start name h x of range fits = absurd of

-- a record has a width if its item has one
pub width_is : (name : ℕ) (x : TypeItem) → plain.has_width (item_row name x) ≡ has_width x
width_is name (Member m target offset width) = refl
width_is name (EnumValue m value) = refl
width_is name (Value64 m value) = refl
width_is name (Param m target) = refl
width_is name (Entry target offset size) = refl

-- the kind of a record that says a type
pub kind_is : (name first count : ℕ) (h : TypeHead) → (type_row name first count h).kind ≡ kind_number h
kind_is name first count (KInt n size encoding offset bits) = refl
kind_is name first count h = refl
