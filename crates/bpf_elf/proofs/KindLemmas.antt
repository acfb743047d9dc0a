-- The type of a section follows from its kind.
use Rattle.std.proofs.Common.{◌≡◌, ℕ, ◌==◌, ◌&&◌, not, true, false, Bool, Option, Some, None, List, inl, inr, cond, codes, refl, sym, ◌∙◌}
use Rattle.std.specs.{Prelude.if◌then◌else◌, Str.bytes_eq}
use Rattle.std.proofs.lemmas.Bool.{cases_Bool, eqb-true}
use Rattle.bpf_elf.specs.declared.kinds.Kind.{Kind}
use Rattle.bpf_elf.specs.declared.kinds.Kind.TheVariants.{Data, Relocations, Symbols, Types, Extension, Dropped}
use Rattle.bpf_elf.specs.Kinds.{is_debug, is_executable, is_like_data, is_plain, is_compressed, has_indices, is_reserved, is_strings_name, is_unread_table, begins, SHT_PROGBITS, SHT_NOBITS, SHT_STRTAB, SHT_LLVM_ADDRSIG, is_kind, if_fits, data_kind, nobits_kind, progbits_kind, relocations_kind, table_kind, kind_of, SHT_SYMTAB, SHT_REL}

-- an answer isn't a kind
record IsNot (w : Kind) (k : Option Kind) : Type 0 where
  no : is_kind w k ≡ false

neither : (w : Kind) (x : Bool) (k l : Option Kind) → IsNot w k → IsNot w l → IsNot w (cond x k l)
neither w true k l a b = a
neither w false k l a b = b

pub none_is : (k : Kind) → is_kind k None ≡ false
none_is Data = refl
none_is Relocations = refl
none_is Symbols = refl
none_is Types = refl
none_is Extension = refl
none_is Dropped = refl

none : (w : Kind) → IsNot w None
none w = record { no = none_is w }

unfit : (w : Kind) (x : Bool) (k : Kind) → is_kind w (Some k) ≡ false → IsNot w (if_fits x k)
unfit w x k a = neither w x (Some k) None (record { no = a }) (none w)

data_is : (w : Kind) (name : List ℕ) (flags : ℕ) → is_kind w (Some Data) ≡ false → IsNot w (data_kind name flags)
data_is w name flags a = unfit w (not (is_reserved name) && not (is_compressed flags) && not (has_indices flags)) Data a

progbits_is : (w : Kind) (name : List ℕ) (flags : ℕ) → is_kind w (Some Dropped) ≡ false → is_kind w (Some Types) ≡ false
    → is_kind w (Some Extension) ≡ false → is_kind w (Some Data) ≡ false → IsNot w (progbits_kind name flags)
progbits_is w name flags d t e a =
    neither w (is_debug name) _ _ (unfit w (not (is_executable flags)) Dropped d)
    (neither w (bytes_eq name (codes ".BTF")) _ _ (unfit w (is_plain flags) Types t)
    (neither w (bytes_eq name (codes ".BTF.ext")) _ _ (unfit w (is_plain flags) Extension e) (data_is w name flags a)))

nobits_is : (w : Kind) (name : List ℕ) (flags : ℕ) → is_kind w (Some Data) ≡ false → IsNot w (nobits_kind name flags)
nobits_is w name flags a = neither w (begins name (codes ".bss")) _ _ (data_is w name flags a) (none w)

some_chosen : (w : Kind) (x y : Bool) → is_kind w (Some Dropped) ≡ false → is_kind w (Some Relocations) ≡ false → IsNot w (if_fits x (cond y Dropped Relocations))
some_chosen w x true d r = unfit w x Dropped d
some_chosen w x false d r = unfit w x Relocations r

relocations_is : (w : Kind) (name : List ℕ) (flags : ℕ) → is_kind w (Some Dropped) ≡ false → is_kind w (Some Relocations) ≡ false → IsNot w (relocations_kind name flags)
relocations_is w name flags d r = some_chosen w (begins name (codes ".rel") && is_plain flags) (is_unread_table name) d r

dropped_is : (w : Kind) (type : ℕ) (name : List ℕ) (flags : ℕ) → is_kind w (Some Dropped) ≡ false
    → IsNot w (if type == SHT_STRTAB then if_fits (is_strings_name name && is_plain flags) Dropped
    else if type == SHT_LLVM_ADDRSIG then if_fits (bytes_eq name (codes ".llvm_addrsig") && is_plain flags) Dropped else None)
dropped_is w type name flags d =
    neither w (type == SHT_STRTAB) _ _ (unfit w (is_strings_name name && is_plain flags) Dropped d)
    (neither w (type == SHT_LLVM_ADDRSIG) _ _ (unfit w (bytes_eq name (codes ".llvm_addrsig") && is_plain flags) Dropped d) (none w))

pub true_false : true ≡ false → ⊥
true_false e = cc

second : (w : Kind) (x : Bool) (k l : Option Kind) → x ≡ false → IsNot w l → IsNot w (cond x k l)
second w x k l e a = rw e a

-- only a section of type SHT_SYMTAB has symbols
pub symbols_type : (type : ℕ) (name : List ℕ) (flags : ℕ) → is_kind Symbols (kind_of type name flags) ≡ true → type ≡ SHT_SYMTAB
unfolding kind_of
symbols_type type name flags is =
    elim (cases_Bool (type == SHT_SYMTAB)) [
      | inl same ↦ eqb-true _ _ same
      | inr other ↦
          let table : IsNot Symbols (table_kind type name flags) =
          second Symbols (type == SHT_SYMTAB) _ _ other (dropped_is Symbols type name flags refl) in
          let all : IsNot Symbols (kind_of type name flags) =
          neither Symbols (type == SHT_PROGBITS) _ _ (progbits_is Symbols name flags refl refl refl refl)
          (neither Symbols (type == SHT_NOBITS) _ _ (nobits_is Symbols name flags refl)
          (neither Symbols (is_like_data type) _ _ (data_is Symbols name flags refl)
          (neither Symbols (type == SHT_REL) _ _ (relocations_is Symbols name flags refl refl) table))) in
          absurd (true_false (sym is ∙ all.no))
    ]

-- only a section of type SHT_REL has relocations
pub relocations_type : (type : ℕ) (name : List ℕ) (flags : ℕ) → is_kind Relocations (kind_of type name flags) ≡ true → type ≡ SHT_REL
unfolding kind_of
relocations_type type name flags is =
    elim (cases_Bool (type == SHT_REL)) [
      | inl same ↦ eqb-true _ _ same
      | inr other ↦
          let table : IsNot Relocations (table_kind type name flags) =
          neither Relocations (type == SHT_SYMTAB) _ _ (unfit Relocations (bytes_eq name (codes ".symtab") && is_plain flags) Symbols refl)
          (dropped_is Relocations type name flags refl) in
          let all : IsNot Relocations (kind_of type name flags) =
          neither Relocations (type == SHT_PROGBITS) _ _ (progbits_is Relocations name flags refl refl refl refl)
          (neither Relocations (type == SHT_NOBITS) _ _ (nobits_is Relocations name flags refl)
          (neither Relocations (is_like_data type) _ _ (data_is Relocations name flags refl)
          (second Relocations (type == SHT_REL) _ _ other table))) in
          absurd (true_false (sym is ∙ all.no))
    ]
