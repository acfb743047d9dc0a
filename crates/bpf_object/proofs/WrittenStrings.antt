-- The new offsets of the strings of .BTF.ext.
use Rattle.std.proofs.Common.{◌≡◌, ℕ, ◌+◌, ◌<◌, List, [], ◌∷◌, ◌++◌, length, take, get_or, refl, ap, sym, ◌∙◌, subst, add-one, append-nil}
use Rattle.std.specs.List.{All, Contains, flat_map}
use Rattle.std.proofs.lemmas.List.{take_more, Concat.flat_map-append, Elements.All-head, Elements.All-tail}
use Rattle.bpf_elf.specs.Names.{string_at}
use Rattle.btf_types.specs.Reading.{text_from}
use Rattle.bpf_canon.specs.btf.strings.{NamesByOffset.NamesByOffset, NamesByOffset.texts_by_offset, DistinctNames.distinct_offset}
use Rattle.bpf_object.specs.declared.{extension.Part.Part, source.Source.Source}
use Rattle.bpf_object.specs.declared.extension.Part.TheVariants.{Relocations}
use Rattle.bpf_object.specs.Extension.{Section, group_name, group_count}
use Rattle.bpf_object.specs.Groups.{access_off}
use Rattle.bpf_object.specs.Kept.{listed}
use Rattle.bpf_object.specs.private.NotedStrings.{text_offset, HasStrings}
use Rattle.bpf_object.specs.Sources.{section}
use Rattle.bpf_object.specs.private.WrittenGroups.{record_offsets, record_bytes, records_bytes}
use Rattle.bpf_object.proofs.KeptLemmas.{all, length-all, get-all}
use Rattle.bpf_object.proofs.ReadBackStrings.{string_is_text}

-- each of a list of values
pub each_listed : {A : Type 0} (P : A → Type 0) (f : ℕ → A) (n k : ℕ) → All P (listed all f n) → k < n → P (f k)
each_listed P f n k each lt = subst P (get-all f n k (f k) lt) (each k (f k) (rw (length-all f n) lt))

-- the offset of a string that is noted by its offset
pub placed_at : (names : NamesByOffset) (strings : List ℕ) (off place : ℕ) → names.strings ≡ strings
    → place ≡ distinct_offset (texts_by_offset names) (text_from names.strings off) → place ≡ text_offset names (string_at strings off)
placed_at names strings off place same is =
    is ∙ ap (λ (s : List ℕ). distinct_offset (texts_by_offset names) (text_from s off)) same
    ∙ ap (distinct_offset (texts_by_offset names)) (sym (string_is_text strings off))

pub name_noted : (names : NamesByOffset) (x : Source) (p : Part) (g : ℕ) → HasStrings names x p g → Contains names.offsets (group_name (section x) g)
name_noted names x p g has = All-head (Contains names.offsets) (group_name (section x) g) (record_offsets (section x) p g) has.noted

pub access_noted : (names : NamesByOffset) (x : Source) (g k : ℕ) → HasStrings names x Relocations g → k < group_count (section x) g
    → Contains names.offsets (access_off (section x) g k)
access_noted names x g k has lt =
    each_listed (Contains names.offsets) (access_off (section x) g) (group_count (section x) g) k
    (All-tail (Contains names.offsets) (group_name (section x) g) (record_offsets (section x) Relocations g) has.noted) lt

pub records_next : (x : Section) (new : ℕ → ℕ) (place : List ℕ → ℕ) (p : Part) (g k : ℕ)
    → records_bytes x new place p g (k + 1) ≡ records_bytes x new place p g k ++ record_bytes x new place p g k
records_next x new place p g k = rw add-one refl

-- one more of a list
pub taken_next : {A : Type 0} (g : A → List ℕ) (xs : List A) (k : ℕ) (d : A) → k < length xs
    → flat_map g (take (k + 1) xs) ≡ flat_map g (take k xs) ++ g (get_or xs k d)
taken_next g xs k d lt =
    ap (flat_map g) (take_more xs k d lt) ∙ flat_map-append g (take k xs) (get_or xs k d ∷ [])
    ∙ ap (λ (t : List ℕ). flat_map g (take k xs) ++ t) (append-nil (g (get_or xs k d)))
