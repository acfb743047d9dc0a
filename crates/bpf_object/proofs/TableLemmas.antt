-- The sections that are kept.
use Rattle.std.proofs.Common.{◌≡◌, ℕ, suc, ◌+◌, ◌==◌, Bool, true, false, cond, List, [], ◌++◌, length, sym, ap, ◌∙◌, append-nil, refl}
use Rattle.std.specs.List.{flat_map}
use Rattle.bpf_elf.specs.Numbers.{count, order_of, type, flags, address, size, alignment, entry_size}
use Rattle.bpf_elf.specs.{Sections.content, Sections.name, Kinds.SHT_REL}
use Rattle.bpf_object.specs.{Canonical.row_bytes, Canonical.written_section, File.WrittenSection, Objects.KeptRelocation}
use Rattle.bpf_object.specs.Kept.{is_table, is_kept_section, kept_section, kept_sections, number_of, table_rows}
use Rattle.bpf_words.specs.declared.Order.{Order}
use Rattle.bpf_object.specs.private.Tables.{kept_content}
use Rattle.bpf_object.proofs.{KeptLemmas.number_next, CanonLists.length-listed}

content_by : (o : Order) (x : Bool) (content : List ℕ) (rows : List KeptRelocation)
    → cond x (flat_map (row_bytes o) rows) content ≡ cond x [] content ++ flat_map (row_bytes o) (cond x rows [])
content_by o true content rows = refl
content_by o false content rows = sym (append-nil content)

-- its content is that of the definition
pub content_is : (b : List ℕ) (i : ℕ) → kept_content b i ≡ (kept_section b i).content ++ flat_map (row_bytes (order_of b)) (kept_section b i).relocations
content_is b i = content_by (order_of b) (is_table b i) (content b i) (table_rows b i)

pub written_is : (b : List ℕ) (place : List ℕ → ℕ) (link i : ℕ) (w : WrittenSection) → w.name_offset ≡ place (name b i) → w.type ≡ type b i
    → w.flags ≡ flags b i → w.address ≡ address b i → w.size ≡ size b i → w.link ≡ cond (w.type == SHT_REL) link 0 → w.info ≡ (kept_section b i).target
    → w.alignment ≡ alignment b i → w.entry_size ≡ entry_size b i → w.content ≡ kept_content b i → w ≡ written_section (order_of b) place link (kept_section b i)
written_is b place link i w name_is type_is flags_are address_is size_is link_is info_is alignment_is entry_is content_same =
    let linked : w.link ≡ cond (type b i == SHT_REL) link 0 = link_is ∙ ap (λ (t : ℕ). cond (t == SHT_REL) link 0) type_is in
    let filled = content_same ∙ content_is b i in
    λ k. record {
      name_offset = name_is k;
      type = type_is k;
      flags = flags_are k;
      address = address_is k;
      size = size_is k;
      link = linked k;
      info = info_is k;
      alignment = alignment_is k;
      entry_size = entry_is k;
      content = filled k;
    }

-- ---- how many are kept

pub kept_length : (b : List ℕ) (last before : ℕ) (is : Bool) → last + 1 ≡ count b → before ≡ number_of (is_kept_section b) last
    → is ≡ is_kept_section b last → cond is (suc before) before ≡ length (kept_sections b)
kept_length b last before is whole h k =
    rw (h, k) (sym (number_next (is_kept_section b) last)) ∙ ap (number_of (is_kept_section b)) whole ∙ sym (length-listed (is_kept_section b) (kept_section b) (count b))
