-- The BTF of records that say valid types denotes these types.
use Rattle.std.proofs.Common.{◌≡◌, ◌≤◌, ◌+◌, ◌-◌, ◌*◌, ◌∙◌, ℕ, List, [], ◌∷◌, length, map, drop, refl, sym, ap, arith}
use Rattle.std.specs.List.{All, AllZip, sum_by}
use Rattle.std.proofs.lemmas.List.Elements.{All-head, All-tail, All-weaker}
use Rattle.std.proofs.lemmas.List.Sums.{sum_by-cons}
use Rattle.bpf_words.specs.declared.Order.{Order, TheVariants.Little}
use Rattle.btf_types.proofs.StringLemmas.EncodedNames.{encoded_table_fits}
use Rattle.std.proofs.lemmas.List.{length-take, length-drop}
use Rattle.btf_raw.specs.Frames.{bytes_of, section_of}
use Rattle.btf_raw.specs.Kinds.{tail_words}
use Rattle.btf_types.specs.Values.{TypeRecord}
use Rattle.btf_types.specs.{Denotes.Denotes, Encoding.Encodes, Encoding.kind_number, checks.Numbers.TypeFacts}
use Rattle.btf_types.specs.Valid.{IsValid, IsValidRecord, facts, record_size}
use Rattle.btf_types.proofs.{TableLemmas.TableSteps.concat-map, TableLemmas.TableSteps.encoded_bytes}
use Rattle.bpf_canon.specs.btf.CanonicalBtf.{canonical}
use Rattle.bpf_canon.proofs.BtfLemmas.CanonicalFiles.{length-canonical, canonical_size}
use Rattle.bpfcanon_c.specs.declared.btf_rows.{TypeRow.TypeRow, ItemRow.ItemRow}
use Rattle.bpfcanon_c.specs.declared.btf_plain.Plan.{Plan}
use Rattle.bpfcanon_c.specs.BtfSaying.{AreNear, TellsType, TellTypes}
use Rattle.bpfcanon_c.specs.BtfEncoding.{IsEncodedBtf}
use Rattle.bpfcanon_c.specs.BtfPlain as plain
use Rattle.bpfcanon_c.specs.BtfPlain.{IsPlan, HoldsNames, names_section, row_size, row_words}
use Rattle.bpfcanon_c.proofs.BtfLengths.{plain_cut}
use Rattle.bpfcanon_c.proofs.BtfNames.{section_ends}
use Rattle.bpfcanon_c.proofs.BtfRecordWords.{kind_is}
use Rattle.bpfcanon_c.proofs.BtfPlans.{names_near}
use Rattle.bpfcanon_c.proofs.BtfTold.{type_encodes}

-- ---- sizes

pub kind_told : (strings : List ℕ) (items : List ItemRow) (row : TypeRow) (r : TypeRecord) → TellsType strings items row r → row.kind ≡ kind_number r.head
kind_told strings items row r told = ap (λ (t : TypeRow). t.kind) told.form ∙ kind_is row.name row.first (length r.items) r.head

size_told : (strings : List ℕ) (items : List ItemRow) (row : TypeRow) (r : TypeRecord) → TellsType strings items row r → row_size row ≡ record_size r
unfolding tail_words
size_told strings items row r told =
    let kind = kind_told strings items row r told in
    let count : row.items ≡ length r.items = ap (λ (t : TypeRow). t.items) told.form in
    ap (λ (k : ℕ). 4 * (3 + tail_words k row.items)) kind ∙ ap (λ (n : ℕ). 4 * (3 + tail_words (kind_number r.head) n)) count ∙ omega arith

pub sizes_told : (strings : List ℕ) (items : List ItemRow) (types : List TypeRow) (v : List TypeRecord) → AllZip (TellsType strings items) types v → sum_by row_size types ≡ sum_by record_size v
sizes_told strings items [] [] told = refl
sizes_told strings items [] (r ∷ v) told = absurd told
sizes_told strings items (row ∷ types) [] told = absurd told
sizes_told strings items (row ∷ types) (r ∷ v) told =
    omega (arith, sum_by-cons row_size row types, sum_by-cons record_size r v, size_told strings items row r told.0, sizes_told strings items types v told.1)

-- ---- the file

types_encode : (strings : List ℕ) (items : List ItemRow) (p : Plan) (facts : List TypeFacts) (types : List TypeRow) (v : List TypeRecord) → plain.IsNamesPart strings p.names
    → AllZip (TellsType strings items) types v → All (HoldsNames p.names items) types → All (IsValidRecord facts) v
    → AllZip (Encodes (names_section strings p.names)) v (plain.frames p.names.start types items)
types_encode strings items p facts [] [] part told held valid = tt
types_encode strings items p facts [] (r ∷ v) part told held valid = absurd told
types_encode strings items p facts (row ∷ types) [] part told held valid = absurd told
types_encode strings items p facts (row ∷ types) (r ∷ v) part told held valid = (
  type_encodes strings p.names facts items row r part told.0 (All-head (IsValidRecord facts) r v valid) (All-head (HoldsNames p.names items) row types held),
  types_encode strings items p facts types v part told.1 (All-tail (HoldsNames p.names items) row types held) (All-tail (IsValidRecord facts) r v valid),
)

pub told_denotes : (types : List TypeRow) (items : List ItemRow) (strings : List ℕ) (p : Plan) (v : List TypeRecord) → IsPlan strings types items p → TellTypes types items strings v
    → Denotes (plain.plain p types items strings) v
told_denotes types items strings p v plan told =
    let section = names_section strings p.names in
    let fs = plain.frames p.names.start types items in
    let records = section_of Little fs in
    let encodes = types_encode strings items p (facts v) types v plan.part told.each plan.holds told.valid.each in
    record {
      order = Little;
      types = records;
      strings = section;
      encodings = map (bytes_of Little) fs;
      cut = plain_cut types items strings p plan;
      nul_ends = section_ends strings p.names plan.part;
      encoded = encoded_bytes Little section v fs encodes;
      whole = sym (concat-map Little fs);
      valid = told.valid;
    }

-- the canonical bytes are no longer than the records and the strings
pub told_fits : (to : Order) (types : List TypeRow) (items : List ItemRow) (strings : List ℕ) (p : Plan) (v : List TypeRecord) → IsPlan strings types items p → TellTypes types items strings v
    → length (canonical to v) ≤ 25 + sum_by row_size types + length strings
told_fits to types items strings p v plan told =
    let section = names_section strings p.names in
    let fs = plain.frames p.names.start types items in
    let encodes = types_encode strings items p (facts v) types v plan.part told.each plan.holds told.valid.each in
    let table = encoded_table_fits Little section v (map (bytes_of Little) fs) (section_ends strings p.names plan.part) (encoded_bytes Little section v fs encodes) in
    omega (
      arith,
      length-canonical to v,
      canonical_size to v told.valid,
      sizes_told strings items types v told.each,
      table,
      length-take (p.names.end - p.names.start) (drop p.names.start strings),
      length-drop p.names.start strings,
    )

pub is_encoded : (to : Order) (types : List TypeRow) (items : List ItemRow) (strings : List ℕ) (p : Plan) (v : List TypeRecord) (out : List ℕ) → IsPlan strings types items p → IsValid v
    → AllZip (TellsType strings items) types v → out ≡ canonical to v → IsEncodedBtf to types items strings out
is_encoded to types items strings p v out plan valid each form =
    let near = All-weaker (HoldsNames p.names items) (AreNear items p.names.start) (names_near strings items p.names plan.part) types plan.holds in
    let told : TellTypes types items strings v = record { valid = valid; each = each; start = p.names.start; near = near } in
    record { v = v; told = told; form = form; fits = omega (arith, ap length form, told_fits to types items strings p v plan told) }
