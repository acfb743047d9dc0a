-- Records that are refused say no valid types.
use Rattle.std.proofs.Common.{◌≡◌, ◌<◌, ◌≤◌, ◌+◌, ◌∙◌, ℕ, List, length, take, get_or, refl, sym, ap, subst, inl, inr, arith}
use Rattle.std.specs.Prelude.{IsTrue}
use Rattle.std.specs.List.{All, AllZip, sum_by}
use Rattle.std.proofs.lemmas.List.Elements.{All-take}
use Rattle.std.proofs.lemmas.List.Sums.{sum_by-take-le}
use Rattle.std.proofs.lemmas.Option.{get_or_from_slice_get, slice_get_within}
use Rattle.std.proofs.lemmas.Slice.Zip.{AllZip-long}
use Rattle.bpf_words.specs.Words.{IsBytes}
use Rattle.btf_raw.specs.declared.cause.{BtfCause.BtfCause, BtfFault.BtfFault}
use Rattle.btf_raw.specs.declared.cause.BtfCause.TheVariants.{TypeLength, StringLength, KindNumber, TailCut, NameRange}
use Rattle.btf_raw.specs.{Cause.number_of, Header.TYPES_LIMIT, Kinds.is_kind}
use Rattle.btf_types.specs.declared.error.BtfError.TheVariants as error
use Rattle.btf_types.specs.Values.{TypeHead, KInt, TypeRecord}
use Rattle.btf_types.specs.{Names.head_name, Names.item_name, Encoding.kind_number, Denotes.Denotes, tables.Tables.Fails, tables.TableWords.no_record}
use Rattle.btf_types.proofs.{Denoting.denotes_unique, EncodedItems.nothing, Lists.zip_at}
use Rattle.bpf_canon.proofs.BtfLemmas.BtfFiles.{fails_no_file}
use Rattle.bpfcanon_c.specs.declared.btf_rows.{TypeRow.TypeRow, ItemRow.ItemRow}
use Rattle.bpfcanon_c.specs.declared.btf_plain.Plan.{Plan}
use Rattle.bpfcanon_c.specs.BtfSaying.{AreNear, IsNamed, IsNear, TellsItem, TellsType, own_rows}
use Rattle.bpfcanon_c.specs.BtfPlain.{HasName, HasNames, IsPlan, plain, row_size}
use Rattle.bpfcanon_c.specs.BtfPlanSteps.{HasFields, IsUnlike}
use Rattle.bpfcanon_c.specs.BtfRefusal.{AreNearWith, IsItemFault, LastFault, NameFault, IsUnwritten, IsIndexAt}
use Rattle.bpfcanon_c.specs.BtfEncoding.{IsNoBtf}
use Rattle.bpfcanon_c.proofs.BtfPlans.{sizes_are}
use Rattle.bpfcanon_c.proofs.BtfSays.{named_stands}
use Rattle.bpfcanon_c.proofs.BtfReadBack.{read_back, type_fields, types_fields}
use Rattle.bpfcanon_c.proofs.BtfDenoted.{kind_told, sizes_told, told_denotes}

is_some_kind : (h : TypeHead) → IsTrue (is_kind (kind_number h))
unfolding is_kind
is_some_kind (KInt name size encoding offset bits) = refl
is_some_kind h = refl

-- ---- what is said is whole

name_there : (strings : List ℕ) (at len : ℕ) (name : List ℕ) → len ≡ length name → IsNamed strings at name → HasName strings at len
name_there strings at len name long named = record {
  inside = λ some. let s = named_stands strings at name (omega arith) named in omega (arith, s.inside);
  nul = λ some. let s = named_stands strings at name (omega arith) named in subst (λ (n : ℕ). get_or strings (at + n) 0 ≡ 0) (sym long) s.nul;
}

names_there : (strings : List ℕ) (items : List ItemRow) (row : TypeRow) (r : TypeRecord) → TellsType strings items row r → HasNames strings items row
names_there strings items row r told = record {
  name = name_there strings row.name row.name_len (head_name r.head) (ap (λ (t : TypeRow). t.name_len) told.form) told.named;
  names = λ k d h.
      let i = get_or (own_rows items row) k d in
      let x = get_or r.items k nothing in
      let one : TellsItem strings i x = zip_at (TellsItem strings) (own_rows items row) r.items k d nothing told.each h in
      name_there strings i.name i.name_len (item_name x) (ap (λ (t : ItemRow). t.name_len) one.form) one.named;
}

no_fault : (strings : List ℕ) (Before : ℕ → Type 0) (at len start : ℕ) (c : BtfCause) → HasName strings at len → Before start → IsNear start at len → NameFault strings Before at len c → ⊥
no_fault strings Before at len start NameRange has before near fault = fault has
no_fault strings Before at len start StringLength has before near fault = fault.1 start before near
no_fault strings Before at len start c has before near fault = fault

no_item_fault : (strings : List ℕ) (items : List ItemRow) (types : List TypeRow) (row : TypeRow) (k start : ℕ) (c : BtfCause) → HasNames strings items row → All (AreNear items start) types
    → AreNear items start row → IsItemFault strings items types row k c → ⊥
no_item_fault strings items types row k start c has before near fault =
    let own = own_rows items row in
    let i = fault.item in
    let inside : k < length own = slice_get_within own k i fault.item_is in
    let same : get_or own k i ≡ i = get_or_from_slice_get own k i i fault.item_is in
    let Near : ItemRow → Type 0 = λ (i : ItemRow). IsNear start i.name i.name_len in
    no_fault strings (AreNearWith items types row (take k own)) i.name i.name_len start c
    (subst (λ (i : ItemRow). HasName strings i.name i.name_len) same (has.names k i inside))
    (record { types-near = before; name-near = near.own; names-near = All-take Near k own near.each })
    (subst Near same (near.each k i inside)) fault.fault

none_last : (strings : List ℕ) (items : List ItemRow) (types : List TypeRow) (row : TypeRow) (r : TypeRecord) (start : ℕ) (c : BtfCause) → All (AreNear items start) types → AreNear items start row
    → sum_by row_size types + row_size row ≤ TYPES_LIMIT → TellsType strings items row r → LastFault strings items types row c → ⊥
none_last strings items types row r start KindNumber before near fits one fault =
    let kind = kind_told strings items row r one in
    let yes : IsTrue (is_kind row.kind) = subst (λ (n : ℕ). IsTrue (is_kind n)) (sym kind) (is_some_kind r.head) in
    cc
none_last strings items types row r start TailCut before near fits one fault =
    fault.2 (sym (AllZip-long (TellsItem strings) (own_rows items row) r.items one.each) ∙ sym (ap (λ (t : TypeRow). t.items) one.form))
none_last strings items types row r start TypeLength before near fits one fault = omega (arith, fault.2)
none_last strings items types row r start c before near fits one fault =
    let has = names_there strings items row r one in
    elim fault.1 [
      | inl own ↦ no_fault strings (λ start. All (AreNear items start) types) row.name row.name_len start c has.name before near.own own
      | inr at ↦ no_item_fault strings items types row at.0 start c has before near at.1
    ]

-- ---- the three refusals

pub refused_unwritten : (types : List TypeRow) (items : List ItemRow) (strings : List ℕ) (c : BtfCause) (cause index : ℕ) → IsUnwritten strings types items c index → cause ≡ number_of c
    → IsNoBtf types items strings (record { cause = cause; pos = index; line = 0 })
refused_unwritten types items strings c cause index h is = record {
  none = λ v told.
      let inside = slice_get_within types index h.row h.row_is in
      let r = get_or v index no_record in
      let here : TellsType strings items (get_or types index h.row) r = zip_at (TellsType strings items) types v index h.row no_record told.each inside in
      let same : get_or types index h.row ≡ h.row = get_or_from_slice_get types index h.row h.row h.row_is in
      let Near : TypeRow → Type 0 = AreNear items told.start in
      let fits : sum_by row_size (take index types) + row_size h.row ≤ TYPES_LIMIT =
      omega (
        arith,
        ap row_size same,
        sizes_are types index h.row inside,
        sum_by-take-le row_size types (index + 1),
        sizes_told strings items types v told.each,
        told.valid.size,
      )
      in
      none_last strings items (take index types) h.row r told.start c (All-take Near index types told.near) (subst Near same (told.near index h.row inside)) fits
      (subst (λ (t : TypeRow). TellsType strings items t r) same here) h.fault;
  why = inl (c, (is, inl h));
  line = refl;
}

pub refused_faulty : (types : List TypeRow) (items : List ItemRow) (strings : List ℕ) (p : Plan) (b : List ℕ) (fault : BtfFault) (cause index : ℕ) → IsPlan strings types items p → b ≡ plain p types items strings
    → IsBytes b → Fails b (error.Fault fault) → cause ≡ number_of fault.cause → IsIndexAt types fault.pos index → IsNoBtf types items strings (record { cause = cause; pos = index; line = 0 })
refused_faulty types items strings p b fault cause index plan is bytes fails same at = record {
  none = λ v told.
      let denotes : Denotes b v = subst (λ (x : List ℕ). Denotes x v) (sym is) (told_denotes types items strings p v plan told) in
      let other : error.Fault fault ≡ error.Memory = fails_no_file b (error.Fault fault) v bytes fails denotes in
      absurd (cc);
  why = inl (
    fault.cause,
    (same, inr (record { plan = p; planned = plan; at_offset = fault.pos; first = subst (λ (x : List ℕ). Fails x (error.Fault fault)) is fails; at = at })),
  );
  line = refl;
}

pub refused_other : (types : List TypeRow) (items : List ItemRow) (strings : List ℕ) (p : Plan) (b : List ℕ) (w : List TypeRecord) (index : ℕ) → IsPlan strings types items p → b ≡ plain p types items strings
    → Denotes b w → IsUnlike types items w index → IsNoBtf types items strings (record { cause = 0; pos = index; line = 0 })
refused_other types items strings p b w index plan is denotes unlike = record {
  none = λ v told.
      let same : v ≡ w = denotes_unique b v w (subst (λ (x : List ℕ). Denotes x v) (sym is) (told_denotes types items strings p v plan told)) denotes in
      unlike.none (subst (λ (x : List TypeRecord). AllZip (HasFields items) types x) same (types_fields strings items types v told.each));
  why = inr (
    refl,
    record {
      plan = p;
      planned = plan;
      v = w;
      denotes = subst (λ (x : List ℕ). Denotes x w) is denotes;
      fault = record {
        before = read_back types items strings p b w plan is denotes index unlike.before;
        here = λ row r e row-is r-is told. unlike.here row r e row-is r-is (type_fields strings items row r told);
        inside = unlike.inside;
      };
    },
  );
  line = refl;
}
