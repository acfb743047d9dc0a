-- The names of encoded records are in the section: what a parser needs so that their shared table fits.
use Rattle.std.proofs.Common.{◌≡◌, ℕ, ◌≤◌, List, [], ◌∷◌, length, map, refl, ap, arith, Some}
use Rattle.std.specs.{Prelude.slice_get, List.All, List.AllZip, List.flat_map}
use Rattle.std.proofs.lemmas.List.Elements.{All-nil, All-cons, All-append}
use Rattle.btf_raw.specs.{Names.TextAt, Header.HasNulEnds}
use Rattle.btf_types.specs.strings.{SharedNames.shared_table, StringTable.string_table, TableLaws.HasName, TableLaws.EncodedTableFits}
use Rattle.btf_types.specs.Values.{TypeItem, Member, EnumValue, Value64, Param, Entry, TypeRecord}
use Rattle.btf_types.specs.{Names.head_name, Names.item_name, Names.record_names, Encoding.ItemEncodes, Encoding.Encodes, Encoding.IsRecord}
use Rattle.btf_types.proofs.StringLemmas.TableLaws.{shared_is_shortest, first_is}

first_byte : (section : List ℕ) → slice_get section 0 ≡ Some 0 → TextAt section 0 []
first_byte [] e = absurd cc
first_byte (b ∷ rest) e = record { without_nul = λ i h q. omega (arith, h); before = []; after = rest; at_offset = refl; is_there = (let z : b ≡ 0 = cc in ap (λ (n : ℕ). n ∷ rest) z) }

-- the empty name is at the first byte
pub empty_there : (section : List ℕ) → HasNulEnds section → HasName section []
empty_there section ends = (0, record { text = first_byte section (first_is section ends); utf8 = ([], (refl, refl)) })

-- Rec is a record or an item, R that these bytes or words encode it with names from the section
pub names_there : {Rec : Type 0} (section : List ℕ) (names_of : Rec → List (List ℕ)) (R : Rec → List ℕ → Type 0)
    → ((r : Rec) (s : List ℕ) → R r s → All (HasName section) (names_of r))
    → (v : List Rec) (ss : List (List ℕ)) → AllZip R v ss → All (HasName section) (flat_map names_of v)
names_there section names_of R each [] [] z = All-nil (HasName section)
names_there section names_of R each [] (s ∷ ss) z = absurd z
names_there section names_of R each (r ∷ v) [] z = absurd z
names_there section names_of R each (r ∷ v) (s ∷ ss) z =
    All-append (HasName section) (names_of r) (flat_map names_of v) (each r s z.0) (names_there section names_of R each v ss z.1)

-- so what a section encodes has a shared table within the section's limit
pub encoded_fits : {Rec : Type 0} (limit : ℕ) (section : List ℕ) (names_of : Rec → List (List ℕ)) (R : Rec → List ℕ → Type 0)
    → ((r : Rec) (s : List ℕ) → R r s → All (HasName section) (names_of r))
    → (v : List Rec) (ss : List (List ℕ)) → HasNulEnds section → length section ≤ limit → AllZip R v ss → length (shared_table (flat_map names_of v)) ≤ limit
encoded_fits limit section names_of R each v ss ends short z =
    omega (arith, short, shared_is_shortest (flat_map names_of v) section ends (names_there section names_of R each v ss z))

-- ---- the records of a section

item_name_there : (strings : List ℕ) (flag : ℕ) (x : TypeItem) (ws : List ℕ) → HasNulEnds strings → ItemEncodes strings flag x ws → HasName strings (item_name x)
item_name_there strings flag (Member name target bit_offset width) ws ends s = (s.0, s.2)
item_name_there strings flag (EnumValue name value) ws ends s = (s.0, s.1)
item_name_there strings flag (Value64 name value) ws ends s = (s.0, s.1)
item_name_there strings flag (Param name target) ws ends s = (s.0, s.1)
item_name_there strings flag (Entry target offset size) ws ends s = empty_there strings ends

item_names_there : (strings : List ℕ) (flag : ℕ) (xs : List TypeItem) (wss : List (List ℕ)) → HasNulEnds strings → AllZip (ItemEncodes strings flag) xs wss → All (HasName strings) (map item_name xs)
item_names_there strings flag [] [] ends z = All-nil (HasName strings)
item_names_there strings flag [] (ws ∷ wss) ends z = absurd z
item_names_there strings flag (x ∷ xs) [] ends z = absurd z
item_names_there strings flag (x ∷ xs) (ws ∷ wss) ends z =
    All-cons (HasName strings) (item_name x) (map item_name xs) (item_name_there strings flag x ws ends z.0) (item_names_there strings flag xs wss ends z.1)

pub record_names_there : (strings : List ℕ) (r : TypeRecord) (words : List ℕ) → HasNulEnds strings → Encodes strings r words → All (HasName strings) (record_names r)
record_names_there strings r words ends s =
    All-cons (HasName strings) (head_name r.head) (map item_name r.items) (s.name_offset, s.name) (item_names_there strings s.flag r.items s.item_words ends s.items)

-- the table of records that words encode
pub encoded_table : (limit : ℕ) (strings : List ℕ) (v : List TypeRecord) (frames : List (List ℕ)) → HasNulEnds strings → length strings ≤ limit → AllZip (Encodes strings) v frames → length (string_table v) ≤ limit
encoded_table limit strings v frames ends short z =
    encoded_fits limit strings record_names (Encodes strings) (λ r words s. record_names_there strings r words ends s) v frames ends short z

pub encoded_table_fits : EncodedTableFits
encoded_table_fits o strings v encodings ends z =
    encoded_fits (length strings) strings record_names (IsRecord o strings) (λ r bytes s. record_names_there strings r s.0 ends s.1) v encodings ends (omega arith) z
