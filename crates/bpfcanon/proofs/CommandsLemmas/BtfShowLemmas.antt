-- The listing of BTF types, which is written in pieces, line by line.
use Rattle.std.proofs.Common.{◌≡◌, ◌<◌, ◌≤◌, ◌+◌, ◌++◌, ◌∙◌, ℕ, Bool, List, [], ◌∷◌, Option, Some, length, take, drop, refl, sym, ap, subst, arith, append_assoc, rules}
use Rattle.std.specs.{Io.KnownBytes.Appends, Prelude.Result, Prelude.Err, Prelude.slice_get, List.flat_map, List.enumerate_from}
use Rattle.std.proofs.{lemmas.List.take-append-drop, lemmas.List.take_all, lemmas.List.Concat.flat_map-append, KnownBytes.Appends-nil}
use Rattle.btf_raw.specs.declared.cause.BtfFault.{BtfFault}
use Rattle.btf_types.specs.{Values.TypeHead, Values.TypeItem, Values.TypeRecord, Denotes.Denotes, Faults.IsFirst, tables.TableWords.record_at}
use Rattle.bpf_text.specs.btf.BtfText.{is_signed, head_line, item_line, record_text, text_of}
use Rattle.bpf_text.proofs.BtfLemmas.BtfTextLemmas.{item_shown, type_shown}
use Rattle.bpfcanon.specs.declared.job.Job.{Job}
use Rattle.bpfcanon.specs.declared.outcome.Outcome.TheVariants as ends
use Rattle.bpfcanon.specs.declared.{commands.pieces.PutError.PutError, verb.Verb.TheVariants.BtfShow}
use Rattle.bpfcanon.specs.{Devices.Change, Devices.IsHealthy, Devices.change, commands.Errors.put_end, commands.BtfReply.shown, commands.BtfReply.unshown, commands.Reply.limit_of}
use Rattle.bpfcanon.specs.commands.Pieces.{Answers, Gathered, Gathers, Stopped, TookText, answered, refused}
use Rattle.bpfcanon.proofs.CommandsLemmas.PiecesLemmas.{gathered_more, gathers_front, gathers_handed, gathers_then, pieces_stopped, puts_then}

-- ---- the items of a type

-- the items that are still to be listed
items_rest : (old : List ℕ) (signed : Bool) (xs : List TypeItem) (n : ℕ)
    → (old ++ flat_map (item_line signed) (take n xs)) ++ flat_map (item_line signed) (drop n xs) ≡ old ++ flat_map (item_line signed) xs
items_rest old signed xs n =
    append_assoc old (flat_map (item_line signed) (take n xs)) (flat_map (item_line signed) (drop n xs))
    ∙ ap (λ (t : List ℕ). old ++ t) (sym (flat_map-append (item_line signed) (take n xs) (drop n xs)))
    ∙ ap (λ (l : List TypeItem). old ++ flat_map (item_line signed) l) (take-append-drop n xs)

module _ (a b c : Option (List ℕ)) (f g h : ℕ) (held kept old : List ℕ) (signed : Bool) (xs : List TypeItem) (k : ℕ) (x : TypeItem) (is : slice_get xs k ≡ Some x) (p : Gathered (change a b f g) held (old ++ flat_map (item_line signed) (take k xs))) where
  -- one item more
  pub items_more : Gathered (change b c g h) kept (held ++ item_line signed x) → Gathered (change a c f h) kept (old ++ flat_map (item_line signed) (take (k + 1) xs))
  items_more q = subst (Gathered (change a c f h) kept) (item_shown old signed xs k x is) (gathered_more a b c f g h held kept _ _ p q)

  -- the last one that could be written
  pub items_stopped : (e : PutError) → Gathers (change b c g h) kept (held ++ item_line signed x) (Err e)
      → Gathers (change a c f h) kept (old ++ flat_map (item_line signed) xs) (Err e)
  items_stopped e q =
      let line : Gathers (change a c f h) kept ((old ++ flat_map (item_line signed) (take k xs)) ++ item_line signed x) (Err e) = search (rules, gathers_then) in
      let whole : ((old ++ flat_map (item_line signed) (take k xs)) ++ item_line signed x) ++ flat_map (item_line signed) (drop (k + 1) xs) ≡ old ++ flat_map (item_line signed) xs = grind (arith, item_shown, items_rest) in
      subst (λ (t : List ℕ). Gathers (change a c f h) kept t (Err e)) whole (gathers_front (change a c f h) kept _ (flat_map (item_line signed) (drop (k + 1) xs)) e line)

-- ---- a type

head_is : (id items : ℕ) (head : TypeHead) (r : TypeRecord) → head ≡ r.head → items ≡ length r.items → head_line id head items ≡ head_line id r.head (length r.items)
head_is id items head r is count = ap (λ (x : TypeHead). head_line id x items) is ∙ ap (head_line id r.head) count

-- the line of a type couldn't be written
pub record_stopped : (sink : Change) (kept old : List ℕ) (id items : ℕ) (head : TypeHead) (r : TypeRecord) (e : PutError) → head ≡ r.head → items ≡ length r.items
    → Gathers sink kept (old ++ head_line id head items) (Err e) → Gathers sink kept (old ++ record_text id r) (Err e)
record_stopped sink kept old id items head r e is count q =
    let first = head_line id r.head (length r.items) in
    let others = flat_map (item_line (is_signed r.head)) r.items in
    let line : Gathers sink kept (old ++ first) (Err e) = subst (λ (t : List ℕ). Gathers sink kept (old ++ t) (Err e)) (head_is id items head r is count) q in
    subst (λ (t : List ℕ). Gathers sink kept t (Err e)) (append_assoc old first others) (gathers_front sink kept (old ++ first) others e line)

-- a type is gathered, or its items couldn't be written
pub record_put : (a b c : Option (List ℕ)) (f g h : ℕ) (held kept old : List ℕ) (id items : ℕ) (head : TypeHead) (signed : Bool) (r : TypeRecord) (put : Result (Unit {0}) PutError)
    → head ≡ r.head → items ≡ length r.items → signed ≡ is_signed head → Gathered (change a b f g) held (old ++ head_line id head items)
    → Gathers (change b c g h) kept (held ++ flat_map (item_line signed) r.items) put → Gathers (change a c f h) kept (old ++ record_text id r) put
record_put a b c f g h held kept old id items head signed r put is count sign p q =
    let first = head_line id r.head (length r.items) in
    let others = flat_map (item_line (is_signed r.head)) r.items in
    let line : Gathered (change a b f g) held (old ++ first) = subst (λ (t : List ℕ). Gathered (change a b f g) held (old ++ t)) (head_is id items head r is count) p in
    let sign_is : signed ≡ is_signed r.head = sign ∙ ap is_signed is in
    let rest : Gathers (change b c g h) kept (held ++ others) put = grind arith in
    subst (λ (t : List ℕ). Gathers (change a c f h) kept t put) (append_assoc old first others) (gathers_then a b c f g h held kept (old ++ first) others put line rest)

-- ---- the types of a table

numbered-append : (n : ℕ) (v w : List TypeRecord) → enumerate_from n (v ++ w) ≡ enumerate_from n v ++ enumerate_from (n + length v) w
numbered-append n [] w = let same : n ≡ n + 0 = omega arith in ap (λ (m : ℕ). enumerate_from m w) same
numbered-append n (r ∷ v) w = grind (arith, (numbered-append (n + 1) v w))

abbrev lines : ℕ × TypeRecord → List ℕ
lines p = record_text p.0 p.1

-- the listing of the types after the first n
abbrev rest_of : List TypeRecord → ℕ → List ℕ
rest_of v n = flat_map lines (enumerate_from (1 + length (take n v)) (drop n v))

types_rest : (v : List TypeRecord) (n : ℕ) → text_of (take n v) ++ rest_of v n ≡ text_of v
types_rest v n =
    sym (flat_map-append lines (enumerate_from 1 (take n v)) (enumerate_from (1 + length (take n v)) (drop n v)))
    ∙ ap (flat_map lines) (sym (numbered-append 1 (take n v) (drop n v)))
    ∙ ap text_of (take-append-drop n v)

module _ (a b c : Option (List ℕ)) (f g h : ℕ) (held kept : List ℕ) (v : List TypeRecord) (i : ℕ) (inside : i < length v) (p : Gathered (change a b f g) held (text_of (take i v))) where
  -- one type more
  pub types_more : Gathered (change b c g h) kept (held ++ record_text (i + 1) (record_at v (i + 1))) → Gathered (change a c f h) kept (text_of (take (i + 1) v))
  types_more q = subst (Gathered (change a c f h) kept) (type_shown v i inside) (gathered_more a b c f g h held kept _ _ p q)

  -- the last one that could be written
  pub types_stopped : (e : PutError) → Gathers (change b c g h) kept (held ++ record_text (i + 1) (record_at v (i + 1))) (Err e)
      → TookText (change a c f h) (text_of v) (Err e)
  types_stopped e q =
      let line : Gathers (change a c f h) kept (text_of (take i v) ++ record_text (i + 1) (record_at v (i + 1))) (Err e) = search (rules, gathers_then) in
      let whole : (text_of (take i v) ++ record_text (i + 1) (record_at v (i + 1))) ++ rest_of v (i + 1) ≡ text_of v = grind (arith, type_shown, types_rest) in
      subst (λ (t : List ℕ). TookText (change a c f h) t (Err e)) whole (gathers_front (change a c f h) kept _ (rest_of v (i + 1)) e line)

-- the sink received the last piece, or a part of it
pub types_put : (a b c : Option (List ℕ)) (f g h : ℕ) (held : List ℕ) (v : List TypeRecord) (i : ℕ) (r : Result (Unit {0}) PutError) → length v ≤ i
    → Gathered (change a b f g) held (text_of (take i v)) → TookText (change b c g h) held r → TookText (change a c f h) (text_of v) r
types_put a b c f g h held v i r done p q =
    subst (λ (w : List TypeRecord). TookText (change a c f h) (text_of w) r) (take_all i v done) (puts_then a b c f g h held (text_of (take i v)) r p q)

-- ---- how btf-show ends

pub btf_done : (j : Job) (input : List ℕ) (sink : Change) (v : List TypeRecord) → j.verb ≡ BtfShow → length input ≤ limit_of BtfShow
    → Denotes input v → Appends sink.old sink.new (text_of v) × IsHealthy sink → Answers j input sink ends.Done
btf_done j input sink v show within types put = answered ends.Done (text_of v) (rw show (shown v within types)) put.0 put.1

pub btf_stopped : (j : Job) (input : List ℕ) (sink : Change) (v : List TypeRecord) (e : PutError) → j.verb ≡ BtfShow → length input ≤ limit_of BtfShow
    → Denotes input v → Stopped sink (text_of v) e → Answers j input sink (put_end e)
btf_stopped j input sink v e show within types put = pieces_stopped j input (text_of v) sink e (rw show refl) (rw show (shown v within types)) put

pub btf_fault : (j : Job) (input : List ℕ) (a : Option (List ℕ)) (f : ℕ) (fault : BtfFault) → j.verb ≡ BtfShow → length input ≤ limit_of BtfShow
    → IsFirst input fault → Answers j input (change a a f f) (ends.BtfFault fault)
btf_fault j input a f fault show within first = answered (ends.BtfFault fault) [] (rw show (unshown fault within first)) (Appends-nil a) refl

-- what the search cites of the ends of btf-show
pub ruleset show_ends = (btf_fault, btf_done, btf_stopped, refused)

-- and of the lines of a type
pub ruleset record_lines = (record_stopped, record_put, gathers_handed)
