-- Lines whose names are written chunk by chunk.
use Rattle.std.proofs.Common.{◌≡◌, ◌<◌, ◌≤◌, ◌+◌, ◌-◌, ◌++◌, ◌∙◌, ℕ, Bool, true, false, List, [], ◌∷◌, Option, length, take, drop, codes, sym, ap, subst, arith, append_assoc, length-append, rules}
use Rattle.std.specs.Prelude.{Result, Err, if◌then◌else◌}
use Rattle.btf_types.specs.Values.{TypeHead, TypeItem}
use Rattle.std.specs.List.{flat_map}
use Rattle.std.proofs.{lemmas.List.take-append-drop, lemmas.List.Concat.flat_map-append, Math.Seq.take-add}
use Rattle.bpf_text.specs.btf.BtfText.{head_line, is_control, item_line, item_text, needs_backslash, quoted_byte}
use Rattle.bpfcanon.specs.declared.commands.pieces.PutError.{PutError, TheVariants.Memory}
use Rattle.bpfcanon.specs.{Devices.Change, Devices.change, commands.Pieces.Gathered, commands.Pieces.Gathers, commands.Pieces.Stopped}
use Rattle.bpfcanon.proofs.CommandsLemmas.PiecesLemmas.{front_more, gathered_more, gathers_front, gathers_then}

-- ---- the chunks of a name

some_of_two : (b : Bool) (x y : List ℕ) → 0 < length x → 0 < length y → 0 < length (if b then x else y)
some_of_two true x y p q = p
some_of_two false x y p q = q

some_byte : (b : ℕ) → 0 < length (quoted_byte b)
some_byte b = some_of_two (needs_backslash b) _ _ (omega arith) (some_of_two (is_control b) _ _ (omega arith) (omega arith))

-- the bytes of a chunk between the quotes aren't empty
pub some_quoted : (chunk : List ℕ) → 0 < length chunk → 0 < length (flat_map quoted_byte chunk)
some_quoted [] some = some
some_quoted (b ∷ t) some = omega (arith, some_byte b, length-append (quoted_byte b) (flat_map quoted_byte t))

-- one chunk more
chunk_more : (old name : List ℕ) (start end : ℕ) → start ≤ end
    → (old ++ flat_map quoted_byte (take start name)) ++ flat_map quoted_byte (take (end - start) (drop start name)) ≡ old ++ flat_map quoted_byte (take end name)
chunk_more old name start end low =
    let chunk = take (end - start) (drop start name) in
    let whole : start + (end - start) ≡ end = omega (arith, low) in
    grind (arith, append_assoc, flat_map-append, take-add)

-- the bytes that are still to be appended
name_rest : (old name : List ℕ) (end : ℕ) → (old ++ flat_map quoted_byte (take end name)) ++ flat_map quoted_byte (drop end name) ≡ old ++ flat_map quoted_byte name
name_rest old name end =
    append_assoc old (flat_map quoted_byte (take end name)) (flat_map quoted_byte (drop end name))
    ∙ ap (λ (t : List ℕ). old ++ t) (sym (flat_map-append quoted_byte (take end name) (drop end name)))
    ∙ ap (λ (l : List ℕ). old ++ flat_map quoted_byte l) (take-append-drop end name)

module _ (a b c : Option (List ℕ)) (f g h : ℕ) (held kept old name : List ℕ) (start end : ℕ) (low : start ≤ end) (p : Gathered (change a b f g) held (old ++ flat_map quoted_byte (take start name))) where
  -- one chunk more is gathered
  pub name_more : Gathered (change b c g h) kept (held ++ flat_map quoted_byte (take (end - start) (drop start name))) → Gathered (change a c f h) kept (old ++ flat_map quoted_byte (take end name))
  name_more q = subst (Gathered (change a c f h) kept) (chunk_more old name start end low) (gathered_more a b c f g h held kept _ _ p q)

  -- the chunk couldn't be written
  pub name_stopped : (e : PutError) → Gathers (change b c g h) kept (held ++ flat_map quoted_byte (take (end - start) (drop start name))) (Err e)
      → Gathers (change a c f h) kept (old ++ flat_map quoted_byte name) (Err e)
  name_stopped e q =
      let chunk = take (end - start) (drop start name) in
      let part : Gathers (change a c f h) kept ((old ++ flat_map quoted_byte (take start name)) ++ flat_map quoted_byte chunk) (Err e) = search (rules, gathers_then) in
      let whole : ((old ++ flat_map quoted_byte (take start name)) ++ flat_map quoted_byte chunk) ++ flat_map quoted_byte (drop end name) ≡ old ++ flat_map quoted_byte name = grind (arith, chunk_more, name_rest) in
      subst (λ (t : List ℕ). Gathers (change a c f h) kept t (Err e)) whole (gathers_front (change a c f h) kept _ (flat_map quoted_byte (drop end name)) e part)

-- ---- lines aren't empty

pub some_head : (id : ℕ) (head : TypeHead) (items : ℕ) → 0 < length (head_line id head items)
some_head id head items = grind arith

pub some_item : (signed : Bool) (item : TypeItem) → 0 < length (item_line signed item)
some_item signed item = omega (arith, length-append (item_text signed item) (codes "\n"))

-- ---- a line in three parts

-- a part that ends a line isn't empty
pub some_end : (fields : List ℕ) → 0 < length (fields ++ codes "\n")
some_end fields = omega (arith, length-append fields (codes "\n"))

module _ (old first name last line : List ℕ) (whole : first ++ name ++ last ≡ line) where
  joined : ((old ++ first) ++ name) ++ last ≡ old ++ line
  joined = grind (arith, append_assoc)

  -- the name couldn't be written
  pub name_unwritten : (sink : Change) (held shown kept : List ℕ) (e : PutError) → held ≡ old ++ first → shown ≡ name → Gathers sink kept (held ++ shown) (Err e)
      → Gathers sink kept (old ++ line) (Err e)
  name_unwritten sink held shown kept e opened same q = grind (arith, joined, gathers_front)

  -- memory ran out after the name
  pub last_refused : (a b : Option (List ℕ)) (f g : ℕ) (held : List ℕ) → 0 < length last → Gathered (change a b f g) held ((old ++ first) ++ name) → Stopped (change a b f g) (old ++ line) Memory
  last_refused a b f g held some p = subst (λ (t : List ℕ). Stopped (change a b f g) t Memory) joined (front_more a b f g held ((old ++ first) ++ name) last some p)

  module _ (a b c : Option (List ℕ)) (f g h : ℕ) (held kept : List ℕ) (p : Gathered (change a b f g) held ((old ++ first) ++ name)) where
    -- the line is gathered, or couldn't be written
    pub last_gathers : (r : Result (Unit {0}) PutError) → Gathers (change b c g h) kept (held ++ last) r → Gathers (change a c f h) kept (old ++ line) r
    last_gathers r q = subst (λ (t : List ℕ). Gathers (change a c f h) kept t r) joined (gathers_then a b c f g h held kept _ _ r p q)
