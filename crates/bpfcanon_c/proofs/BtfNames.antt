-- The names of records in the string section of their BTF.
use Rattle.std.proofs.Common.{◌≡◌, ◌<◌, ◌≤◌, ◌+◌, ◌-◌, ◌%◌, ◌^◌, ◌++◌, ◌∙◌, ℕ, suc, List, [], ◌∷◌, length, take, drop, get_or, refl, sym, ap, subst, inl, inr, arith, append_assoc, length-append}
use Rattle.std.specs.Prelude.{slice_index}
use Rattle.std.proofs.lemmas.Bool.Decides.{nat_tests}
use Rattle.std.proofs.lemmas.List.{take-append-drop, take_at, take-take, drop_at, drop-take, drop-drop, length-take, length-take-le, length-drop, get_or-take, get_or-drop}
use Rattle.btf_raw.specs.{Header.HasNulEnds, Names.NameAt}
use Rattle.btf_types.specs.Names.{IsName}
use Rattle.bpfcanon_c.specs.declared.btf_plain.NamesPart.{NamesPart}
use Rattle.bpfcanon_c.specs.BtfSaying.{IsNamed}
use Rattle.bpfcanon_c.specs.BtfPlain.{name_word, names_section, IsNamesPart, HoldsName}

-- the offset of a name that isn't empty
name_word_is : (start at len : ℕ) → 0 < len → name_word start at len ≡ (at - start) % 2 ^ 24 + 1
name_word_is start at len some = grind (arith, nat_tests)

pub name_word_low : (start at len : ℕ) → name_word start at len < 2 ^ 32
name_word_low start at len = grind (arith, nat_tests)

-- bytes that begin with a name and a NUL have it as a string
text_in : (front body name : List ℕ) (k : ℕ) → k ≤ length body → take (length name + 1) (drop k body) ≡ name ++ 0 ∷ [] → (b : ℕ) → IsName name → NameAt (b ∷ body) (k + 1) name
text_in front body name k inside e b is =
    let rest = drop (length name + 1) (drop k body) in
    let cut : body ≡ take k body ++ (name ++ 0 ∷ []) ++ rest =
    sym (take-append-drop k body) ∙ ap (λ (t : List ℕ). take k body ++ t) (sym (take-append-drop (length name + 1) (drop k body)) ∙ ap (λ (t : List ℕ). t ++ rest) e)
    ∙ sym (append_assoc (take k body) (name ++ 0 ∷ []) rest)
    in
    record {
      text = record {
        without_nul = is.without_nul;
        before = b ∷ take k body;
        after = rest;
        at_offset = omega (arith, length-take-le k body inside);
        is_there = ap (λ (t : List ℕ). b ∷ t) (cut ∙ ap (λ (t : List ℕ). t ++ rest) (sym (append_assoc (take k body) name (0 ∷ []))) ∙ append_assoc (take k body ++ name) (0 ∷ []) rest);
      };
      utf8 = is.utf8;
    }

-- the bytes of a part from an offset on are those of the strings
part_behind : (strings : List ℕ) (start at k m : ℕ) → k ≤ m → start + k ≡ at → drop k (take m (drop start strings)) ≡ take (m - k) (drop at strings)
part_behind strings start at k m inside e =
    let parts : k + (m - k) ≡ m = omega arith in
    ap (λ (j : ℕ). drop k (take j (drop start strings))) (sym parts) ∙ drop-take k (m - k) (drop start strings)
    ∙ ap (λ (t : List ℕ). take (m - k) t) (drop-drop k start strings ∙ ap (λ (j : ℕ). drop j strings) e)

-- a name that the part holds is in the section, at the offset that is written
pub named_in : (strings : List ℕ) (p : NamesPart) (at : ℕ) (name : List ℕ) → IsNamesPart strings p → HoldsName p at (length name) → IsName name → IsNamed strings at name
    → NameAt (names_section strings p) (name_word p.start at (length name)) name
named_in strings p at [] part holds is named = record {
  text = record { without_nul = is.without_nul; before = []; after = take (p.end - p.start) (drop p.start strings); at_offset = refl; is_there = refl };
  utf8 = is.utf8;
}
named_in strings p at (c ∷ cs) part holds is (inl e) = absurd cc
named_in strings p at (c ∷ cs) part holds is (inr e) =
    let name = c ∷ cs in
    let n = length name in
    let some : 0 < n = omega arith in
    let low = holds.after some in
    let high = holds.before some in
    let k = at - p.start in
    let m = p.end - p.start in
    let body = take m (drop p.start strings) in
    let short = part.short in
    let at_offset : name_word p.start at n ≡ k + 1 = name_word_is p.start at n some ∙ omega arith in
    let behind = part_behind strings p.start at k m (omega arith) (omega arith) in
    let there : take (n + 1) (drop k body) ≡ name ++ 0 ∷ [] = ap (λ (t : List ℕ). take (n + 1) t) behind ∙ take-take (n + 1) (m - k) (drop at strings) (omega arith) ∙ e in
    let long : length body ≡ m = length-take-le m (drop p.start strings) (omega (arith, length-drop p.start strings, part.inside, part.order)) in
    subst (λ (j : ℕ). NameAt (0 ∷ body) j name) (sym at_offset) (text_in [] body name k (omega arith) there 0 is)

-- a name that is read where it was written is at its offset in the strings
pub name_back : (strings : List ℕ) (p : NamesPart) (at : ℕ) (name : List ℕ) → IsNamesPart strings p → HoldsName p at (length name)
    → NameAt (names_section strings p) (name_word p.start at (length name)) name → IsNamed strings at name
name_back strings p at [] part holds read = inl refl
name_back strings p at (c ∷ cs) part holds read =
    let name = c ∷ cs in
    let n = length name in
    let some : 0 < n = omega arith in
    let low = holds.after some in
    let high = holds.before some in
    let short = part.short in
    let k = at - p.start in
    let m = p.end - p.start in
    let body = take m (drop p.start strings) in
    let text = read.text in
    let at_offset : length text.before ≡ suc k = omega (arith, text.at_offset, name_word_is p.start at n some) in
    let there : drop k body ≡ (name ++ 0 ∷ []) ++ text.after =
    ap (λ (t : List ℕ). drop (suc k) t) (text.is_there ∙ append_assoc text.before name (0 ∷ text.after)) ∙ drop_at text.before (name ++ 0 ∷ text.after) (suc k) at_offset
    ∙ sym (append_assoc name (0 ∷ []) text.after)
    in
    let behind = part_behind strings p.start at k m (omega arith) (omega arith) in
    inr (
    sym (take-take (n + 1) (m - k) (drop at strings) (omega arith)) ∙ ap (λ (t : List ℕ). take (n + 1) t) (sym behind ∙ there)
    ∙ take_at (name ++ 0 ∷ []) text.after (n + 1) (length-append name (0 ∷ []))
    )

-- ---- the ends of the section

ends_of : (body : List ℕ) → (0 < length body → get_or body (length body - 1) 0 ≡ 0) → HasNulEnds (0 ∷ body)
ends_of [] last = record { some = omega arith; first = refl; last = refl }
ends_of (b ∷ bs) last =
    let at : length (0 ∷ b ∷ bs) - 1 ≡ suc (length bs) = omega arith in
    let same : length (b ∷ bs) - 1 ≡ length bs = omega arith in
    record {
      some = omega arith;
      first = refl;
      last = ap (λ (j : ℕ). slice_index (0 ∷ b ∷ bs) j) at ∙ ap (λ (j : ℕ). get_or (b ∷ bs) j 0) (sym same) ∙ last (omega arith);
    }

pub section_ends : (strings : List ℕ) (p : NamesPart) → IsNamesPart strings p → HasNulEnds (names_section strings p)
section_ends strings p part =
    let m = p.end - p.start in
    let body = take m (drop p.start strings) in
    let long : length body ≡ m = length-take-le m (drop p.start strings) (omega (arith, length-drop p.start strings, part.inside, part.order)) in
    ends_of body (λ some.
    let last : p.start + (length body - 1) ≡ p.end - 1 = omega (arith, part.order) in
    get_or-take m (drop p.start strings) (length body - 1) 0 (omega arith) ∙ get_or-drop p.start strings (length body - 1) 0
    ∙ ap (λ (j : ℕ). slice_index strings j) last ∙ part.nul (omega arith))

pub section_long : (strings : List ℕ) (p : NamesPart) → IsNamesPart strings p → length (names_section strings p) ≤ 16777216
section_long strings p part = omega (arith, length-take (p.end - p.start) (drop p.start strings), part.short, part.order)
