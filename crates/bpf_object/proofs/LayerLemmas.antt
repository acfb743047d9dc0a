-- The layers of types, from walks over TYPE_TAG that double their steps.
use Rattle.std.proofs.Common.{◌≡◌, ◌≢◌, ◌⊎◌, ℕ, zero, suc, ◌+◌, ◌*◌, ◌-◌, ◌<◌, ◌≤◌, ◌==◌, false, List, [], ◌∷◌, ◌++◌, Some, length, below_more, inl, inr, refl, sym, ap, subst, ◌∙◌, arith}
use Rattle.std.specs.Prelude.{min, slice_index, slice_get}
use Rattle.std.proofs.Math.{ListN.set, ListN.get_or-append, Seq.get_or-append_seam}
use Rattle.std.proofs.lemmas.{Bool.cases_Bool, Bool.cases_eq, List.get_or_past, List.get_or-set_same, List.get_or-set_other, Option.get_or_from_slice_get}
use Rattle.btf_raw.specs.KindNumbers.{TYPE_TAG}
use Rattle.btf_raw.specs.Frames.{third_word, kind}
use Rattle.btf_types.specs.Sections.{SectionWords}
use Rattle.bpf_object.specs.TypeOrder.{frame_of, tags_from, layer}
use Rattle.bpf_object.specs.declared.type_layers.Walk.{Walk}
use Rattle.bpf_object.specs.private.TypeSteps.{IsTagOf, IsWalk, walk_at, AreWalks, steps_of, AreLayers}
use Rattle.bpf_object.proofs.OrderLayers.{frame_out}

-- a record that is read
pub frame_read : (s : SectionWords) (id : ℕ) (f : List ℕ) → 0 < id → slice_get s.frames (id - 1) ≡ Some f → frame_of s id ≡ f
frame_read s zero f some is = absurd (omega (arith, some))
frame_read s (suc i) f some is =
    let at : suc i - 1 ≡ i = omega arith in
    get_or_from_slice_get s.frames i f [] (ap (λ (k : ℕ). slice_get s.frames k) (sym at) ∙ is)

pub no_tag_out : (s : SectionWords) (id : ℕ) → (id ≡ 0) ⊎ (length s.frames < id) → (kind (frame_of s id) == TYPE_TAG) ≡ false
no_tag_out s id out = let none = frame_out s id out in rw none refl

tags_most : (s : SectionWords) (m id : ℕ) → tags_from s m id ≤ m
tags_most s zero id = omega arith
tags_most s (suc m) id = elim (cases_Bool (kind (frame_of s id) == TYPE_TAG)) [
  | inl tag ↦
      let up : tags_from s (suc m) id ≡ suc (tags_from s m (third_word (frame_of s id))) = rw tag refl in
      omega (arith, up, tags_most s m (third_word (frame_of s id)))
  | inr other ↦ let up : tags_from s (suc m) id ≡ 0 = rw other refl in omega (arith, up)
]

pub layer_most : (s : SectionWords) (id : ℕ) → layer s id ≤ length s.frames + 1
layer_most s id = omega (arith, tags_most s (suc (length s.frames)) id)

-- with less fuel at most that many are counted
less_fuel : (s : SectionWords) (m id : ℕ) → tags_from s m id ≡ min (tags_from s (suc m) id) m
less_fuel s zero id = omega arith
less_fuel s (suc m) id = elim (cases_Bool (kind (frame_of s id) == TYPE_TAG)) [
  | inl tag ↦
      let t = third_word (frame_of s id) in
      let now : tags_from s (suc m) id ≡ suc (tags_from s m t) = rw tag refl in
      let next : tags_from s (suc (suc m)) id ≡ suc (tags_from s (suc m) t) = rw tag refl in
      omega (arith, now, next, less_fuel s m t)
  | inr other ↦
      let now : tags_from s (suc m) id ≡ 0 = rw other refl in
      let next : tags_from s (suc (suc m)) id ≡ 0 = rw other refl in
      omega (arith, now, next)
]

none_layer : (s : SectionWords) (id : ℕ) → (kind (frame_of s id) == TYPE_TAG) ≡ false → layer s id ≡ 0
none_layer s id other = rw other refl

void_layer : (s : SectionWords) → layer s 0 ≡ 0
void_layer s = none_layer s 0 (no_tag_out s 0 (inl refl))

-- ---- first steps

pub tag_walk : (s : SectionWords) (id t : ℕ) → IsTagOf s id t → IsWalk s 1 id (record { steps = 1; to = t })
tag_walk s id t is =
    let n = length s.frames in
    let tag = is.tag in
    let up : layer s id ≡ suc (tags_from s n (third_word (frame_of s id))) = rw tag refl in
    let to : layer s t ≡ layer s (third_word (frame_of s id)) = ap (layer s) is.is in
    record {
      most = omega arith;
      leads = omega (arith, up, to, less_fuel s n (third_word (frame_of s id)));
      goes_on = λ _. omega arith;
    }

pub no_walk : (s : SectionWords) (least id : ℕ) → (kind (frame_of s id) == TYPE_TAG) ≡ false → IsWalk s least id (record { steps = 0; to = 0 })
no_walk s least id other = record {
  most = omega arith;
  leads = omega (arith, none_layer s id other, void_layer s);
  goes_on = λ some. absurd (omega (arith, some));
}

pub ruleset first_steps = (tag_walk, no_walk)

pub walk_out : (s : SectionWords) (least : ℕ) (walks : List Walk) (id : ℕ) → length walks ≡ length s.frames + 1 → length walks ≤ id → IsWalk s least id (walk_at walks id)
walk_out s least walks id whole past =
    let none : walk_at walks id ≡ record { steps = 0; to = 0 } = get_or_past walks id (record { steps = 0; to = 0 }) past in
    subst (IsWalk s least id) (sym none) (no_walk s least id (no_tag_out s id (inr (omega (arith, whole, past)))))

pub walks_pushed : (s : SectionWords) (least : ℕ) (walks : List Walk) (id : ℕ) (walk : Walk) → length walks ≡ id → ((k : ℕ) → k < id → IsWalk s least k (walk_at walks k))
    → IsWalk s least id walk → (k : ℕ) → k < id + 1 → IsWalk s least k (walk_at (walks ++ walk ∷ []) k)
walks_pushed s least walks id walk size each one =
    let none : Walk = record { steps = 0; to = 0 } in
    let seam : walk_at (walks ++ walk ∷ []) id ≡ walk = ap (walk_at (walks ++ walk ∷ [])) (sym size) ∙ get_or-append_seam walks walk [] none in
    below_more _ _
    (λ k lt. subst (IsWalk s least k) (sym (get_or-append walks (walk ∷ []) none k (omega (arith, lt, size)))) (each k lt))
    (subst (IsWalk s least id) (sym seam) one)

-- ---- more steps

pub walk_ended : (s : SectionWords) (least more id : ℕ) (walk : Walk) → IsWalk s least id walk → walk.to ≡ 0 → IsWalk s more id walk
walk_ended s least more id walk is ends = record { most = is.most; leads = is.leads; goes_on = λ some. absurd (omega (arith, some, ends)) }

pub walk_less : (s : SectionWords) (least more id : ℕ) (walk : Walk) → IsWalk s more id walk → least ≤ more → IsWalk s least id walk
walk_less s least more id walk is le = record {
  most = is.most;
  leads = is.leads;
  goes_on = λ some. let far = is.goes_on some in omega (arith, far, le);
}

pub walk_joined : (s : SectionWords) (least id : ℕ) (first second more : Walk) → IsWalk s least id first → IsWalk s least first.to second → 0 < first.to
    → more.steps ≡ min (first.steps + second.steps) (length s.frames + 1) → more.to ≡ second.to → IsWalk s (least * 2) id more
walk_joined s least id first second more one two some steps to =
    let onward : layer s more.to ≡ layer s second.to = ap (layer s) to in
    record {
      most = omega (arith, steps);
      leads = omega (arith, steps, onward, one.leads, two.leads);
      goes_on = λ on.
          let near = one.goes_on some in
          let far = two.goes_on (omega (arith, on, to)) in
          omega (arith, steps, near, far);
    }

-- one walk more goes on
module _ (s : SectionWords) (walks : List Walk) (id : ℕ) (more : Walk) (inside : id < length walks) (some : 0 < (walk_at walks id).to)
    (steps : more.steps ≡ min ((walk_at walks id).steps + (walk_at walks (walk_at walks id).to).steps) (length s.frames + 1))
    (to : more.to ≡ (walk_at walks (walk_at walks id).to).to) where
  same : walk_at (set walks id more) id ≡ more
  same = get_or-set_same walks id more (record { steps = 0; to = 0 }) inside

  other : (k : ℕ) → k ≢ id → walk_at (set walks id more) k ≡ walk_at walks k
  other k apart = get_or-set_other walks id k more (record { steps = 0; to = 0 }) apart

  joined : (least : ℕ) → AreWalks s least walks → IsWalk s (least * 2) id more
  joined least are = walk_joined s least id (walk_at walks id) (walk_at walks (walk_at walks id).to) more (are id) (are (walk_at walks id).to) some steps to

  pub still_walks : (least : ℕ) → AreWalks s least walks → AreWalks s least (set walks id more)
  still_walks least are k = elim (cases_eq k id) [
    | inl e ↦
        let far = walk_less s least (least * 2) id more (joined least are) (omega arith) in
        subst (IsWalk s least k) (sym (ap (walk_at (set walks id more)) e ∙ same)) (subst (λ (j : ℕ). IsWalk s least j more) (sym e) far)
    | inr apart ↦ subst (IsWalk s least k) (sym (other k apart)) (are k)
  ]

  pub more_doubled : (least : ℕ) → AreWalks s least walks → ((k : ℕ) → k < id → IsWalk s (least * 2) k (walk_at walks k))
      → (k : ℕ) → k < id + 1 → IsWalk s (least * 2) k (walk_at (set walks id more) k)
  more_doubled least are before =
      below_more _ _
      (λ k lt. subst (IsWalk s (least * 2) k) (sym (other k (omega (arith, lt)))) (before k lt))
      (subst (IsWalk s (least * 2) id) (sym same) (joined least are))

-- ---- layers

steps_are : (walks : List Walk) (id : ℕ) → slice_index (steps_of walks) id ≡ (walk_at walks id).steps
steps_are [] id = refl
steps_are (w ∷ walks) zero = refl
steps_are (w ∷ walks) (suc id) = steps_are walks id

pub layers_found : (s : SectionWords) (walks : List Walk) → AreWalks s (length s.frames + 1) walks → AreLayers s (steps_of walks)
layers_found s walks are id le =
    let walk = walk_at walks id in
    let is = are id in
    let most = is.most in
    let leads = is.leads in
    elim (cases_eq walk.to 0) [
      | inl ends ↦
          let void : layer s walk.to ≡ 0 = ap (layer s) ends ∙ void_layer s in
          omega (arith, steps_are walks id, most, leads, void)
      | inr on ↦
          let far = is.goes_on (omega (arith, on)) in
          omega (arith, steps_are walks id, most, leads, far)
    ]
