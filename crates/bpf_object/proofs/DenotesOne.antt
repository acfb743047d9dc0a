-- A file denotes at most one object.
use Rattle.std.proofs.Common.{◌≡◌, ℕ, ◌++◌, List, [], Option, Some, None, refl, sym, ap, subst, ◌∙◌, arith}
use Rattle.bpf_words.specs.declared.Order.{Order}
use Rattle.btf_raw.specs.Frames.{section_of}
use Rattle.btf_raw.proofs.{Cuts.cut_unique, Frames.frames_cancel}
use Rattle.btf_types.specs.{Denotes.HoldsSections, Sections.SectionWords}
use Rattle.btf_types.proofs.Denoting.{nothing_is_no_frame}
use Rattle.bpf_object.specs.Objects.{ObjectTypes, Object}
use Rattle.bpf_object.specs.TypeOrder.{new_number, IsOrder, ordered}
use Rattle.bpf_object.proofs.OrderLayers.{one_order}
use Rattle.bpf_object.specs.Denotes.{types_of, extension_of, object_types, TypesAre, object_of, Denotes}

pub same_words : (s t : SectionWords) → s.order ≡ t.order → s.strings ≡ t.strings → s.frames ≡ t.frames → s ≡ t
same_words s t a b c = λ k. record { order = a k; strings = b k; frames = c k }

-- a file can be cut into frames in one way
pub words_one : (b : List ℕ) (s t : SectionWords) → HoldsSections b s → HoldsSections b t → s ≡ t
words_one b s t p q =
    let cut = cut_unique b s.order t.order (section_of s.order s.frames) s.strings (section_of t.order t.frames) t.strings p.cut q.cut in
    let sections : section_of t.order s.frames ++ [] ≡ section_of t.order t.frames ++ [] =
    ap (λ (types : List ℕ). types ++ []) (ap (λ (o : Order). section_of o s.frames) (sym cut.order) ∙ cut.types) in
    let frames = frames_cancel t.order s.frames t.frames [] [] p.each q.each (nothing_is_no_frame t.order) (nothing_is_no_frame t.order) sections in
    same_words s t cut.order cut.strings frames.frames

pub types_one : (b : List ℕ) (x y : Option ObjectTypes) → TypesAre b x → TypesAre b y → x ≡ y
types_one b None None p q = refl
types_one b None (Some t) p q = let none = p.0 in let some = q.there in absurd (omega (arith, none, some))
types_one b (Some t) None p q = let some = p.there in let none = q.0 in absurd (omega (arith, none, some))
types_one b (Some t) (Some u) p q =
    let same = words_one (types_of b).bytes p.sections q.sections p.types.sections q.types.sections in
    let ids = one_order q.sections p.ids q.ids (subst (λ (s : SectionWords). IsOrder s p.ids) same p.sorted) q.sorted in
    ap Some
    (p.whole ∙ ap (λ (s : SectionWords). object_types (new_number p.ids) (ordered p.ids s) (extension_of b s.strings)) same
    ∙ ap (λ (o : List ℕ). object_types (new_number o) (ordered o q.sections) (extension_of b q.sections.strings)) ids
    ∙ sym q.whole)

pub denotes_one : (b : List ℕ) (x y : Object) → Denotes b x → Denotes b y → x ≡ y
denotes_one b x y p q = p.whole ∙ ap (object_of b) (types_one b x.types y.types p.types q.types) ∙ sym q.whole
