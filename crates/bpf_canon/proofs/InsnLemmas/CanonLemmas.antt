-- Canonical bytes and files.
use Rattle.std.proofs.Common.{◌≡◌, ◌↔◌, ◌++◌, ◌∙◌, ℕ, Bool, List, [], Result, refl, sym, ap, All, IsTrue, arith}
use Rattle.std.specs.Result.{IfOk}
use Rattle.bpf_words.specs.declared.Order.{Order, TheVariants.Little}
use Rattle.bpf_insn.specs.declared.{insn.Insn.Insn, decode.InsnError.InsnError}
use Rattle.bpf_insn.specs.declared.decode.InsnError.TheVariants as error
use Rattle.bpf_insn.specs.{Table.IsInsn, Encoding.InsnFile, Encoding.file_of}
use Rattle.bpf_insn.proofs.{FileLaws.one_list, FrontLemmas.one_front}
use Rattle.bpf_canon.specs.insn.{FeedState.FeedState, FeedStream.IsLastingFaultOf, FeedStream.Moves, FeedStream.Represents}
use Rattle.bpf_canon.specs.insn.Canonical.{CanonicalBytesAreAccepted, CanonicalBytesAreTheirOwn, CanonicalBytesTellFilesApart, Compares, IsCanonical, NamesFault}
use Rattle.bpf_canon.proofs.InsnLemmas.FrontLaws.{file_front, front-nil}

-- a feed of a complete file wrote its instructions in the order `to`
pub recoded_of : (s t : FeedState) (o to : Order) (bytes written : List ℕ) (l : List Insn) → Represents s o to [] → Moves s t bytes [] written → InsnFile o bytes l
    → written ≡ file_of to l
recoded_of s t o to bytes written l h m file =
    let g = m.gains o to [] h in
    let none = one_front o [] g.before [] g.rest [] g.front (front-nil o) in
    let whole = one_front o bytes l (g.before ++ g.gained) [] g.left (file_front o bytes l file) g.longer in
    let same : l ≡ g.gained = whole.0 ∙ ap (λ (x : List Insn). x ++ g.gained) none.0 in
    g.grows ∙ ap (file_of to) (sym same)

-- what a file was recoded to is that of its one list
pub recoded_once : (o to : Order) (bytes written : List ℕ) (l : List Insn) → (m : List Insn) × (InsnFile o bytes m × (written ≡ file_of to m)) → InsnFile o bytes l
    → written ≡ file_of to l
recoded_once o to bytes written l r file = r.1.1 ∙ ap (file_of to) (one_list o bytes r.0 l r.1.0 file)

-- what a file was recoded to in little-endian order is canonical
pub canonical_of : (o : Order) (bytes : List ℕ) {T E : Type 0} (items : T → List ℕ) (r : Result T E)
    → IfOk r (λ written. (l : List Insn) × (InsnFile o bytes l × (items written ≡ file_of Little l))) → IfOk r (λ canon. IsCanonical o bytes (items canon))
canonical_of o bytes items r h = grind arith

pub accepted : CanonicalBytesAreAccepted
accepted l h = (h, refl)

pub own : CanonicalBytesAreTheirOwn
own o bytes canon c = record { insns = c.insns; file = (c.file.0, c.canonical); canonical = c.canonical }

-- instructions with the same canonical bytes are the same
same_list : (l m : List Insn) → All IsInsn l → All IsInsn m → file_of Little l ≡ file_of Little m → l ≡ m
same_list l m hl hm e = one_list Little (file_of Little l) l m (hl, refl) (hm, e)

pub apart : CanonicalBytesTellFilesApart
apart o p a b l m f g = (λ e. ap (file_of Little) e, λ e. same_list l m f.0 g.0 e)

-- two files compare as the second and the instructions of the first, in the order of the second
pub compares : (o p : Order) (a b : List ℕ) (same : Bool) (l m : List Insn) → InsnFile o a l → InsnFile p b m → (IsTrue same ↔ (b ≡ file_of p l)) → Compares o a p b same
compares o p a b same l m f g r = grind (arith, one_list)

-- ---- errors

-- the bytes of a valid file are without fault
pub names_no_file : (o : Order) (b : List ℕ) (e : InsnError) (l : List Insn) → NamesFault o b e → InsnFile o b l → e ≡ error.Memory
names_no_file o b e l n file = grind arith

-- the fault that a feed of all the bytes returns
pub names_of_feed : (o : Order) (b : List ℕ) (e : InsnError) → IsLastingFaultOf o b e → NamesFault o b e
names_of_feed o b e h = grind arith
