-- The hash of each mnemonic leads to its entry in the table. A test that all entries pass is therefore passed by all mnemonics.
use Rattle.std.proofs.Common.{◌≡◌, ◌≢◌, ℕ, zero, suc, Bool, true, false, List, [], ◌∷◌, Option, IfNone, get_or, eqb, refl, sym, ap, ◌∙◌, subst}
use Rattle.std.specs.{List.list_all, Cmp.Lexicographic.pointwise, Bool.then_some}
use Rattle.bpf_insn.specs.declared.insn.Width.TheVariants.{W32, W64}
use Rattle.bpf_insn.specs.declared.insn.Size.TheVariants as size
use Rattle.bpf_insn.specs.declared.insn.SmallSize.TheVariants as small
use Rattle.bpf_insn.specs.declared.insn.AluOp.TheVariants as alu
use Rattle.bpf_insn.specs.declared.insn.BranchOp.TheVariants as branch
use Rattle.bpf_insn.specs.declared.insn.MovsxForm.TheVariants as movsx
use Rattle.bpf_insn.specs.declared.insn.SwapKind.TheVariants as swap
use Rattle.bpf_insn.specs.declared.insn.SwapBits.TheVariants.{B16}
use Rattle.bpf_insn.specs.declared.insn.AtomicOp.TheVariants as atomic
use Rattle.bpf_text.specs.declared.insn.mnemonic.WideKind.TheVariants as kind
use Rattle.bpf_text.specs.declared.insn.{mnemonic.Mnemonic.Mnemonic, mnemonic.TheConstants.ALL, mnemonic_hash.TheConstants.INDEX_BY_HASH}
use Rattle.bpf_text.specs.declared.insn.mnemonic.Mnemonic.TheVariants.{Alu, Movsx, Neg, Swap, Branch, Exit, Load, LoadSigned, StoreImm, StoreReg, Atomic, Wide, PacketAbs, PacketInd}
use Rattle.bpf_text.specs.insn.{Mnemonics.text_of_mnemonic, MnemonicHash.hash_of}
use Rattle.std.proofs.lemmas.{Bool.and_parts, Bool.false≢true, Bool.Decides.Decides-eqb, Slice.Eq.slice_eq-Decides}

-- the entry to which the hash of a token leads
abbrev pub entry : List ℕ → Mnemonic → Mnemonic
entry text other = get_or ALL (get_or INDEX_BY_HASH (hash_of text) 0) other

pub stands : (m d : Mnemonic) → entry (text_of_mnemonic m) d ≡ m
stands (Alu W32 alu.Add) d = refl
stands (Alu W64 alu.Add) d = refl
stands (Movsx movsx.W32From8) d = refl
stands (Neg W32) d = refl
stands (Swap swap.Le B16) d = refl
stands (Swap swap.Be B16) d = refl
stands (Swap swap.Swap B16) d = refl
stands (Branch W32 branch.Eq) d = refl
stands (Branch W64 branch.Eq) d = refl
stands (Load size.B) d = refl
stands (LoadSigned small.B) d = refl
stands (StoreImm size.B) d = refl
stands (StoreReg size.B) d = refl
stands (Atomic W32 atomic.Add) d = refl
stands (Atomic W64 atomic.Add) d = refl
stands (Wide kind.Number) d = refl
stands (PacketAbs small.B) d = refl
stands (PacketInd small.B) d = refl
stands _ d = refl

pub one_mnemonic : (m n : Mnemonic) → text_of_mnemonic m ≡ text_of_mnemonic n → m ≡ n
one_mnemonic m n e = sym (stands m Exit) ∙ ap (λ w. entry w Exit) e ∙ stands n Exit

-- a token isn't a mnemonic if it differs from the mnemonic at its hash
pub none_of_hash : (token : List ℕ) (k : ℕ) (m d : Mnemonic) → k ≡ get_or INDEX_BY_HASH (hash_of token) 0
    → token ≢ text_of_mnemonic (get_or ALL k d) → token ≢ text_of_mnemonic m
none_of_hash token k m d p other same =
    let led : k ≡ get_or INDEX_BY_HASH (hash_of (text_of_mnemonic m)) 0 = p ∙ ap (λ t. get_or INDEX_BY_HASH (hash_of t) 0) same in
    other (same ∙ ap text_of_mnemonic (sym (ap (λ n. get_or ALL n d) led ∙ stands m d)))

-- likewise for what is returned after the comparison of the token with the mnemonic at its hash
pub none_but_entry : (token text : List ℕ) (k : ℕ) (same : Bool) (d : Mnemonic) (found : Option Mnemonic) → k ≡ get_or INDEX_BY_HASH (hash_of token) 0
    → text ≡ text_of_mnemonic (get_or ALL k d) → same ≡ pointwise eqb token text → found ≡ then_some same (get_or ALL k d) → IfNone found ((m : Mnemonic) → token ≢ text_of_mnemonic m)
none_but_entry token text k true d found p t e is = subst (λ x. IfNone x ((m : Mnemonic) → token ≢ text_of_mnemonic m)) (sym is) tt
none_but_entry token text k false d found p t e is =
    subst (λ x. IfNone x ((m : Mnemonic) → token ≢ text_of_mnemonic m)) (sym is)
    (λ m. none_of_hash token k m d p (λ equal. false≢true ((slice_eq-Decides Decides-eqb token text false e).1 (equal ∙ sym t))))

at_entry : (test : Mnemonic → Bool) (ms : List Mnemonic) (k : ℕ) (d : Mnemonic) → list_all test ms ≡ true → test d ≡ true → test (get_or ms k d) ≡ true
at_entry test [] k d h e = e
at_entry test (m ∷ ms) zero d h e = (and_parts (test m) (list_all test ms) h).0
at_entry test (m ∷ ms) (suc k) d h e = at_entry test ms k d (and_parts (test m) (list_all test ms) h).1 e

-- a test that all entries pass is passed by each mnemonic
pub each_passes : (test : Mnemonic → Bool) → list_all test ALL ≡ true → test Exit ≡ true → (m : Mnemonic) → test m ≡ true
each_passes test h e m =
    subst (λ (x : Mnemonic). test x ≡ true) (stands m Exit) (at_entry test ALL (get_or INDEX_BY_HASH (hash_of (text_of_mnemonic m)) 0) Exit h e)
