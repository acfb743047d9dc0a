-- Names that are appended by runs of unescaped bytes.
use Rattle.std.proofs.Common.{◌≡◌, ℕ, suc, ◌+◌, ◌-◌, ◌<◌, ◌≤◌, List, [], ◌∷◌, ◌++◌, length, take, drop, get_or, Bool, false, refl, sym, ap, ◌∙◌, arith, append_assoc, append-nil, length-take}
use Rattle.std.specs.List.{flat_map}
use Rattle.std.proofs.{lemmas.List.drop-append-le, lemmas.List.drop-take, lemmas.List.drop_all, Math.Seq.take-suc}
use Rattle.bpf_text.specs.btf.BtfText.{needs_backslash, is_control, quoted_byte}
use Rattle.bpf_text.proofs.BtfLemmas.AppendingLemmas.{one_more}

-- what the tests of a byte say if both are false
pub plain_byte : (b : ℕ) (r t : Bool) → r ≡ needs_backslash b → r ≡ false → t ≡ is_control b → t ≡ false → quoted_byte b ≡ b ∷ []
plain_byte b r t e f g h =
    let first : needs_backslash b ≡ false = sym e ∙ f in
    let second : is_control b ≡ false = sym g ∙ h in rw (first, second) refl

-- an unescaped byte makes the run longer
pub run_longer : (base text bytes : List ℕ) (start at : ℕ) → start ≤ at → at < length bytes → quoted_byte (get_or bytes at 0) ≡ get_or bytes at 0 ∷ []
    → text ++ drop start (take at bytes) ≡ base ++ flat_map quoted_byte (take at bytes)
    → text ++ drop start (take (at + 1) bytes) ≡ base ++ flat_map quoted_byte (take (at + 1) bytes)
run_longer base text bytes start at low inside plain e =
    let b = get_or bytes at 0 in
    let next : at + 1 ≡ suc at = omega arith in
    let more : take (at + 1) bytes ≡ take at bytes ++ b ∷ [] = rw next (take-suc bytes at 0 inside) in
    let run : drop start (take (at + 1) bytes) ≡ drop start (take at bytes) ++ b ∷ [] =
    ap (drop start) more ∙ drop-append-le start (take at bytes) (b ∷ []) (omega (arith, length-take at bytes)) in
    ap (λ (t : List ℕ). text ++ t) run
    ∙ sym (append_assoc text (drop start (take at bytes)) (b ∷ []))
    ∙ ap (λ (t : List ℕ). t ++ b ∷ []) e
    ∙ ap (λ (t : List ℕ). (base ++ flat_map quoted_byte (take at bytes)) ++ t) (sym plain)
    ∙ one_more quoted_byte base bytes at 0 inside

-- another byte ends the run
pub run_ended : (base text run mid out bytes : List ℕ) (start at : ℕ) → start ≤ at → at < length bytes
    → text ++ drop start (take at bytes) ≡ base ++ flat_map quoted_byte (take at bytes)
    → run ≡ take (at - start) (drop start bytes) → mid ≡ text ++ run → out ≡ mid ++ quoted_byte (get_or bytes at 0)
    → out ++ drop (at + 1) (take (at + 1) bytes) ≡ base ++ flat_map quoted_byte (take (at + 1) bytes)
run_ended base text run mid out bytes start at low inside e re me oe =
    let b = get_or bytes at 0 in
    let whole : start + (at - start) ≡ at = omega arith in
    let same : run ≡ drop start (take at bytes) = re ∙ sym (drop-take start (at - start) bytes) ∙ ap (λ (n : ℕ). drop start (take n bytes)) whole in
    let none : drop (at + 1) (take (at + 1) bytes) ≡ [] = drop_all (at + 1) (take (at + 1) bytes) (omega (arith, length-take (at + 1) bytes)) in
    ap (λ (t : List ℕ). out ++ t) none
    ∙ append-nil out
    ∙ oe
    ∙ ap (λ (t : List ℕ). t ++ quoted_byte b) (me ∙ ap (λ (t : List ℕ). text ++ t) same ∙ e)
    ∙ one_more quoted_byte base bytes at 0 inside
