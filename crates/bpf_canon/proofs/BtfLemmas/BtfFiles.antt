-- Canonical bytes and BTF files.
use Rattle.std.proofs.Common.{◌≡◌, ◌∙◌, ℕ, List, Result, Ok, Err, refl, sym, ap, subst, arith}
use Rattle.std.specs.Result.{IfOk, IfErr, MatchResult}
use Rattle.bpf_words.specs.{declared.Order.Order, declared.Order.TheVariants.Little, Words.IsBytes}
use Rattle.btf_types.specs.declared.error.BtfError.{BtfError}
use Rattle.btf_types.specs.declared.error.BtfError.TheVariants as error
use Rattle.btf_types.specs.{Values.TypeRecord, tables.Tables.Fails, Valid.IsValid, Denotes.Denotes}
use Rattle.btf_types.proofs.{Denoting.denotes_unique, CheckLemmas.FaultLaws.no_fault_is_accepted}
use Rattle.bpf_canon.specs.btf.{CanonicalBtf.canonical, BtfLaws.IsCanonicalBtf}
use Rattle.bpf_canon.proofs.BtfLemmas.CanonicalFiles.{canonical_denotes}

-- what holds of a value that comes, by what holds of it
pub ok_with : {T E : Type 0} (P Q : T → Type 0) → ((x : T) → P x → Q x) → (r : Result T E) → IfOk r P → IfOk r Q
ok_with P Q f r h = grind arith

pub canonical_is_file : (o : Order) (v : List TypeRecord) (bytes : List ℕ) → IsValid v → bytes ≡ canonical o v → Denotes bytes v
canonical_is_file o v bytes valid e = subst (λ (b : List ℕ). Denotes b v) (sym e) (canonical_denotes o v valid)

-- the canonical bytes of the records of a file
pub canonical_of : (b canon : List ℕ) (v : List TypeRecord) → Denotes b v → canon ≡ canonical Little v → IsCanonicalBtf b canon
canonical_of b canon v d e =
    let accepted : Denotes canon v = subst (λ (c : List ℕ). Denotes c v) (sym e) (canonical_denotes Little v d.valid) in
    record {
      records = v;
      file = d;
      form = e;
      accepted = accepted;
      own = λ w other. ap (canonical Little) (denotes_unique canon w v other accepted) ∙ sym e;
    }

-- a file that denotes records has no fault to be named
pub fails_no_file : (b : List ℕ) (e : BtfError) (v : List TypeRecord) → IsBytes b → Fails b e → Denotes b v → e ≡ error.Memory
fails_no_file b (error.Fault f) v fits first d = absurd ((no_fault_is_accepted b fits).back (v, d) first.phase f.pos f.cause first.holds)
fails_no_file b error.Memory v fits first d = refl

-- an answer with the canonical bytes of a file that denotes records has those of these records, or wanted memory
pub answers_file : {T : Type 0} (items : T → List ℕ) (b : List ℕ) (v : List TypeRecord) → IsBytes b → Denotes b v → (r : Result T BtfError)
    → IfOk r (λ canon. (w : List TypeRecord) × (Denotes b w × (items canon ≡ canonical Little w))) → IfErr r (Fails b)
    → MatchResult r (λ canon. items canon ≡ canonical Little v) (λ e. e ≡ error.Memory)
answers_file items b v fits d (Ok canon) made fails = made.1.1 ∙ ap (canonical Little) (denotes_unique b made.0 v made.1.0 d)
answers_file items b v fits d (Err e) made fails = fails_no_file b e v fits fails d

-- what the search cites of the canonical bytes of a table
pub ruleset file_steps = (ok_with, canonical_is_file)
