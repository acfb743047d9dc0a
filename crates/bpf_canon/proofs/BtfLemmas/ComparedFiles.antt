-- Two BTF files whose canonical bytes are compared.
use Rattle.std.proofs.Common.{◌≡◌, ◌↔◌, ◌∙◌, ℕ, Bool, List, sym, ap, IsTrue}
use Rattle.bpf_words.specs.declared.Order.TheVariants.{Little}
use Rattle.btf_types.specs.{Values.TypeRecord, Denotes.Denotes}
use Rattle.bpf_canon.specs.btf.{CanonicalBtf.canonical, SameBtf.ComparesBtf}
use Rattle.bpf_canon.proofs.BtfLemmas.CanonicalFiles.{canonical_apart}

-- two files whose canonical bytes are compared
pub compares : (a b x y : List ℕ) (same : Bool) → (v : List TypeRecord) × (Denotes a v × (x ≡ canonical Little v)) → (w : List TypeRecord) × (Denotes b w × (y ≡ canonical Little w))
    → (IsTrue same ↔ (x ≡ y)) → ComparesBtf a b same
compares a b x y same (v, p) (w, q) r =
    let forms : IsTrue same ↔ (canonical Little v ≡ canonical Little w) = (λ t. sym p.1 ∙ r.0 t ∙ q.1, λ e. r.1 (p.1 ∙ e ∙ sym q.1)) in
    record {
      first = v;
      second = w;
      first_file = p.0;
      second_file = q.0;
      records = (λ t. canonical_apart Little v w p.0.valid q.0.valid (forms.0 t), λ e. forms.1 (ap (canonical Little) e));
      forms = forms;
    }
