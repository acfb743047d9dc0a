-- The strings of borrowed names.
use Rattle.std.proofs.Common.{◌≡◌, ℕ, ◌<◌, List, [], length, get_or, Bor}
use Rattle.std.proofs.lemmas.List.{length-map, get_or-map}
use Rattle.bpf_canon.specs.btf.names.Interned.{borrowed_texts}

-- what an index past the end would give
abbrev pub no_name : Bor (List ℕ)
no_name = record { ref_ptr = (0, 0); now = [] }

pub text_at : (names : List (Bor (List ℕ))) (j : ℕ) (d : Bor (List ℕ)) → j < length names → get_or (borrowed_texts names) j d.now ≡ (get_or names j d).now
text_at names j d h = get_or-map (λ (n : Bor (List ℕ)). n.now) names j d d.now h

pub texts_length : (names : List (Bor (List ℕ))) → length (borrowed_texts names) ≡ length names
texts_length names = length-map names (λ (n : Bor (List ℕ)). n.now)
