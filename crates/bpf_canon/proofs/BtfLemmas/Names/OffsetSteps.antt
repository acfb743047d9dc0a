-- What a name that is empty leaves of the kept names.
use Rattle.std.proofs.Common.{◌≡◌, ℕ, Bool, true, List, length, Bor, eqb, arith}
use Rattle.std.specs.Str.{bytes_eq}
use Rattle.std.proofs.lemmas.{List.nil_from_length}
use Rattle.bpf_canon.specs.btf.names.Interned.{AddsName}
use Rattle.bpf_canon.proofs.BtfLemmas.Names.KeptSteps.{kept_empty}

abbrev pub text_eq : Bor (List ℕ) → Bor (List ℕ) → Bool
text_eq a b = bytes_eq a.now b.now

pub empty_adds : (ks : List (List ℕ)) (x : List ℕ) → eqb (length x) 0 ≡ true → AddsName ks ks x
empty_adds ks x t xs e = grind (arith, nil_from_length, kept_empty)
