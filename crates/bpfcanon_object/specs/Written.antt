-- What is written to standard output and to standard error, as far as is known what they hold.
use Rattle.std.specs.Prelude.{◌≡◌, ◌++◌, List, ℕ, [], Option}
use Rattle.std.specs.Io.KnownBytes.{Appends}

-- of these bytes the first ones are written
abbrev pub AppendsPart : Option (List ℕ) → Option (List ℕ) → List ℕ → Type 0
AppendsPart old new bytes = (part : List ℕ) × ((rest : List ℕ) × ((bytes ≡ part ++ rest) × Appends old new part))

-- an answer is written: standard output gets its lines, and standard error its messages
abbrev pub IsWritten : (List ℕ → List ℕ → Type 0) → Option (List ℕ) → Option (List ℕ) → Option (List ℕ) → Option (List ℕ) → Type 0
IsWritten IsIt out out_after err err_after =
    (lines : List ℕ) × ((messages : List ℕ) × (IsIt lines messages × (Appends out out_after lines × Appends err err_after messages)))

-- nothing is written, or of such an answer the first lines and messages, of which the last may be cut
pub data IsPartWritten (IsIt : List ℕ → List ℕ → Type 0) (out out_after err err_after : Option (List ℕ)) : Type 0 where
  nothing : Appends out out_after [] → Appends err err_after [] → IsPartWritten IsIt out out_after err err_after
  some : (lines messages : List ℕ) → IsIt lines messages → AppendsPart out out_after lines → AppendsPart err err_after messages
      → IsPartWritten IsIt out out_after err err_after
