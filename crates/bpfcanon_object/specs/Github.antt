-- Workflow commands of GitHub Actions.
use Rattle.std.specs.Prelude.{◌==◌, if◌then◌else◌, ℕ, List, codes, encode_utf8}
use Rattle.std.specs.{List.flat_map, Str.chars}
use Rattle.bpfcanon_object.specs.declared.github.Part.{Part}
use Rattle.bpfcanon_object.specs.declared.github.Part.TheVariants.{Property, Message}

-- a character of a workflow command of GitHub Actions
abbrev pub github_char : Part → ℕ → List ℕ
github_char Property c =
    if c == 37 then codes "%25" else
    if c == 58 then codes "%3A" else
    if c == 44 then codes "%2C" else encode_utf8 c
github_char Message c = if c == 37 then codes "%25" else encode_utf8 c

-- a part of a workflow command
abbrev pub github_text : Part → List ℕ → List ℕ
github_text part text = flat_map (github_char part) (chars text)
