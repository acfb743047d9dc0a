-- What check reports of code, written.
use Rattle.std.specs.Prelude.{◌≤◌, ℕ, List, Option}
use Rattle.std.specs.Io.KnownBytes.{Appends}
use Rattle.bpf_elf.specs.Numbers.{count}
use Rattle.bpfcanon_object.specs.declared.target.Target.{Target}
use Rattle.bpfcanon_object.specs.{Answers.report_lines, Answers.report_messages, Code.AreCodeLines, Written.AppendsPart}
use Rattle.bpfcanon_object.specs.declared.check.Format.{Format}

-- the lines for the first n sections, of which so many have a finding, are written
abbrev pub PutsCodeLines : Format → Option Target → List ℕ → ℕ → List ℕ → ℕ → ℕ
    → Option (List ℕ) → Option (List ℕ) → Option (List ℕ) → Option (List ℕ) → Type 0
PutsCodeLines format target name most file n seen out out_after err err_after =
    (report : List ℕ) × (AreCodeLines format target name most file n seen report
    × (Appends out out_after (report_lines format report) × Appends err err_after (report_messages format report)))

-- of the lines for some of the sections the first ones are written
abbrev pub PutsSomeCodeLines : Format → Option Target → List ℕ → ℕ → List ℕ
    → Option (List ℕ) → Option (List ℕ) → Option (List ℕ) → Option (List ℕ) → Type 0
PutsSomeCodeLines format target name most file out out_after err err_after =
    (n : ℕ) × ((seen : ℕ) × ((report : List ℕ) × ((n ≤ count file) × (AreCodeLines format target name most file n seen report
    × (AppendsPart out out_after (report_lines format report) × AppendsPart err err_after (report_messages format report))))))
