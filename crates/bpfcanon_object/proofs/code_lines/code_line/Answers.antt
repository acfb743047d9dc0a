use Rattle.std.proofs.Common.{◌≡◌, ◌∙◌, ℕ, List, IfOk, option_map, string_bytes, subst}
use Rattle.bpf_object.specs.SourceLines.{line_value}
use Rattle.bpfcanon_object.specs.{Formats.json_code, Json.json_line}
use Rattle.bpfcanon_object.proofs.code_lines.code_line.Goals as goal

-- the members are those of the line
pub returns-in_ok-members-in-Json : goal.returns-in_ok-members-in-Json
returns-in_ok-members-in-Json g c =
    let e : c.as_str.result.now ≡ json_code c.args.section.now c.args.found (option_map line_value c.args.source) =
    c.as_str.ensures.value ∙ c.in_ok-members-in-Json.ensures in
    let P : List ℕ → Type 0 = λ m. IfOk c.json_line.result (λ line. string_bytes line ≡ json_line c.args.name.now m) in
    rw c.in-Json.is (subst P e c.json_line.ensures)
