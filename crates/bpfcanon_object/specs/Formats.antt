-- The lines of check, in its formats.
use Rattle.std.specs.Prelude.{if◌then◌else◌, ◌++◌, ℕ, false, List, [], Option, Some, None, codes, decimal, take}
use Rattle.std.specs.{Fmt.digits, Str.bytes_eq, Str.Lossy.utf8_lossy}
use Rattle.bpf_object.specs.SourceLines.{Line}
use Rattle.bpf_object.specs.declared.fault.ObjectFault.{ObjectFault}
use Rattle.bpfcanon_object.specs.CauseNames.{object_cause_name}
use Rattle.bpfcanon_object.specs.Escape.{escaped}
use Rattle.bpfcanon_object.specs.{Findings.reason_name, Findings.reason_text, Lines.newline}
use Rattle.bpfcanon_object.specs.declared.{check.Format.Format, finding.Finding.Finding}
use Rattle.bpfcanon_object.specs.declared.check.Format.TheVariants.{Text, Json, Github}
use Rattle.bpfcanon_object.specs.declared.github.Part.TheVariants.{Property, Message}
use Rattle.bpfcanon_object.specs.{Github.github_text, Json.json_line, Json.json_text}

-- the format with a name on the command line, text for any other
abbrev pub format_named : List ℕ → Format
format_named name = if bytes_eq name (codes "json") then Json else if bytes_eq name (codes "github") then Github else Text

-- the members for a fault: its offset, its cause, and what that means
abbrev pub json_fault : ObjectFault → List ℕ → List ℕ
json_fault fault text =
    codes "\"accepted\":false,\"offset\":" ++ (decimal fault.pos ++ (codes ",\"cause\":\"" ++ (object_cause_name fault.cause
    ++ (codes "\",\"text\":\"" ++ (json_text text ++ codes "\"")))))

-- the lines for a file that is accepted
abbrev pub accepted_lines : Format → List ℕ → List ℕ
accepted_lines Text name = escaped name ++ (codes ": accepted" ++ newline)
accepted_lines Json name = json_line name (codes "\"accepted\":true")
accepted_lines Github name = []

-- the workflow command for a fault: its offset, its cause, and what that means
abbrev pub github_line : List ℕ → ObjectFault → List ℕ → List ℕ
github_line name fault text =
    codes "::error file=" ++ (github_text Property (escaped name)
    ++ (codes "::" ++ (github_text Message (escaped name)
    ++ (codes ": byte " ++ (decimal fault.pos ++ (codes ": " ++ (object_cause_name fault.cause
    ++ (codes ": " ++ (github_text Message text ++ newline)))))))))

-- the bytes of the name of a section or of a source file that are printed
unfoldable pub cut_name : List ℕ → List ℕ
cut_name name = take 256 name

-- such a name as a text. What isn't UTF-8 in it becomes U+FFFD
abbrev pub name_text : List ℕ → List ℕ
name_text name = utf8_lossy (cut_name name)

-- where code is reported, and why: SECTION+0xOFFSET: CAUSE: TEXT
abbrev pub code_location : List ℕ → Finding → List ℕ
code_location section found =
    escaped section ++ (codes "+0x" ++ (digits 16 false found.pos
    ++ (codes ": " ++ (reason_name found.reason ++ (codes ": " ++ reason_text found.reason)))))

-- the name of a source file
abbrev pub source_file : Line → List ℕ
source_file source = name_text source.file

-- as it is printed
abbrev pub source_name : Line → List ℕ
source_name source = escaped (source_file source)

-- a source line as compilers write it, if it is known
abbrev pub text_source : Option Line → List ℕ
text_source None = []
text_source (Some source) =
    codes ", at " ++ (source_name source ++ (codes ":" ++ (decimal source.line ++ (codes ":" ++ decimal source.column))))

-- the members for a source line, if it is known
abbrev pub json_source : Option Line → List ℕ
json_source None = []
json_source (Some source) =
    codes ",\"source\":\"" ++ (json_text (source_file source) ++ (codes "\",\"line\":" ++ (decimal source.line
    ++ (codes ",\"column\":" ++ decimal source.column))))

-- the properties of a workflow command: the source line if it is known, and the file otherwise
abbrev pub github_source : List ℕ → Option Line → List ℕ
github_source name None = codes "file=" ++ github_text Property (escaped name)
github_source name (Some source) =
    codes "file=" ++ (github_text Property (source_name source) ++ (codes ",line=" ++ (decimal source.line
    ++ (codes ",col=" ++ decimal source.column))))

-- the members for what is reported of code
abbrev pub json_code : List ℕ → Finding → Option Line → List ℕ
json_code section found source =
    codes "\"section\":\"" ++ (json_text section ++ (codes "\",\"offset\":" ++ (decimal found.pos
    ++ (codes ",\"cause\":\"" ++ (reason_name found.reason
    ++ (codes "\",\"text\":\"" ++ (reason_text found.reason ++ (codes "\"" ++ json_source source))))))))

-- the line for what is reported of code: the section, the offset there, the reason, and the source line if it is known
abbrev pub code_line : Format → List ℕ → List ℕ → Finding → Option Line → List ℕ
code_line Text name section found source =
    escaped name ++ (codes ": " ++ (code_location section found ++ (text_source source ++ newline)))
code_line Json name section found source = json_line name (json_code section found source)
code_line Github name section found source =
    codes "::error " ++ (github_source name source
    ++ (codes "::" ++ (github_text Message (escaped name)
    ++ (codes ": " ++ (github_text Message (code_location section found) ++ newline)))))
