-- What each verb answers for a file: a status, what goes to standard output, and what goes to standard error.
use Rattle.std.specs.Prelude.{◌≡◌, ◌==◌, ◌++◌, ◌≤◌, if◌then◌else◌, ℕ, Bool, true, false, List, [], codes, Option, Result, Ok, Err, string_bytes}
use Rattle.std.specs.Str.{bytes_eq}
use Rattle.std.specs.declared.vec.Vec.{Vec}
use Rattle.sha2.specs.Sha256.{sha256}
use Rattle.bpf_object.specs.declared.fault.{ObjectCause.ObjectCause, ObjectFault.ObjectFault}
use Rattle.bpf_object.specs.{Canonical.canonical, Denotes.Denotes, Denotes.IsCanonicalFile, ObjectFaults.IsFault, Objects.Object, SameObjects.ComparesObjects}
use Rattle.bpfcanon_object.specs.{CauseNames.object_cause_sentence, Escape.IsPrintable}
use Rattle.bpfcanon_object.specs.declared.answer.{Answer.Answer, Status.Status}
use Rattle.bpfcanon_object.specs.declared.answer.Status.TheVariants.{Yes, No, Trouble}
use Rattle.bpfcanon_object.specs.declared.check.Format.{Format}
use Rattle.bpfcanon_object.specs.declared.check.Format.TheVariants.{Text, Json, Github}
use Rattle.bpf_elf.specs.Numbers.{count}
use Rattle.bpfcanon_object.specs.declared.target.Target.{Target}
use Rattle.bpfcanon_object.specs.Code.{AreCodeLines, most_sources}
use Rattle.bpfcanon_object.specs.{Formats.accepted_lines, Formats.json_fault, Formats.github_line, Json.json_line}
use Rattle.bpfcanon_object.specs.{Lines.fault_line, Lines.newline, Lines.trouble_line, KeyLines.key_line, KeyLines.row_line}

-- the exit status of a process
abbrev pub code : Status → ℕ
code Yes = 0
code No = 1
code Trouble = 2

-- the status of two files together: the greater one
abbrev pub worst : Status → Status → Status
worst Yes s = s
worst No Trouble = Trouble
worst No s = No
worst Trouble s = Trouble

-- the answer has this status, these lines and these messages
pub record IsAnswer {A : Type 0} (status : Status) (lines messages : List ℕ) (answer : Answer A) : Type 0 where
  pub status_is : answer.status ≡ status
  pub lines_are : string_bytes answer.lines ≡ lines
  pub messages_are : string_bytes answer.messages ≡ messages

-- what is said of a cause: its sentence, and what may follow it, without control characters
abbrev pub Explains : ObjectCause → List ℕ → Type 0
Explains cause text = (remark : List ℕ) × (IsPrintable remark × (text ≡ object_cause_sentence cause ++ remark))

-- a file is refused: the message has the offset and the cause of its fault and what that means, and these are the status and the lines
abbrev pub IsRefused : {A : Type 0} → Status → List ℕ → ObjectFault → List ℕ → Answer A → Type 0
IsRefused status name fault lines answer =
    (text : List ℕ) × (Explains fault.cause text × IsAnswer status lines (fault_line name fault text) answer)

-- the answer of canon for a file: its canonical file, or its fault
abbrev pub IsCanonAnswer : {A : Type 0} → List ℕ → List ℕ → Result (Vec ℕ A) (Answer A) → Type 0
IsCanonAnswer name file (Ok out) = IsCanonicalFile file out.items
IsCanonAnswer name file (Err answer) = (fault : ObjectFault) × (IsFault file fault × IsRefused No name fault [] answer)

-- the answer of key for a file: the line of the SHA-256 of its canonical file, or its fault
pub data IsKeyAnswer {A : Type 0} (name file : List ℕ) (answer : Answer A) : Type 0 where
  accepted : (x : Object) → Denotes file x → IsAnswer Yes (key_line (sha256 (canonical x)) name) [] answer → IsKeyAnswer name file answer
  refused : (fault : ObjectFault) → IsFault file fault → IsRefused No name fault [] answer → IsKeyAnswer name file answer

-- the answer for a file with a key: the status and the word
abbrev pub IsComparedRow : {A : Type 0} → List ℕ → Bool → Answer A → Type 0
IsComparedRow name true answer = IsAnswer Yes (row_line name (codes "OK")) [] answer
IsComparedRow name false answer = IsAnswer No (row_line name (codes "FAILED")) [] answer

-- the answer of key --check for a file that was read: whether it has the key of its row. What is refused has none
pub data IsRowAnswer {A : Type 0} (name wanted file : List ℕ) (answer : Answer A) : Type 0 where
  accepted : (x : Object) → Denotes file x → IsComparedRow name (bytes_eq (sha256 (canonical x)) wanted) answer → IsRowAnswer name wanted file answer
  refused : (fault : ObjectFault) → IsFault file fault → IsRefused No name fault (row_line name (codes "FAILED")) answer → IsRowAnswer name wanted file answer

-- the answer of key --check for a file that can't be read, and why
abbrev pub IsUnreadRowAnswer : {A : Type 0} → List ℕ → List ℕ → Answer A → Type 0
IsUnreadRowAnswer name why answer =
    IsAnswer Trouble (row_line name (codes "FAILED open or read")) (trouble_line name why) answer

-- the answer of same for two files that are accepted
abbrev pub IsComparison : {A : Type 0} → Bool → Answer A → Type 0
IsComparison true answer = IsAnswer Yes (codes "same" ++ newline) [] answer
IsComparison false answer = IsAnswer No (codes "different" ++ newline) [] answer

-- the answer of same for two files: whether they hold the same, or the fault of the first one that is refused
pub data IsSameAnswer {A : Type 0} (name file other_name other : List ℕ) (answer : Answer A) : Type 0 where
  compared : (is_same : Bool) → ComparesObjects file other is_same → IsComparison is_same answer → IsSameAnswer name file other_name other answer
  first : (fault : ObjectFault) → IsFault file fault → IsRefused Trouble name fault [] answer → IsSameAnswer name file other_name other answer
  second : (x : Object) → Denotes file x → (fault : ObjectFault) → IsFault other fault → IsRefused Trouble other_name fault [] answer
      → IsSameAnswer name file other_name other answer

-- what check reports is a message for readers, and goes to standard output for programs
abbrev pub report_lines : Format → List ℕ → List ℕ
report_lines Text report = []
report_lines Json report = report
report_lines Github report = report

abbrev pub report_messages : Format → List ℕ → List ℕ
report_messages Text report = report
report_messages Json report = []
report_messages Github report = []

-- what check reports of a file that is refused, in each format
abbrev pub fault_report : Format → List ℕ → ObjectFault → List ℕ → List ℕ
fault_report Text name fault text = fault_line name fault text
fault_report Json name fault text = json_line name (json_fault fault text)
fault_report Github name fault text = github_line name fault text

-- the status for so many findings in code
abbrev pub count_status : ℕ → Status
count_status seen = if seen == 0 then Yes else No

-- the status, the lines and the messages of check for a file that is refused
abbrev pub IsFaultAnswer : Format → List ℕ → ObjectFault → Status → List ℕ → List ℕ → Type 0
IsFaultAnswer format name fault status lines messages =
    (text : List ℕ) × (Explains fault.cause text × ((status ≡ No)
    × ((lines ≡ report_lines format (fault_report format name fault text)) × (messages ≡ report_messages format (fault_report format name fault text)))))

-- the lines and the messages for a file that is accepted, of whose first n sections so many have a finding: that it is, and these
abbrev pub AreAcceptedLines : Format → Option Target → List ℕ → ℕ → List ℕ → ℕ → ℕ → List ℕ → List ℕ → Type 0
AreAcceptedLines format target name most file n seen lines messages =
    (report : List ℕ) × (AreCodeLines format target name most file n seen report
    × ((lines ≡ accepted_lines format name ++ report_lines format report) × (messages ≡ report_messages format report)))

-- the status, the lines and the messages for a file that is accepted
abbrev pub IsAcceptedAnswer : Format → Option Target → List ℕ → ℕ → List ℕ → Status → List ℕ → List ℕ → Type 0
IsAcceptedAnswer format target name most file status lines messages =
    (seen : ℕ) × ((status ≡ count_status seen) × AreAcceptedLines format target name most file (count file) seen lines messages)

-- those for any file: that it is accepted, or its fault
pub data IsCheckAnswer (format : Format) (target : Option Target) (name file : List ℕ) (status : Status) (lines messages : List ℕ) : Type 0 where
  accepted : (x : Object) → Denotes file x → IsAcceptedAnswer format target name (most_sources file) file status lines messages
      → IsCheckAnswer format target name file status lines messages
  refused : (fault : ObjectFault) → IsFault file fault → IsFaultAnswer format name fault status lines messages
      → IsCheckAnswer format target name file status lines messages

-- as much of a file that is accepted as check may have gone through when it ends early: its first sections
abbrev pub IsAcceptedPart : Format → Option Target → List ℕ → ℕ → List ℕ → List ℕ → List ℕ → Type 0
IsAcceptedPart format target name most file lines messages =
    (n : ℕ) × ((seen : ℕ) × ((n ≤ count file) × AreAcceptedLines format target name most file n seen lines messages))

-- as much of any file: its first sections, or its fault
pub data IsCheckPart (format : Format) (target : Option Target) (name file : List ℕ) (lines messages : List ℕ) : Type 0 where
  accepted : (x : Object) → Denotes file x → IsAcceptedPart format target name (most_sources file) file lines messages
      → IsCheckPart format target name file lines messages
  refused : (fault : ObjectFault) → IsFault file fault → IsFaultAnswer format name fault No lines messages
      → IsCheckPart format target name file lines messages
