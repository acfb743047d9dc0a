-- What check reports, by its parts.
use Rattle.std.proofs.Common.{◌≡◌, ◌++◌, ℕ, List, [], Option, refl, sym, subst}
use Rattle.std.proofs.KnownBytes.{Appends-nil}
use Rattle.std.specs.Io.KnownBytes.{Appends}
use Rattle.bpfcanon_object.specs.Answers.{report_lines, report_messages}
use Rattle.bpfcanon_object.specs.declared.check.Format.{Format}
use Rattle.bpfcanon_object.specs.declared.check.Format.TheVariants.{Text, Json, Github}

pub report_lines-append : (format : Format) (a b : List ℕ) → report_lines format a ++ report_lines format b ≡ report_lines format (a ++ b)
report_lines-append Text a b = refl
report_lines-append Json a b = refl
report_lines-append Github a b = refl

pub report_messages-append : (format : Format) (a b : List ℕ) → report_messages format a ++ report_messages format b ≡ report_messages format (a ++ b)
report_messages-append Text a b = refl
report_messages-append Json a b = refl
report_messages-append Github a b = refl

report_lines-nil : (format : Format) → report_lines format [] ≡ []
report_lines-nil Text = refl
report_lines-nil Json = refl
report_lines-nil Github = refl

report_messages-nil : (format : Format) → report_messages format [] ≡ []
report_messages-nil Text = refl
report_messages-nil Json = refl
report_messages-nil Github = refl

-- no report is no line
pub no_lines : (format : Format) (out : Option (List ℕ)) → Appends out out (report_lines format [])
no_lines format out = subst (Appends out out) (sym (report_lines-nil format)) (Appends-nil out)

pub no_messages : (format : Format) (err : Option (List ℕ)) → Appends err err (report_messages format [])
no_messages format err = subst (Appends err err) (sym (report_messages-nil format)) (Appends-nil err)
