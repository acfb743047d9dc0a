-- The lines for what is reported of code.
use Rattle.std.proofs.Common.{◌≡◌, ◌++◌, ◌+◌, ◌≤◌, ℕ, List, [], Option, refl, sym, ap, subst, ◌∙◌, add-one, append_assoc}
use Rattle.std.proofs.KnownBytes.{Appends-trans}
use Rattle.std.specs.{Prelude.nat_lt, Io.KnownBytes.Appends}
use Rattle.bpf_elf.specs.Numbers.{count}
use Rattle.bpfcanon_object.specs.declared.target.Target.{Target}
use Rattle.bpfcanon_object.specs.Answers.{report_lines, report_messages}
use Rattle.bpfcanon_object.specs.Code.{AreCodeLines, IsFoundIn, count_of, line_if}
use Rattle.bpfcanon_object.specs.Reports.{PutsCodeLines, PutsSomeCodeLines}
use Rattle.bpfcanon_object.specs.Written.{AppendsPart}
use Rattle.bpfcanon_object.specs.declared.{check.Format.Format, finding.Finding.Finding}
use Rattle.bpfcanon_object.proofs.ReportLemmas.{no_lines, no_messages, report_lines-append, report_messages-append}
use Rattle.bpfcanon_object.proofs.WrittenLemmas.{part_after}

-- the line of a section follows those before
lines_next : (format : Format) (target : Option Target) (file : List ℕ) (most : ℕ) (b : List ℕ) (n earlier seen : ℕ) (found : Option Finding)
    (before line text new : List ℕ) → AreCodeLines format target file most b n earlier before → IsFoundIn target b n found
    → seen ≡ earlier + count_of found → line ≡ line_if format file b n (nat_lt earlier most) found → text ≡ line → new ≡ before ++ text
    → AreCodeLines format target file most b (n + 1) seen new
lines_next format target file most b n earlier seen found before line text new are is_found seen_is line_is text_is new_is =
    rw add-one (earlier, (before, (found, (are, (is_found, (seen_is, new_is ∙ ap (λ t. before ++ t) (text_is ∙ line_is)))))))

-- of the lines for the first n sections the last ones are stored, and those before are written
abbrev pub AreStored : Format → Option Target → List ℕ → ℕ → List ℕ → ℕ → ℕ → List ℕ
    → Option (List ℕ) → Option (List ℕ) → Option (List ℕ) → Option (List ℕ) → Type 0
AreStored format target file most b n seen stored out out_after err err_after =
    (written : List ℕ) × (AreCodeLines format target file most b n seen (written ++ stored)
    × (Appends out out_after (report_lines format written) × Appends err err_after (report_messages format written)))

pub none_stored : (format : Format) (target : Option Target) (file : List ℕ) (most : ℕ) (b stored : List ℕ) (out err : Option (List ℕ))
    → stored ≡ [] → AreStored format target file most b 0 0 stored out out err err
none_stored format target file most b stored out err none = ([], ((refl, none), (no_lines format out, no_messages format err)))

-- the line of a section is stored
pub stored_line : (format : Format) (target : Option Target) (file : List ℕ) (most : ℕ) (b : List ℕ) (n earlier seen : ℕ) (found : Option Finding)
    (stored line text all : List ℕ) (out out_after err err_after : Option (List ℕ))
    → AreStored format target file most b n earlier stored out out_after err err_after → IsFoundIn target b n found
    → seen ≡ earlier + count_of found → line ≡ line_if format file b n (nat_lt earlier most) found → text ≡ line → all ≡ stored ++ text
    → AreStored format target file most b (n + 1) seen all out out_after err err_after
stored_line format target file most b n earlier seen found stored line text all out out_after err err_after are is_found seen_is line_is text_is all_is =
    let written = are.0 in (
      written,
      (
        lines_next format target file most b n earlier seen found (written ++ stored) line text (written ++ all) are.1.0 is_found seen_is line_is text_is
            (ap (λ l. written ++ l) all_is ∙ sym (append_assoc written stored text)),
        are.1.1,
      ),
    )

-- some of what is stored is written
pub stored_written : (format : Format) (target : Option Target) (file : List ℕ) (most : ℕ) (b : List ℕ) (n seen : ℕ) (all part left : List ℕ)
    (out out_before out_after err err_before err_after : Option (List ℕ))
    → AreStored format target file most b n seen all out out_before err err_before → all ≡ part ++ left
    → Appends out_before out_after (report_lines format part) → Appends err_before err_after (report_messages format part)
    → AreStored format target file most b n seen left out out_after err err_after
stored_written format target file most b n seen all part left out out_before out_after err err_before err_after are all_is lines messages =
    let written = are.0 in (
      written ++ part,
      (
        subst (AreCodeLines format target file most b n seen) (ap (λ l. written ++ l) all_is ∙ sym (append_assoc written part left)) are.1.0,
        (
          subst (Appends out out_after) (report_lines-append format written part) (Appends-trans out out_before out_after _ _ are.1.1.0 lines),
          subst (Appends err err_after) (report_messages-append format written part) (Appends-trans err err_before err_after _ _ are.1.1.1 messages),
        ),
      ),
    )

-- all that is stored is written
pub stored_ends : (format : Format) (target : Option Target) (file : List ℕ) (most : ℕ) (b : List ℕ) (n seen : ℕ) (stored : List ℕ)
    (out out_before out_after err err_before err_after : Option (List ℕ))
    → AreStored format target file most b n seen stored out out_before err err_before
    → Appends out_before out_after (report_lines format stored) → Appends err_before err_after (report_messages format stored)
    → PutsCodeLines format target file most b n seen out out_after err err_after
stored_ends format target file most b n seen stored out out_before out_after err err_before err_after are lines messages = (
  are.0 ++ stored,
  (
    are.1.0,
    (
      subst (Appends out out_after) (report_lines-append format are.0 stored) (Appends-trans out out_before out_after _ _ are.1.1.0 lines),
      subst (Appends err err_after) (report_messages-append format are.0 stored) (Appends-trans err err_before err_after _ _ are.1.1.1 messages),
    ),
  ),
)

-- of what is stored the first bytes are written
pub stored_stops : (format : Format) (target : Option Target) (file : List ℕ) (most : ℕ) (b : List ℕ) (n seen : ℕ) (stored : List ℕ)
    (out out_before out_after err err_before err_after : Option (List ℕ)) → n ≤ count b
    → AreStored format target file most b n seen stored out out_before err err_before
    → AppendsPart out_before out_after (report_lines format stored) → AppendsPart err_before err_after (report_messages format stored)
    → PutsSomeCodeLines format target file most b out out_after err err_after
stored_stops format target file most b n seen stored out out_before out_after err err_before err_after few are lines messages = (
  n,
  (
    seen,
    (
      are.0 ++ stored,
      (
        few,
        (
          are.1.0,
          (
            subst (AppendsPart out out_after) (report_lines-append format are.0 stored) (part_after out out_before out_after _ _ are.1.1.0 lines),
            subst (AppendsPart err err_after) (report_messages-append format are.0 stored) (part_after err err_before err_after _ _ are.1.1.1 messages),
          ),
        ),
      ),
    ),
  ),
)
