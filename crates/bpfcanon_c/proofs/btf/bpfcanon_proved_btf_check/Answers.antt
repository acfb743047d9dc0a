use Rattle.std.proofs.Common.{rules, ◌≡◌, ℕ, List, length, sym, ◌∙◌}
use Rattle.std.proofs.lemmas.List.{length-map}
use Rattle.btf_types.specs.{Denotes.HoldsSections, Reading.record_of, Sections.SectionWords, Sections.records_in}
use Rattle.bpfcanon_c.specs.{declared.answer.Ending.TheVariants.Types, Endings.EndsBtfCheck}
use Rattle.bpfcanon_c.proofs.btf.bpfcanon_proved_btf_check.Goals as goal
use Rattle.bpfcanon_c.proofs.btf.bpfcanon_proved_btf_check.Goals.{in-Ok, in-Err}

counted : (bytes : List ℕ) (s : SectionWords) (n : ℕ) → HoldsSections bytes s → n ≡ length s.frames → EndsBtfCheck bytes (Types n)
counted bytes s n held is = (records_in s, (held.denotes, is ∙ sym (length-map s.frames (record_of s.strings))))

pub returns : goal.returns
returns c = record {
  ending = c.match-check.report;
  answers = c.report.ensures;
  holds = elim c.match-check.branch [
    | in-Ok w ↦ rw w.report-is (counted c.args.bytes.now w.in-Ok.file w.count.result w.in-Ok.ensures w.count.ensures)
    | in-Err w ↦ rw w.report-is (search rules)
  ];
}
