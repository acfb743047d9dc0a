use Rattle.std.proofs.Common.{ap, ◌∙◌, rules, arith}
use Rattle.bpf_elf.specs.Rules.{first_broken}
use Rattle.bpf_elf.proofs.RuleLemmas.{each_fault, each_more}
use Rattle.bpf_object.specs.Types.{name_rules}
use Rattle.bpf_object.proofs.{TypesLemmas.numbered_record, TakenLemmas.same_name_rules}
use Rattle.bpf_object.proofs.taken_names.check_marked.Goals as goal

pub returns-in_err-require : goal.returns-in_err-require
returns-in_err-require c =
    let s = c.args.sections.now in
    let at = numbered_record s.frames c.loop-k.k _ c.record-record.ensures.frame in
    let same =
    same_name_rules c.args.first s c.args.marks.now c.loop-k.k _ _ _ _ c.requires.marks at.there c.strings-strings.ensures.is c.loop-k.invariant.place at.is c.is_taken.ensures in
    let here = each_fault _ c.loop-k.k (name_rules c.args.first s) _ at.there c.loop-k.invariant.before (ap first_broken same ∙ c.in_err-require.ensures) in
    search rules

pub overflow_add-pos : goal.overflow_add-pos
overflow_add-pos c =
    let at = numbered_record c.args.sections.now.frames c.loop-k.k _ c.record-record.ensures.frame in
    omega (arith, at.within, c.loop-k.invariant.place, c.requires.near, c.requires.short, c.word_count.ensures)

pub loop-k-preserved : goal.loop-k-preserved
loop-k-preserved c =
    let s = c.args.sections.now in
    let at = numbered_record s.frames c.loop-k.k _ c.record-record.ensures.frame in
    let same =
    same_name_rules c.args.first s c.args.marks.now c.loop-k.k _ _ _ _ c.requires.marks at.there c.strings-strings.ensures.is c.loop-k.invariant.place at.is c.is_taken.ensures in
    record {
      place = omega (arith, at.next, c.loop-k.invariant.place, c.word_count.ensures);
      before = each_more c.loop-k.k (name_rules c.args.first s) c.loop-k.invariant.before (ap first_broken same ∙ c.in_ok-require.ensures);
    }
