use Rattle.std.proofs.Common.{◌≡◌, ◌+◌, ◌∙◌, ap, string_bytes, arith}
use Rattle.bpf_elf.specs.Numbers.{count}
use Rattle.bpfcanon_object.proofs.CodeLemmas.{none_stored, stored_ends, stored_line, stored_stops, stored_written}
use Rattle.bpfcanon_object.proofs.WrittenLemmas.{no_part, on_err}
use Rattle.bpfcanon_object.proofs.code_lines.put_code_lines.Goals as goal

pub loop-i-init : goal.loop-i-init
loop-i-init g c = record {
  few = omega arith;
  stored = none_stored c.args.format c.args.target c.args.name.now c.args.most c.args.object.now _ _ _ c.new-stored.ensures.bytes;
}

pub loop-i-preserved : goal.loop-i-preserved
loop-i-preserved g c =
    let line =
    stored_line c.args.format c.args.target c.args.name.now c.args.most c.args.object.now c.loop-i.i c.loop-i.seen _ c.finding-found.result
    (string_bytes c.loop-i.stored) (string_bytes c.in_ok-line.line) c.as_str.result.now (string_bytes c.push_str.new.self) _ _ _ _
    c.loop-i.invariant.stored c.finding-found.ensures (ap (λ n. c.loop-i.seen + n) c.count_of-seen.ensures.number) c.in_ok-line.ensures
    c.as_str.ensures.value c.in_ok-push_str.ensures.bytes in
    let put = c.in_ok-put_if_long.ensures.whole in
    record {
      few = omega (arith, c.loop-i.invariant.few, c.count_of-seen.ensures.one);
      stored =
          stored_written c.args.format c.args.target c.args.name.now c.args.most c.args.object.now _ _ _ _ _ _ _ _ _ _ _
          line put.1.0 put.1.1.0 put.1.1.1;
    }

pub returns-clause-whole : goal.returns-clause-whole
returns-clause-whole g c =
    let ended : c.loop-i.i ≡ c.section_count-i-end.result = omega arith in
    let all : c.loop-i.i ≡ count c.args.object.now = ended ∙ c.section_count-i-end.ensures.value ∙ ap count c.elf.ensures.value in
    stored_ends c.args.format c.args.target c.args.name.now c.args.most c.args.object.now _ _ _ _ _ _ _ _ _
    (rw all at c.loop-i.invariant.stored) (rw c.as_str-2.ensures.value at c.in_ok-put_report.ensures.lines)
    (rw c.as_str-2.ensures.value at c.in_ok-put_report.ensures.messages)

pub returns-in_err-line-clause-part : goal.returns-in_err-line-clause-part
returns-in_err-line-clause-part g c = let all : c.section_count-i-end.result ≡ count c.args.object.now = c.section_count-i-end.ensures.value ∙ ap count c.elf.ensures.value in
    on_err _ (stored_stops c.args.format c.args.target c.args.name.now c.args.most c.args.object.now c.loop-i.i c.loop-i.seen (string_bytes c.loop-i.stored) _ _ _ _ _ _
    (omega (arith, all)) c.loop-i.invariant.stored (no_part _ _) (no_part _ _))

pub returns-in_err-push_str-clause-part : goal.returns-in_err-push_str-clause-part
returns-in_err-push_str-clause-part g c = let all : c.section_count-i-end.result ≡ count c.args.object.now = c.section_count-i-end.ensures.value ∙ ap count c.elf.ensures.value in
    on_err _ (stored_stops c.args.format c.args.target c.args.name.now c.args.most c.args.object.now c.loop-i.i c.loop-i.seen (string_bytes c.loop-i.stored) _ _ _ _ _ _
    (omega (arith, all)) c.loop-i.invariant.stored (no_part _ _) (no_part _ _))

pub returns-in_err-put_if_long-clause-part : goal.returns-in_err-put_if_long-clause-part
returns-in_err-put_if_long-clause-part g c = let all : c.section_count-i-end.result ≡ count c.args.object.now = c.section_count-i-end.ensures.value ∙ ap count c.elf.ensures.value in
    let line =
    stored_line c.args.format c.args.target c.args.name.now c.args.most c.args.object.now c.loop-i.i c.loop-i.seen _ c.finding-found.result
    (string_bytes c.loop-i.stored) (string_bytes c.in_ok-line.line) c.as_str.result.now (string_bytes c.push_str.new.self) _ _ _ _
    c.loop-i.invariant.stored c.finding-found.ensures (ap (λ n. c.loop-i.seen + n) c.count_of-seen.ensures.number) c.in_ok-line.ensures
    c.as_str.ensures.value c.in_ok-push_str.ensures.bytes in
    on_err _ (stored_stops c.args.format c.args.target c.args.name.now c.args.most c.args.object.now (c.loop-i.i + 1) _ (string_bytes c.push_str.new.self) _ _ _ _ _ _
    (omega (arith, all)) line c.in_err-put_if_long.ensures.some_lines c.in_err-put_if_long.ensures.some_messages)

pub returns-in_err-put_report-clause-part : goal.returns-in_err-put_report-clause-part
returns-in_err-put_report-clause-part g c = let all : c.section_count-i-end.result ≡ count c.args.object.now = c.section_count-i-end.ensures.value ∙ ap count c.elf.ensures.value in
    on_err _ (stored_stops c.args.format c.args.target c.args.name.now c.args.most c.args.object.now c.loop-i.i c.loop-i.seen (string_bytes c.loop-i.stored) _ _ _ _ _ _
    (omega (arith, all)) c.loop-i.invariant.stored (rw c.as_str-2.ensures.value at c.in_err-put_report.ensures.some_lines)
    (rw c.as_str-2.ensures.value at c.in_err-put_report.ensures.some_messages))
