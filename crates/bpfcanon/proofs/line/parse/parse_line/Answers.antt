use Rattle.std.proofs.Common.{◌≡◌, map, string_bytes}
use Rattle.bpfcanon.specs.declared.line.parse.LineError.TheVariants.{Usage}
use Rattle.bpfcanon.proofs.LineLemmas.ParseLemmas.{found_is_stated, subcommand_is_verb, words_are_refused, words_are_taken}
use Rattle.bpfcanon.proofs.line.parse.parse_line.Goals as goal

pub job_of-requires : goal.job_of-requires
job_of-requires c =
    let e = found_is_stated c.new.result.words _ (map string_bytes c.args.words.now) c.in-Ok.matches
    c.in_ok-command.ensures c.in-Ok.ensures.matches in
    rw e (subcommand_is_verb c.new.result.words (map string_bytes c.args.words.now))

pub returns-in-Ok-clause-asks : goal.returns-in-Ok-clause-asks
returns-in-Ok-clause-asks c =
    let words = map string_bytes c.args.words.now in
    let e = found_is_stated c.new.result.words _ words c.in-Ok.matches
    c.in_ok-command.ensures c.in-Ok.ensures.matches in
    record {
      names = c.new.result.words;
      order_names = c.new.ensures;
      taken = words_are_taken c.new.result.words _ words c.try_get_matches_from.result
          c.in-Ok.matches c.in_ok-command.ensures c.try_get_matches_from.ensures.kinds c.in-Ok.is;
      job = rw (← e) c.job_of.ensures;
    }

pub returns-in-Err-clause-refused : goal.returns-in-Err-clause-refused
returns-in-Err-clause-refused c = λ is_err.
    let is_usage : c.line_error.result ≡ Usage = cc in
    record {
      names = c.new.result.words;
      order_names = c.new.ensures;
      refused = words_are_refused c.new.result.words _ (map string_bytes c.args.words.now) _ c.kind.result
          c.in_ok-command.ensures c.in-Err.ensures.passes (c.line_error.ensures.usage is_usage) c.kind.ensures;
    }
