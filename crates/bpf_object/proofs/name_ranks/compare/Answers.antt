-- The bytes up to the end of a name are the name.
use Rattle.std.proofs.Common.{List, ℕ, ap, ◌∙◌}
use Rattle.std.specs.{Cmp.Lexicographic.slice_cmp, Ordering.nat_cmp}
use Rattle.bpf_object.specs.private.NameRanks.{bytes_in, text_key}
use Rattle.bpf_object.proofs.NameEnds.{names_compared}
use Rattle.bpf_object.proofs.name_ranks.compare.Goals as goal

pub returns : goal.returns
returns c =
    let strings = c.args.strings.now in
    let by_bytes =
    c.compare_texts.ensures ∙ ap (λ (x : List ℕ). slice_cmp nat_cmp (text_key x) (text_key c.bytes_of-second.result.now)) c.bytes_of-first.ensures
    ∙ ap (λ (y : List ℕ). slice_cmp nat_cmp (text_key (bytes_in strings c.args.a.now)) (text_key y)) c.bytes_of-second.ensures in
    record {
      bytes = by_bytes;
      names = λ first second. names_compared strings c.args.a.now c.args.b.now c.compare_texts.result by_bytes first second;
    }
