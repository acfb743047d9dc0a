use Rattle.std.proofs.Common.{◌≡◌, false, rules}
use Rattle.std.specs.List.{list_any}
use Rattle.bpf_text.specs.insn.Tokens.{code_of, is_stray, StartsWithToken}
use Rattle.bpf_text.proofs.InsnLemmas.{TokenLemmas.none_stray_following, ReadingLemmas.line_mapped}
use Rattle.bpf_text.proofs.insn.read.read_line.Goals as goal
use Rattle.bpf_text.proofs.insn.read.read_line.Goals.{In-Some-next_token}

none_following : (c : In-Some-next_token) → list_any is_stray c.in-Some-next_token.following.now ≡ false
none_following c =
    none_stray_following c.in-Some.code.now c.in-Some-next_token.first.now c.in-Some-next_token.following.now c.in-Some-next_token.ensures.some c.in-Some.ensures.some.1

starts : (c : In-Some-next_token) → StartsWithToken (code_of c.args.line.now) c.in-Some-next_token.first.now c.in-Some-next_token.following.now
starts c = rw c.in-Some.ensures.some.0 at c.in-Some-next_token.ensures.some

pub insn_from_tokens-requires : goal.insn_from_tokens-requires
insn_from_tokens-requires c = none_following (goal.at.insn_from_tokens-requires c).In-Some-next_token

pub returns-in-Some-next_token : goal.returns-in-Some-next_token
returns-in-Some-next_token c =
    let s = (goal.at.returns-in-Some-next_token c).In-Some-next_token in
    line_mapped c.args.line.now s.in-Some-next_token.first.now s.in-Some-next_token.following.now (starts s) c.insn_from_tokens.result c.map.result c.map.ensures.cases (λ i found p. search rules)
    c.insn_from_tokens.ensures (none_following s)
