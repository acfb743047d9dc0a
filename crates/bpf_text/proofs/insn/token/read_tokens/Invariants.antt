use Rattle.std.proofs.Common.{◌≡◌, ℕ, List, ◌++◌, length, map, false}
use Rattle.std.specs.List.{list_any}
use Rattle.bpf_text.specs.insn.Tokens.{is_stray, AreTokens}
use Rattle.bpf_text.proofs.insn.token.read_tokens.Given as goal

abbrev pub invariant-loop-token : goal.invariant-loop-token
invariant-loop-token l = record {
  none : list_any is_stray l.rest ≡ false;
  so_far : (more : List (List ℕ)) → AreTokens l.rest more → AreTokens l.code (map (λ t. t.now) l.tokens.items ++ more);
  only : (ts : List (List ℕ)) → AreTokens l.code ts → (more : List (List ℕ)) × (ts ≡ map (λ t. t.now) l.tokens.items ++ more) × AreTokens l.rest more;
}

abbrev pub decreases-loop-token : goal.decreases-loop-token
decreases-loop-token l = length l.rest
