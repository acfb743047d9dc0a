use Rattle.std.proofs.Common.{◌≡◌, ℕ, List, [], ◌∷◌, ◌++◌, map, ap, ◌∙◌, append-nil}
use Rattle.std.specs.Borrow.{Bor}
use Rattle.std.proofs.lemmas.List.{map-append, length-map}
use Rattle.bpf_text.specs.insn.Tokens.{StartsWithToken}
use Rattle.bpf_text.proofs.InsnLemmas.TokenLemmas.{none_stray_following, token_more}
use Rattle.bpf_text.proofs.InsnLemmas.{Outcomes.on_ok, Outcomes.on_err, TokensExist.only_more, TokensExist.one_too_many}
use Rattle.bpf_text.proofs.insn.token.read_tokens.Goals as goal

abbrev bytes_of : Bor (List ℕ) → List ℕ
bytes_of t = t.now

pub loop-token-preserved : goal.loop-token-preserved
loop-token-preserved c =
    let starts : StartsWithToken c.loop-token.rest.now c.in-Some.token.now c.in-Some.after.now = c.in-Some.ensures.some in
    let pushed : map bytes_of c.try_push.new.self.items ≡ map bytes_of c.loop-token.tokens.items ++ c.in-Some.token.now ∷ [] =
    ap (map bytes_of) (on_ok _ c.try_push.result c.is_err.result c.is_err.ensures.value c.if-is_err.false c.try_push.ensures.ok) ∙ map-append bytes_of c.loop-token.tokens.items (c.in-Some.token ∷ []) in
    record {
      none = none_stray_following c.loop-token.rest.now c.in-Some.token.now c.in-Some.after.now starts c.loop-token.invariant.none;
      so_far = λ more h. rw pushed (token_more c.args.code.now c.loop-token.rest.now c.in-Some.token.now c.in-Some.after.now (map bytes_of c.loop-token.tokens.items) starts c.loop-token.invariant.so_far more h);
      only = λ ts h.
          let w = c.loop-token.invariant.only ts h in
          rw pushed (only_more c.loop-token.rest.now c.in-Some.token.now c.in-Some.after.now (map bytes_of c.loop-token.tokens.items) ts w.0 starts w.1 w.2);
    }

pub returns-then-is_err : goal.returns-then-is_err
returns-then-is_err c = λ ts h.
    let w = c.loop-token.invariant.only ts h in
    one_too_many c.loop-token.rest.now c.in-Some.token.now c.in-Some.after.now (map bytes_of c.loop-token.tokens.items) ts w.0 17 c.in-Some.ensures.some w.1 w.2
    (length-map c.loop-token.tokens.items bytes_of ∙ on_err _ c.try_push.result c.is_err.result c.is_err.ensures.value c.if-is_err.true c.try_push.ensures.full)

pub returns : goal.returns
returns c =
    rw append-nil at (c.loop-token.invariant.so_far [] c.in_default.ensures.none)
