use Rattle.std.proofs.Common.{rules, arith, ◌≡◌, ◌∙◌, None, ap, sym, length}
use Rattle.bpf_canon.specs.insn.FeedState.{FeedState}
use Rattle.bpf_canon.proofs.InsnLemmas.FeedLemmas.{advanced_bound, advanced_holds_none, advanced_moves, feeds_answers, keeps_answer, moves_none}
use Rattle.bpf_canon.proofs.insn.feed.InsnFeed.feed.Goals as goal
use Rattle.bpf_canon.proofs.insn.feed.InsnFeed.feed.Goals.{in-Some-fault, in-None}

pub returns-then-is_empty-clause-moves : goal.returns-then-is_empty-clause-moves
returns-then-is_empty-clause-moves g c = λ sound.
    let zero : length c.args.piece.now ≡ 0 = search rules in
    let fault : c.args.self.now.fault ≡ None = ap (λ (s : FeedState). s.fault) (sym c.self.view_is) ∙ c.in_default.is in
    (moves_none c.args.self.now c.args.piece.now c.args.out.now.items zero, (fault, omega (arith, zero)))

pub returns-then-is_empty-clause-answer : goal.returns-then-is_empty-clause-answer
returns-then-is_empty-clause-answer g c = λ o to b sound h.
    let zero : length c.args.piece.now ≡ 0 = search rules in
    let fault : c.args.self.now.fault ≡ None = ap (λ (s : FeedState). s.fault) (sym c.self.view_is) ∙ c.in_default.is in
    let moves = moves_none c.args.self.now c.args.piece.now c.args.out.now.items zero in
    keeps_answer c.args.self.now o to _ (moves.represents o to b h) fault

pub returns-clause-moves : goal.returns-clause-moves
returns-clause-moves g c = λ sound.
    let before : c.args.self.now.fault ≡ None = ap (λ (s : FeedState). s.fault) (sym c.self.view_is) ∙ c.in_default.is in
    let out : c.reserve.new.self.items ≡ c.args.out.now.items = c.reserve.ensures.items in
    let advances = rw out at c.advance.ensures in
    let moves = advanced_moves c.args.self.now c.advance.new.self c.args.piece.now _ _ before advances in
    let fault = ap (λ (s : FeedState). s.fault) (sym c.self-2.view_is) in
    elim c.match-self-2.branch [
      | in-Some-fault w ↦
          let is = fault ∙ w.in-Some-fault.is in
          rw w.result-is (moves, (is, (advanced_holds_none _ _ _ _ _ _ advances is, advances.fed)))
      | in-None w ↦ rw w.result-is (moves, (fault ∙ w.in-None.is, advances.fed))
    ]

pub returns-clause-answer : goal.returns-clause-answer
returns-clause-answer g c = λ o to b sound h.
    feeds_answers c.args.self.now c.advance.new.self o to b c.args.piece.now _ _ c.match-self-2.result (returns-clause-moves g c sound) h

pub returns-clause-bound : goal.returns-clause-bound
returns-clause-bound g c =
    let out : c.reserve.new.self.items ≡ c.args.out.now.items = c.reserve.ensures.items in
    let advances = rw out at c.advance.ensures in
    let bound = advanced_bound c.args.self.now c.advance.new.self c.args.piece.now _ _ advances in
    omega (arith, bound, c.advance.new.out.ok.0, c.args.out.now.ok.0)
