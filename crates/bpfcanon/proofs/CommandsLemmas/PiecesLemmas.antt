-- Output that is written in pieces.
use Rattle.std.proofs.Common.{◌≡◌, ◌<◌, ◌+◌, ◌++◌, ◌∙◌, ℕ, List, [], Option, inl, inr, length, take, refl, sym, ap, subst, arith, append_assoc, length-append}
use Rattle.std.specs.{Prelude.Result, Prelude.Ok, Prelude.Err, Prelude.true, Result.IsErrAnd, Io.KnownBytes.Appends}
use Rattle.std.proofs.{lemmas.List.append-nil, lemmas.List.take-append-le, KnownBytes.Appends-nil, KnownBytes.Appends-trans}
use Rattle.std.proofs.Math.Seq.{take-append-add, take-append_seam}
use Rattle.bpfcanon.specs.declared.{job.Job.Job, outcome.Outcome.Outcome, outcome.Outcome.TheVariants.Done}
use Rattle.bpfcanon.specs.declared.commands.pieces.PutError.{PutError, TheVariants.WriteFailed, TheVariants.Memory}
use Rattle.bpfcanon.specs.{Devices.Change, Devices.change, commands.Reply.IsReply, commands.Reply.in_pieces}
use Rattle.bpfcanon.specs.commands.{Errors.put_end}
use Rattle.bpfcanon.specs.commands.Pieces.{Answers, EndsEmpty, Gathered, Gathers, Stopped, TookText, answered, refused, refused_amid, unwritten}

module _ (a b c : Option (List ℕ)) (f g h : ℕ) where
  -- more output, a part of which went to the sink
  pub gathered_more : (held kept text line : List ℕ) → Gathered (change a b f g) held text → Gathered (change b c g h) kept (held ++ line)
      → Gathered (change a c f h) kept (text ++ line)
  gathered_more held kept text line p q = grind (arith, Appends-trans, append_assoc)

  -- the sink received the rest
  gathered_all : (held text : List ℕ) → Gathered (change a b f g) held text → Appends b c held → h ≡ g → Appends a c text × (h ≡ f)
  gathered_all held text p took healthy = grind (arith, Appends-trans)

  -- writing stopped inside the held piece and one more line
  stopped_amid : (held text line more : List ℕ) (e : PutError) → Gathered (change a b f g) held text → Stopped (change b c g h) (held ++ line) e
      → Stopped (change a c f h) (text ++ line ++ more) e
  stopped_amid held text line more e p q =
      let whole : text ++ line ++ more ≡ p.taken ++ ((held ++ line) ++ more) = grind (arith, append_assoc) in
      let front : take (length p.taken + q.count) (text ++ line ++ more) ≡ p.taken ++ take q.count (held ++ line) = grind (arith, take-append-add, take-append-le) in
      let took : Appends a c (p.taken ++ take q.count (held ++ line)) = Appends-trans a b c p.taken (take q.count (held ++ line)) p.took q.took in
      grind (arith, length-append)

  stopped_then : (held text line : List ℕ) (e : PutError) → Gathered (change a b f g) held text → Stopped (change b c g h) (held ++ line) e
      → Stopped (change a c f h) (text ++ line) e
  stopped_then held text line e p q =
      subst (λ (x : List ℕ). Stopped (change a c f h) x e) (append-nil (text ++ line)) (stopped_amid held text line [] e p q)

  -- the sink received the rest, or a part of it
  pub puts_then : (held text : List ℕ) (r : Result (Unit {0}) PutError) → Gathered (change a b f g) held text → TookText (change b c g h) held r
      → TookText (change a c f h) text r
  puts_then held text (Ok done) p q = gathered_all held text p q.0 q.1
  puts_then held text (Err e) p q =
      let part : Stopped (change b c g h) (held ++ []) e = subst (λ (x : List ℕ). Stopped (change b c g h) x e) (sym (append-nil held)) q in
      subst (λ (x : List ℕ). Stopped (change a c f h) x e) (append-nil text) (stopped_then held text [] e p part)

  -- a call added a line to the gathered output
  pub gathers_then : (held kept text line : List ℕ) (r : Result (Unit {0}) PutError) → Gathered (change a b f g) held text
      → Gathers (change b c g h) kept (held ++ line) r → Gathers (change a c f h) kept (text ++ line) r
  gathers_then held kept text line (Ok done) p q = gathered_more held kept text line p q
  gathers_then held kept text line (Err e) p q = stopped_then held text line e p q

-- an incomplete output, and what would follow it
pub gathers_front : (sink : Change) (kept text more : List ℕ) (e : PutError) → Gathers sink kept text (Err e) → Gathers sink kept (text ++ more) (Err e)
gathers_front sink kept text more e p = grind (arith, take-append-le, length-append)

-- a call returns the result of a call that it made
pub gathers_handed : (sink : Change) (kept text : List ℕ) (e : PutError) (r : Result (Unit {0}) PutError) → IsErrAnd r (λ x. x ≡ e) → Gathers sink kept text (Err e)
    → Gathers sink kept text r
gathers_handed sink kept text e (Ok done) same p = absurd same
gathers_handed sink kept text e (Err other) same p = subst (λ (x : PutError). Gathers sink kept text (Err x)) (sym same) p

pub puts_handed : (sink : Change) (text : List ℕ) (e : PutError) (r : Result (Unit {0}) PutError) → IsErrAnd r (λ x. x ≡ e) → TookText sink text (Err e) → TookText sink text r
puts_handed sink text e (Ok done) same p = absurd same
puts_handed sink text e (Err other) same p = subst (λ (x : PutError). TookText sink text (Err x)) (sym same) p

-- memory ran out before anything of a nonempty output was written
pub gathers_none : (a : Option (List ℕ)) (f : ℕ) (kept old more : List ℕ) (r : Result (Unit {0}) PutError) → 0 < length more → IsErrAnd r (λ x. x ≡ Memory)
    → Gathers (change a a f f) kept (old ++ more) r
gathers_none a f kept old more r some same = grind (arith, length-append, Appends-nil)

-- nothing is gathered yet
pub gathered_none : (a : Option (List ℕ)) (f : ℕ) → Gathered (change a a f f) [] []
gathered_none a f = record { taken = []; took = Appends-nil a; whole = refl; healthy = refl }

-- memory ran out for the bytes that follow the output
pub front_more : (a b : Option (List ℕ)) (f g : ℕ) (held text more : List ℕ) → 0 < length more → Gathered (change a b f g) held text → Stopped (change a b f g) (text ++ more) Memory
front_more a b f g held text more some p =
    let whole : text ++ more ≡ p.taken ++ (held ++ more) = ap (λ (x : List ℕ). x ++ more) p.whole ∙ append_assoc p.taken held more in
    let front : take (length p.taken) (text ++ more) ≡ p.taken = ap (take (length p.taken)) whole ∙ take-append_seam p.taken (held ++ more) in
    grind (arith, length-append)

-- the job of a command that couldn't write all pieces of its output
pub pieces_stopped : (j : Job) (input output : List ℕ) (sink : Change) (e : PutError) → in_pieces j.verb ≡ true → IsReply j.verb j input Done output
    → Stopped sink output e → Answers j input sink (put_end e)
pieces_stopped j input output sink WriteFailed pieces reply put = unwritten Done output reply put
pieces_stopped j input output sink Memory pieces reply put = refused_amid Done output pieces reply put

-- the job of a command ends without output
pub empty_end : (j : Job) (input : List ℕ) (a : Option (List ℕ)) (f : ℕ) (outcome : Outcome) → EndsEmpty (IsReply j.verb j input) outcome
    → Answers j input (change a a f f) outcome
empty_end j input a f outcome (inl e) = rw e (refused (refl, refl))
empty_end j input a f outcome (inr reply) = answered outcome [] reply (Appends-nil a) refl
