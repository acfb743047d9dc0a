-- The listing of instructions, which is written in pieces, line by line.
use Rattle.std.proofs.Common.{◌≡◌, ◌<◌, ◌≤◌, ◌+◌, ◌-◌, ◌++◌, ◌∙◌, ℕ, List, [], ◌∷◌, Option, length, take, drop, codes, refl, sym, ap, subst, arith, append_assoc, length-append, length-drop, All}
use Rattle.std.specs.{Prelude.Result, Prelude.Err, Result.IsErrAnd, Io.KnownBytes.Appends}
use Rattle.std.proofs.lemmas.List.{append-nil, drop-drop, flat_map_more, take_all, Concat.flat_map-append, Elements.All-head, Elements.All-tail}
use Rattle.std.proofs.{Math.Seq.drop-append_seam, KnownBytes.Appends-nil}
use Rattle.bpf_words.specs.declared.Order.{Order}
use Rattle.bpf_insn.specs.{declared.insn.Insn.Insn, declared.fault.SlotFault.SlotFault, Faults.BeginsWith, Faults.IsInsnFault, Faults.IsSlotFault}
use Rattle.bpf_insn.specs.{Table.IsInsn, Encoding.InsnFile, Encoding.file_of, Encoding.encoding}
use Rattle.bpf_insn.proofs.FileLaws.{at_least_a_slot, begins_once}
use Rattle.bpf_text.specs.insn.Lines.{line_of, listing_of}
use Rattle.bpfcanon.specs.declared.{job.Job.Job, verb.Verb.TheVariants.InsnShow, outcome.Outcome.TheVariants.Done, outcome.Outcome.TheVariants.Fault}
use Rattle.bpfcanon.specs.declared.commands.pieces.PutError.{PutError, TheVariants.Memory}
use Rattle.bpfcanon.specs.{Devices.Change, Devices.IsHealthy, Devices.change, commands.Errors.put_end, commands.Reply.limit_of, commands.Reply.shown, commands.Reply.unshown}
use Rattle.bpfcanon.specs.commands.Pieces.{Answers, Gathered, Gathers, Stopped, TookText, answered}
use Rattle.bpfcanon.proofs.CommandsLemmas.PiecesLemmas.{front_more, gathered_more, gathered_none, gathers_front, gathers_then, pieces_stopped, puts_handed, puts_then}

-- the lines of the instructions before an offset are gathered, and those of the others follow
pub record Listed (order : Order) (input : List ℕ) (at : ℕ) (sink : Change) (piece : List ℕ) : Type 0 where
  pub before : List Insn
  pub after : List Insn
  pub file : InsnFile order input (before ++ after)
  pub within : at ≤ length input
  pub each : All IsInsn after
  pub rest : drop at input ≡ file_of order after
  pub gathered : Gathered sink piece (listing_of before)

abbrev pub line : Insn → List ℕ
line i = line_of i ++ codes "\n"

-- the instruction at the offset
record Next (order : Order) (input : List ℕ) (at : ℕ) (after : List Insn) : Type 0 where
  pub insn : Insn
  pub others : List Insn
  pub is : after ≡ insn ∷ others
  pub begins : BeginsWith order insn (take (length input - at) (drop at input))

next : (order : Order) (input : List ℕ) (at : ℕ) (after : List Insn) → All IsInsn after → drop at input ≡ file_of order after → at < length input
    → Next order input at after
next order input at [] each rest more = absurd (omega (arith, ap length rest, length-drop at input, more))
next order input at (i ∷ t) each rest more = grind (arith, All-head, take_all, length-drop)

pub listed_none : (order : Order) (input : List ℕ) (a : Option (List ℕ)) (f : ℕ) → (l : List Insn) × InsnFile order input l → Listed order input 0 (change a a f f) []
listed_none order input a f l = record {
  before = [];
  after = l.0;
  file = l.1;
  within = omega arith;
  each = l.1.0;
  rest = l.1.1;
  gathered = gathered_none a f;
}

listing-push : (l : List Insn) (i : Insn) → listing_of l ++ line i ≡ listing_of (l ++ i ∷ [])
listing-push l i = flat_map_more line [] l i

-- the listing of at least one instruction isn't empty
a_line : (i : Insn) (t : List Insn) → 0 < length (listing_of (i ∷ t))
a_line i t = omega (arith, length-append (line i) (listing_of t), length-append (line_of i) (codes "\n"))

listing_split : (l t : List Insn) (i : Insn) → listing_of (l ++ i ∷ t) ≡ listing_of l ++ line i ++ listing_of t
listing_split l t i = flat_map-append line l (i ∷ t) ∙ sym (append_assoc (listing_of l) (line i) (listing_of t))

module _ (order : Order) (input : List ℕ) (at : ℕ) (a b : Option (List ℕ)) (f g : ℕ) (piece : List ℕ) (p : Listed order input at (change a b f g) piece) where
  -- one line more
  pub listed_more : (c : Option (List ℕ)) (h : ℕ) (kept : List ℕ) (i : Insn) (len : ℕ) → at < length input
      → BeginsWith order i (take (length input - at) (drop at input)) × (len ≡ length (encoding order i))
      → Gathered (change b c g h) kept (piece ++ line i) → Listed order input (at + len) (change a c f h) kept
  listed_more c h kept i len more found q =
      let n = next order input at p.after p.each p.rest more in
      let same : i ≡ n.insn = begins_once order i n.insn _ found.0 n.begins in
      let is : p.after ≡ i ∷ n.others = n.is ∙ ap (λ (x : Insn). x ∷ n.others) (sym same) in
      let rest : drop at input ≡ encoding order i ++ file_of order n.others = p.rest ∙ ap (file_of order) is in
      let left : drop (at + len) input ≡ file_of order n.others =
      sym (drop-drop len at input) ∙ ap (drop len) rest ∙ ap (λ (m : ℕ). drop m (encoding order i ++ file_of order n.others)) found.1
      ∙ drop-append_seam (encoding order i) (file_of order n.others) in
      let whole : p.before ++ p.after ≡ (p.before ++ i ∷ []) ++ n.others = grind (arith, append_assoc) in
      record {
        before = p.before ++ i ∷ [];
        after = n.others;
        file = subst (InsnFile order input) whole p.file;
        within = omega (arith, found.1, ap length rest, length-append (encoding order i) (file_of order n.others), length-drop at input, p.within);
        each = All-tail IsInsn i n.others (subst (All IsInsn) is p.each);
        rest = left;
        gathered = subst (Gathered (change a c f h) kept) (listing-push p.before i) (gathered_more a b c f g h piece kept (listing_of p.before) (line i) p.gathered q);
      }

  pub moved_on : (i : Insn) (len : ℕ) → at < length input → BeginsWith order i (take (length input - at) (drop at input)) × (len ≡ length (encoding order i))
      → length input - (at + len) < length input - at
  moved_on i len more found = omega (arith, more, found.1, at_least_a_slot order i)

  -- the slot at the offset doesn't have a fault
  pub faultless : (fault : SlotFault) → at < length input → IsSlotFault order (take (length input - at) (drop at input)) fault → ⊥
  faultless fault more at_fault = let n = next order input at p.after p.each p.rest more in at_fault.unencoded n.insn n.begins

  -- the piece with one line more couldn't be written
  pub listed_stopped : (c : Option (List ℕ)) (h : ℕ) (pushed kept : List ℕ) (i : Insn) (e : PutError) → at < length input → BeginsWith order i (take (length input - at) (drop at input))
      → pushed ≡ piece ++ line i → Gathers (change b c g h) kept pushed (Err e) → (l : List Insn) × (InsnFile order input l × TookText (change a c f h) (listing_of l) (Err e))
  listed_stopped c h pushed kept i e more found grown q =
      let n = next order input at p.after p.each p.rest more in
      let same : i ≡ n.insn = begins_once order i n.insn _ found n.begins in
      let is : p.after ≡ i ∷ n.others = n.is ∙ ap (λ (x : Insn). x ∷ n.others) (sym same) in
      let text : listing_of (p.before ++ p.after) ≡ listing_of p.before ++ line i ++ listing_of n.others = grind (arith, listing_split) in
      let part : Gathers (change a c f h) kept (listing_of p.before ++ line i) (Err e) =
      gathers_then a b c f g h piece kept _ _ (Err e) p.gathered (subst (λ (t : List ℕ). Gathers (change b c g h) kept t (Err e)) grown q) in
      (p.before ++ p.after, (p.file, subst (λ (t : List ℕ). TookText (change a c f h) t (Err e)) (sym text) (gathers_front (change a c f h) kept _ (listing_of n.others) e part)))

  -- memory ran out for the next line
  pub listed_front : at < length input → (l : List Insn) × (InsnFile order input l × TookText (change a b f g) (listing_of l) (Err Memory))
  listed_front more =
      let n = next order input at p.after p.each p.rest more in
      let text : listing_of (p.before ++ p.after) ≡ listing_of p.before ++ listing_of p.after = flat_map-append line p.before p.after in
      let some : 0 < length (listing_of p.after) = rw n.is (a_line n.insn n.others) in
      (p.before ++ p.after, (p.file, subst (λ (t : List ℕ). Stopped (change a b f g) t Memory) (sym text) (front_more a b f g piece (listing_of p.before) (listing_of p.after) some p.gathered)))

  -- all instructions are listed
  nothing_left : length input ≤ at → p.before ++ p.after ≡ p.before
  nothing_left done =
      ap (λ (x : List Insn). p.before ++ x) (none p.after (omega (arith, ap length p.rest, length-drop at input, done))) ∙ append-nil p.before
    where
      none : (xs : List Insn) → length (file_of order xs) ≡ 0 → xs ≡ []
      none [] e = refl
      none (x ∷ xs) e = absurd (omega (arith, e, length-append (encoding order x) (file_of order xs), at_least_a_slot order x))

  -- the sink received the last piece, or a part of it
  pub listed_put : (c : Option (List ℕ)) (h : ℕ) (r : Result (Unit {0}) PutError) → length input ≤ at → TookText (change b c g h) piece r
      → (l : List Insn) × (InsnFile order input l × TookText (change a c f h) (listing_of l) r)
  listed_put c h r done q =
      (p.before, (subst (InsnFile order input) (nothing_left done) p.file, puts_then a b c f g h piece (listing_of p.before) r p.gathered q))

-- a call returns the result of a call that it made
pub listed_handed : (order : Order) (input : List ℕ) (sink : Change) (e : PutError) (r : Result (Unit {0}) PutError) → IsErrAnd r (λ x. x ≡ e)
    → (l : List Insn) × (InsnFile order input l × TookText sink (listing_of l) (Err e)) → (l : List Insn) × (InsnFile order input l × TookText sink (listing_of l) r)
listed_handed order input sink e r same put = (put.0, (put.1.0, puts_handed sink (listing_of put.0) e r same put.1.1))

-- ---- how insn-show ends

pub show_fault : (j : Job) (input : List ℕ) (a : Option (List ℕ)) (f : ℕ) (fault : SlotFault) → j.verb ≡ InsnShow → length input ≤ limit_of InsnShow
    → IsInsnFault j.order input fault → Answers j input (change a a f f) (Fault fault)
show_fault j input a f fault show within at_fault = answered (Fault fault) [] (rw show (unshown fault within at_fault)) (Appends-nil a) refl

pub show_done : (j : Job) (input : List ℕ) (sink : Change) → j.verb ≡ InsnShow → length input ≤ limit_of InsnShow
    → (l : List Insn) × (InsnFile j.order input l × (Appends sink.old sink.new (listing_of l) × IsHealthy sink)) → Answers j input sink Done
show_done j input sink show within put = answered Done (listing_of put.0) (rw show (shown put.0 within put.1.0)) put.1.1.0 put.1.1.1

pub show_stopped : (j : Job) (input : List ℕ) (sink : Change) (e : PutError) → j.verb ≡ InsnShow → length input ≤ limit_of InsnShow
    → (l : List Insn) × (InsnFile j.order input l × Stopped sink (listing_of l) e) → Answers j input sink (put_end e)
show_stopped j input sink e show within put =
    pieces_stopped j input (listing_of put.0) sink e (rw show refl) (rw show (shown put.0 within put.1.0)) put.1.1

-- what the search cites of the ends of insn-show
pub ruleset show_ends = (show_fault, show_done, show_stopped)
