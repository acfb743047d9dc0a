-- What a piece makes of a feed.
use Rattle.std.proofs.Common.{◌≡◌, ◌<◌, ◌≤◌, ◌+◌, ◌*◌, ◌-◌, ◌++◌, ◌⊎◌, ◌∙◌, ℕ, List, [], ◌∷◌, Option, Some, None, length, refl, sym, ap, subst, inl, inr, arith, length-append, take, drop, length-drop, Result, Ok, Err, rules}
use Rattle.std.proofs.lemmas.Grind.{common_steps}
use Rattle.std.proofs.{lemmas.List.append-nil, lemmas.List.length-take-le, lemmas.List.take_all, Math.Seq.drop-append-add}
use Rattle.bpf_words.specs.declared.Order.{Order}
use Rattle.bpf_insn.specs.declared.{insn.Insn.Insn, decode.InsnError.InsnError, whole_insns.InsnFront.InsnFront}
use Rattle.bpf_insn.specs.declared.fault.{SlotFault.SlotFault, SlotCause.SlotCause, SlotCause.TheVariants.Truncated}
use Rattle.bpf_insn.specs.declared.decode.InsnError.TheVariants as error
use Rattle.bpf_insn.specs.{Encoding.InsnFile, Encoding.file_of, Fronts.StopsAt}
use Rattle.bpf_insn.specs.Faults.{IsFront, IsInsnFault, IsSlotFault, moved_by}
use Rattle.bpf_insn.proofs.{FileLaws.fault_within, FrontLemmas.empty_begins_none, FrontLemmas.front_fault}
use Rattle.bpf_canon.specs.insn.FeedState.{FeedState, IsCut, missing_offset}
use Rattle.bpf_canon.specs.insn.FrontReads.{Advances, BeginsNone, Leaves, ReadsFront}
use Rattle.bpf_canon.specs.insn.FeedStream.{AnswersFor, Feeds, Finishes, Gains, HasFault, IsSound, Keeps, Moves, Represents, end_after, end_of_feed}
use Rattle.bpf_canon.proofs.InsnLemmas.FrontLaws.{cut_length, front-nil, front_counts, front_fits, front_joins, lasting_length, sound_cut, sound_file}

-- ---- what is held

pub cut_begins_none : (o : Order) (s : List ℕ) → IsCut o s → BeginsNone o s
cut_begins_none o s c = elim c [
  | inl e ↦ let P : List ℕ → Type 0 = λ x. BeginsNone o x in subst P (sym e) (empty_begins_none o)
  | inr f ↦ f.unencoded
]

-- a fault of missing bytes has their offset
pub cut_of_fault : (o : Order) (s : List ℕ) (at : ℕ) (cause : SlotCause) → cause ≡ Truncated → IsSlotFault o s (record { pos = at; cause = cause }) → IsCut o s
cut_of_fault o s at cause t f = grind arith

-- the rest of the held bytes and a piece: an instruction consumes all held bytes, or none
pub left_of : (array piece : List ℕ) (held_len len : ℕ) → held_len ≤ length array → (len ≡ 0) ⊎ (held_len ≤ len)
    → take (held_len - len) array ++ take (length piece - (len - held_len)) (drop (len - held_len) piece)
    ≡ drop len (take held_len array ++ piece)
left_of array piece held_len len fits all =
    let size : length (take held_len array) ≡ held_len = length-take-le held_len array fits in
    let tail : take (length piece - (len - held_len)) (drop (len - held_len) piece) ≡ drop (len - held_len) piece = grind (arith, take_all, length-drop) in
    grind (arith, drop-append-add)

-- the same, with the two lengths as they were computed
pub held_left : (array piece : List ℕ) (held_len len kept used : ℕ) → held_len ≤ length array → (len ≡ 0) ⊎ (held_len ≤ len) → kept ≡ held_len - len → used ≡ len - held_len
    → take kept array ++ take (length piece - used) (drop used piece) ≡ drop len (take held_len array ++ piece)
held_left array piece held_len len kept used fits all e f = rw (e, f) (left_of array piece held_len len fits all)

pub held_left_size : (array piece : List ℕ) (kept used : ℕ) (left : List ℕ) → kept ≤ length array
    → take kept array ++ take (length piece - used) (drop used piece) ≡ left
    → kept + length (take (length piece - used) (drop used piece)) ≡ length left
held_left_size array piece kept used left fits e = grind (arith, length-take-le, length-append)

-- if no instruction was complete, nothing was read
pub none_or_all : (o to : Order) (bytes old new : List ℕ) (read : InsnFront) (held_len : ℕ) → ReadsFront o to bytes read old new → (0 < read.count → held_len ≤ read.len)
    → (read.len ≡ 0) ⊎ (held_len ≤ read.len)
none_or_all o to bytes old new read held_len r h = grind (arith, common_steps)

-- ---- what is read of what is held and a piece

module _ (s : FeedState) (piece old new : List ℕ) (read : InsnFront) (reads : ReadsFront s.order s.to (s.held ++ piece) read old new) where
  left_size : length (drop read.len (s.held ++ piece)) + read.len ≡ length s.held + length piece
  left_size = omega (arith, length-drop read.len (s.held ++ piece), reads.within, length-append s.held piece)

  pub advance_counts : 8 * read.count + length (drop read.len (s.held ++ piece)) ≤ length s.held + length piece
  advance_counts = omega (arith, front_counts s.order (s.held ++ piece) reads.insns (drop read.len (s.held ++ piece)) reads.front, reads.counted, length-append s.held piece)

  -- the bytes ended with an instruction
  pub advance_whole : s.fault ≡ None → read.stop ≡ None
      → Advances s (record s { held = []; fed = s.fed + length piece; count = s.count + read.count }) piece old new
  advance_whole sound e = grind arith

  stopped : (f : SlotFault) → read.stop ≡ Some f → IsSlotFault s.order (drop read.len (s.held ++ piece)) f
  stopped f e = let P : Option SlotFault → Type 0 = λ x. StopsAt s.order (drop read.len (s.held ++ piece)) x in subst P e reads.stops

  pub advance_few : (f : SlotFault) → read.stop ≡ Some f → f.cause ≡ Truncated → length (drop read.len (s.held ++ piece)) < 16
  advance_few f e t = cut_length s.order (drop read.len (s.held ++ piece)) f.pos f.cause t (stopped f e)

  pub advance_cut : (f : SlotFault) → read.stop ≡ Some f → f.cause ≡ Truncated → IsCut s.order (drop read.len (s.held ++ piece))
  advance_cut f e t = cut_of_fault s.order (drop read.len (s.held ++ piece)) f.pos f.cause t (stopped f e)

  -- the bytes ended in the midst of an instruction
  pub advance_held : (f : SlotFault) (held : List ℕ) → s.fault ≡ None → read.stop ≡ Some f → f.cause ≡ Truncated → held ≡ drop read.len (s.held ++ piece)
      → Advances s (record s { held = held; fed = s.fed + length piece; count = s.count + read.count }) piece old new
  advance_held f held sound e t h = grind (arith, advance_cut)

  pub advance_within : (f : SlotFault) → read.stop ≡ Some f → read.len + f.pos ≤ length s.held + length piece
  advance_within f e = omega (arith, left_size, fault_within s.order (drop read.len (s.held ++ piece)) f.pos f.cause (stopped f e))

  -- the rest has a fault that no further bytes can change
  pub advance_faulty : (f : SlotFault) (start : ℕ) → read.stop ≡ Some f → (f.cause ≡ Truncated → ⊥) → start + length s.held ≡ s.fed
      → Advances s (record s {
        held = [];
        fed = s.fed + length piece;
        count = s.count + read.count;
        fault = Some (moved_by (start + read.len) f);
      }) piece old new
  advance_faulty f start e t at =
      let base : start + read.len ≡ s.fed + length piece - length (drop read.len (s.held ++ piece)) = omega (arith, at, left_size) in
      record {
        reads = refl;
        writes = refl;
        fed = refl;
        gained = reads.insns;
        left = drop read.len (s.held ++ piece);
        front = reads.front;
        counted = ap (λ (n : ℕ). s.count + n) reads.counted;
        grows = reads.grows;
        leaves = (refl, (f, (stopped f e, (t, ap (λ (n : ℕ). moved_by n f) base))));
      }

-- ---- a feed moves on

keeps_none : (o : Order) (b rest held : List ℕ) (fault : Option SlotFault) → fault ≡ None → Keeps o b rest held fault → IsSound o b × (held ≡ rest)
keeps_none o b rest held fault e k = let P : Option SlotFault → Type 0 = λ x. Keeps o b rest held x in subst P e k

-- the complete instructions of the longer stream
joined_front : (s t : FeedState) (o to : Order) (b piece old new : List ℕ) → s.fault ≡ None → (a : Advances s t piece old new) → (h : Represents s o to b)
    → IsFront o (b ++ piece) (h.insns ++ a.gained) a.left
joined_front s t o to b piece old new e a h =
    let k = keeps_none o b h.rest s.held s.fault e h.keeps in
    let P : Order → Type 0 = λ p. IsFront p (s.held ++ piece) a.gained a.left in
    let Q : List ℕ → Type 0 = λ x. IsFront o (x ++ piece) a.gained a.left in
    front_joins o b piece h.insns a.gained h.rest a.left h.front (subst Q k.1 (subst P h.reads a.front))

cut_sound : (o : Order) (b : List ℕ) (l : List Insn) (left : List ℕ) → IsFront o b l left → IsCut o left → IsSound o b
cut_sound o b l left f c = elim c [
  | inl e ↦ let P : List ℕ → Type 0 = λ x. IsFront o b l x in sound_file o b l (subst P e f)
  | inr g ↦ sound_cut o b l left (record { pos = missing_offset (length left); cause = Truncated }) f g refl
]

keeps_of : (o : Order) (b : List ℕ) (l : List Insn) (left held : List ℕ) (fed : ℕ) (fault : Option SlotFault) → IsFront o b l left → fed ≡ length b
    → Leaves o fed left held fault → Keeps o b left held fault
keeps_of o b l left held fed None f e k = (cut_sound o b l left f k.1, k.0)
keeps_of o b l left held fed (Some g) f e k =
    let s = k.1.0 in
    let x = k.1.1 in
    let some = lasting_length o left s.pos s.cause x.1.0 x.0 in
    let P : SlotFault → Type 0 = λ y. IsInsnFault o b y in (
      record {
        fault = subst P (sym x.1.1) (front_fault o b l left s (fed - length left) f (omega (arith, some)) x.0 (omega (arith, e, front_fits o o b l left f)));
        lasting = λ c. x.1.0 (ap (λ (y : SlotFault). y.cause) (sym x.1.1) ∙ c);
      },
      k.0,
    )

advanced_represents : (s t : FeedState) (o to : Order) (b piece old new : List ℕ) → s.fault ≡ None → Advances s t piece old new → Represents s o to b
    → Represents t o to (b ++ piece)
advanced_represents s t o to b piece old new e a h =
    let front = joined_front s t o to b piece old new e a h in
    let fed : t.fed ≡ length (b ++ piece) = omega (arith, a.fed, h.fed, length-append b piece) in
    let P : Order → Type 0 = λ p. Leaves p t.fed a.left t.held t.fault in
    record {
      reads = a.reads ∙ h.reads;
      writes = a.writes ∙ h.writes;
      fed = fed;
      insns = h.insns ++ a.gained;
      rest = a.left;
      front = front;
      count = omega (arith, a.counted, h.count, length-append h.insns a.gained);
      keeps = keeps_of o (b ++ piece) (h.insns ++ a.gained) a.left t.held t.fed t.fault front fed (subst P h.reads a.leaves);
    }

advanced_gains : (s t : FeedState) (o to : Order) (b piece old new : List ℕ) → s.fault ≡ None → Advances s t piece old new → Represents s o to b
    → Gains o to b piece old new
advanced_gains s t o to b piece old new e a h = record {
  before = h.insns;
  rest = h.rest;
  front = h.front;
  gained = a.gained;
  left = a.left;
  longer = joined_front s t o to b piece old new e a h;
  grows = a.grows ∙ ap (λ p. old ++ file_of p a.gained) h.writes;
}

pub advanced_moves : (s t : FeedState) (piece old new : List ℕ) → s.fault ≡ None → Advances s t piece old new → Moves s t piece old new
advanced_moves s t piece old new e a = search (rules, advanced_represents, advanced_gains)

-- an empty piece changes nothing
pub moves_none : (s : FeedState) (piece out : List ℕ) → length piece ≡ 0 → Moves s s piece out out
moves_none s piece out zero = record {
  represents = λ o to b h. let P : List ℕ → Type 0 = λ x. Represents s o to x in subst P (sym (same b)) h;
  gains = λ o to b h.
      let P : List ℕ → Type 0 = λ x. IsFront o x h.insns h.rest in
      let Q : List Insn → Type 0 = λ l. IsFront o (b ++ piece) l h.rest in
      record {
        before = h.insns;
        rest = h.rest;
        front = h.front;
        gained = [];
        left = h.rest;
        longer = subst Q (sym (append-nil h.insns)) (subst P (sym (same b)) h.front);
        grows = sym (append-nil out);
      };
}
  where
    empty : (ys : List ℕ) → length ys ≡ 0 → ys ≡ []
    empty [] e = refl
    empty (y ∷ ys) e = absurd (omega arith)

    same : (b : List ℕ) → b ++ piece ≡ b
    same b = ap (λ x. b ++ x) (empty piece zero) ∙ append-nil b

-- a new feed represents the empty stream
pub new_represents : (o to : Order) → Represents (record { order = o; to = to; held = []; fed = 0; count = 0; fault = None }) o to []
new_represents o to = record {
  reads = refl;
  writes = refl;
  fed = refl;
  insns = [];
  rest = [];
  front = front-nil o;
  count = refl;
  keeps = (sound_file o [] [] (front-nil o), refl);
}

-- what a feed keeps says what the stream has
pub keeps_answer : (s : FeedState) (o to : Order) (b : List ℕ) → Represents s o to b → s.fault ≡ None → IsSound o b
keeps_answer s o to b h e = (keeps_none o b h.rest s.held s.fault e h.keeps).0

pub keeps_fault : (s : FeedState) (o to : Order) (b : List ℕ) (f : SlotFault) → Represents s o to b → s.fault ≡ Some f → HasFault o b f
keeps_fault s o to b f h e = let P : Option SlotFault → Type 0 = λ x. Keeps o b h.rest s.held x in (subst P e h.keeps).0

-- the answer is that of the longer stream
pub feeds_answers : (s t : FeedState) (o to : Order) (b piece old new : List ℕ) (r : Result (Unit {0}) InsnError) → Feeds s t piece old new r → Represents s o to b
    → AnswersFor o (b ++ piece) r
feeds_answers s t o to b piece old new (Ok done) f h = keeps_answer t o to (b ++ piece) (f.0.represents o to b h) f.1.0
feeds_answers s t o to b piece old new (Err (error.Fault g)) f h = keeps_fault t o to (b ++ piece) g (f.0.represents o to b h) f.1.0
feeds_answers s t o to b piece old new (Err error.Memory) f h = tt

-- with a fault nothing is held
pub advanced_holds_none : (s t : FeedState) (piece old new : List ℕ) (f : SlotFault) → Advances s t piece old new → t.fault ≡ Some f → t.held ≡ []
advanced_holds_none s t piece old new f a e = grind arith

-- the output grows by at most the bytes held and those of the piece
pub advanced_bound : (s t : FeedState) (piece old new : List ℕ) → Advances s t piece old new → length new ≤ length old + (length s.held + length piece)
advanced_bound s t piece old new a =
    omega (
      arith,
      ap length a.grows,
      length-append old (file_of s.to a.gained),
      front_fits s.order s.to (s.held ++ piece) a.gained a.left a.front,
      length-append s.held piece,
    )

-- ---- the end of a stream

-- a feed that holds nothing has read a file
ends_whole : (s : FeedState) (o to : Order) (b : List ℕ) → s.fault ≡ None → s.held ≡ [] → Represents s o to b
    → (l : List Insn) × (InsnFile o b l × (s.count ≡ length l))
ends_whole s o to b e none h = grind (arith, append-nil)

-- the fault of what is held is that of the stream
ends_cut : (s : FeedState) (o to : Order) (b : List ℕ) → s.fault ≡ None → 0 < length s.held → length s.held ≤ s.fed → IsCut s.order s.held → Represents s o to b
    → IsInsnFault o b (record { pos = s.fed - length s.held + missing_offset (length s.held); cause = Truncated })
ends_cut s o to b e some small cut h =
    let k = keeps_none o b h.rest s.held s.fault e h.keeps in
    let P : Order → Type 0 = λ p. IsCut p s.held in
    let here : IsCut o s.held = subst P h.reads cut in
    let F : SlotFault = record { pos = missing_offset (length s.held); cause = Truncated } in
    let Q : List ℕ → Type 0 = λ x. IsSlotFault o x F in
    let f : IsSlotFault o s.held F = elim here [ inl none ↦ absurd (omega (arith, some, ap length none)) | inr g ↦ g ] in
    front_fault o b h.insns h.rest F (s.fed - length s.held) h.front (omega (arith, some, ap length k.1)) (subst Q k.1 f) (omega (arith, h.fed, small, ap length k.1))

pub ends : (s : FeedState) (o to : Order) (b : List ℕ) → length s.held ≤ s.fed → IsCut s.order s.held → Represents s o to b → Finishes o b (end_of_feed s)
ends s o to b small cut h = by_cases s.fault s.held refl refl
  where
    by_cases : (fault : Option SlotFault) (held : List ℕ) → s.fault ≡ fault → s.held ≡ held → Finishes o b (end_after s.fed s.count held fault)
    by_cases (Some f) held e same = (keeps_fault s o to b f h e).fault
    by_cases None [] e same = ends_whole s o to b e same h
    by_cases None (x ∷ xs) e same =
        let P : List ℕ → Type 0 = λ l. IsInsnFault o b (record { pos = s.fed - length l + missing_offset (length l); cause = Truncated }) in
        subst P same (ends_cut s o to b e (omega (arith, ap length same)) small cut h)

abbrev missing : ℕ → Result ℕ SlotFault
missing n = Err (record { pos = n; cause = Truncated })

pub end-cut : (fed count at : ℕ) (held : List ℕ) (fault : Option SlotFault) → fault ≡ None → 0 < length held → at ≡ fed - length held + missing_offset (length held)
    → Err (record { pos = at; cause = Truncated }) ≡ end_after fed count held fault
end-cut fed count at held fault e h p = grind arith
