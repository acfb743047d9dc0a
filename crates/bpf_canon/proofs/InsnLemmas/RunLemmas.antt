-- An engine between two reads.
use Rattle.std.proofs.Common.{◌≡◌, ◌<◌, ◌≤◌, ◌+◌, ◌-◌, ◌++◌, ◌∙◌, ℕ, List, [], Option, None, length, take, min, refl, sym, ap, subst, arith, length-append}
use Rattle.std.proofs.lemmas.Grind.{common_steps}
use Rattle.std.proofs.lemmas.List.{append-nil, take_all, take_min, take-take, length-take-le, Concat.flat_map-append}
use Rattle.std.proofs.Math.{Seq.take-append-add, Seq.take-append_seam, Nat.min_comm}
use Rattle.std.proofs.KnownBytes.{Appends-trans, Consumes-trans, Consumes-kept}
use Rattle.std.specs.Io.KnownBytes.{Appends, Consumes, IsAtEnd, Keeps as KeepsBytes}
use Rattle.bpf_words.specs.declared.Order.{Order}
use Rattle.bpf_insn.specs.declared.{insn.Insn.Insn, fault.SlotFault.SlotFault}
use Rattle.bpf_insn.specs.{Encoding.InsnFile, Encoding.file_of, Faults.IsFront, Faults.IsInsnFault}
use Rattle.bpf_insn.proofs.FrontLemmas.{one_front}
use Rattle.bpf_canon.specs.declared.engine.RunCause.{RunCause}
use Rattle.bpf_canon.specs.declared.engine.RunCause.TheVariants as cause
use Rattle.bpf_canon.specs.insn.{FeedState.FeedState, Passed.Passed, Passed.PassStops, FeedStream.IsSound, FeedStream.Moves, FeedStream.Represents}
use Rattle.bpf_canon.specs.{device.Reads.read_capacity, Engine.Devices, Engine.devices}
use Rattle.bpf_canon.specs.insn.Run.{RanWhole, StopsAtFault, StopsTooLong, StopsUnread, Stops, WroteAll, limit}
use Rattle.bpf_canon.proofs.InsnLemmas.FeedLemmas.{keeps_answer, keeps_fault}
use Rattle.bpf_canon.proofs.InsnLemmas.FrontLaws.{file_front, front_fits, front_grows}

-- the engine so far: the feed represents the bytes read, and the sink accepted all complete instructions
pub record Running (d : Devices) (o to : Order) (s : FeedState) (written : ℕ) : Type 0 where
  pub read : List ℕ
  pub came : Consumes d.source d.source_after read
  pub within : length read ≤ limit
  pub insns : List Insn
  pub rest : List ℕ
  pub front : IsFront o read insns rest
  pub represents : Represents s o to read
  pub sound : s.fault ≡ None
  pub took : Appends d.sink d.sink_after (file_of to insns)
  pub all : written ≡ length (file_of to insns)

front_within : (o to : Order) (b : List ℕ) (l : List Insn) (rest : List ℕ) → IsFront o b l rest → length (file_of to l) ≤ length b
front_within o to b l rest f = omega (arith, front_fits o to b l rest f)

pub running_within : (d : Devices) (o to : Order) (s : FeedState) (n : ℕ) → Running d o to s n → s.fed ≤ limit
running_within d o to s n r = omega (arith, r.represents.fed, r.within)

-- the bytes read before the source failed or ended
wrote_read : (a b c p q : Option (List ℕ)) (o to : Order) (s : FeedState) (n : ℕ) (r : Running (devices a b p q) o to s n) → Consumes a c r.read
    → WroteAll (devices a c p q) o to r.read n
wrote_read a b c p q o to s n r came =
    let P : List ℕ → Type 0 = λ x. IsFront o x r.insns r.rest in
    record {
      came = came;
      near = omega (arith, r.within);
      insns = r.insns;
      rest = r.rest;
      front = subst P (sym (take_all limit r.read r.within)) r.front;
      took = r.took;
      all = r.all;
    }

-- a read failed
pub run_unread : (a b c p q : Option (List ℕ)) (o to : Order) (s : FeedState) (n : ℕ) → Running (devices a b p q) o to s n → KeepsBytes b c
    → StopsUnread (devices a c p q) o to n
run_unread a b c p q o to s n r k =
    let Q : List ℕ → Type 0 = λ x. IsSound o x in
    record {
      read = r.read;
      wrote = wrote_read a b c p q o to s n r (Consumes-kept a b c r.read r.came k);
      sound = subst Q (sym (take_all limit r.read r.within)) (keeps_answer s o to r.read r.represents r.sound);
      within = r.within;
    }

same_at_end : (a b c : Option (List ℕ)) (read : List ℕ) → Consumes a b read → Consumes b c [] → Consumes a c read
same_at_end a b c read h k = let P : List ℕ → Type 0 = λ x. Consumes a c x in subst P (append-nil read) (Consumes-trans a b c read [] h k)

-- the source ended
pub run_whole : (a b c p q : Option (List ℕ)) (o to : Order) (s : FeedState) (n : ℕ) → Running (devices a b p q) o to s n → Consumes b c [] → IsAtEnd c
    → ((read : List ℕ) → Represents s o to read → (l : List Insn) × InsnFile o read l)
    → RanWhole (devices a c p q) o to n
run_whole a b c p q o to s n r k end whole =
    let w = whole r.read r.represents in
    let once = one_front o r.read w.0 r.insns [] r.rest (file_front o r.read w.0 w.1) r.front in
    let P : List Insn → Type 0 = λ l. Appends p q (file_of to l) in
    grind arith

pub run_cut : (a b c p q : Option (List ℕ)) (o to : Order) (s : FeedState) (n : ℕ) (f : SlotFault) → Running (devices a b p q) o to s n → Consumes b c [] → IsAtEnd c
    → ((read : List ℕ) → Represents s o to read → IsInsnFault o read f)
    → StopsAtFault (devices a c p q) o to n f
run_cut a b c p q o to s n f r k end fault =
    let Q : List ℕ → Type 0 = λ x. IsInsnFault o x f in
    record {
      read = r.read;
      wrote = wrote_read a b c p q o to s n r (same_at_end a b c r.read r.came k);
      fault = subst Q (sym (take_all limit r.read r.within)) (fault r.read r.represents);
      ended = λ _. (end, r.within);
    }

-- what a piece adds
record Adds (o to : Order) (t : FeedState) (read piece : List ℕ) (before : List Insn) (out : List ℕ) : Type 0 where
  gained : List Insn
  left : List ℕ
  front : IsFront o (read ++ piece) (before ++ gained) left
  made : out ≡ file_of to gained
  represents : Represents t o to (read ++ piece)

adds_of : (o to : Order) (s t : FeedState) (read piece : List ℕ) (before : List Insn) (rest out : List ℕ) → IsFront o read before rest
    → Represents s o to read → Moves s t piece [] out → Adds o to t read piece before out
adds_of o to s t read piece before rest out front h m =
    let g = m.gains o to read h in
    let once = one_front o read g.before before g.rest rest g.front front in
    let P : List Insn → Type 0 = λ l. IsFront o (read ++ piece) (l ++ g.gained) g.left in
    record { gained = g.gained; left = g.left; front = subst P once.0 g.longer; made = g.grows; represents = m.represents o to read h }

size_more : (to : Order) (before gained : List Insn) (out : List ℕ) (n k : ℕ) → n ≡ length (file_of to before) → k ≡ length out → out ≡ file_of to gained
    → n + k ≡ length (file_of to (before ++ gained))
size_more to before gained out n k h j e = grind (arith, flat_map-append, length-append)

-- one more piece within the limit
pub run_more : (a b c p q r : Option (List ℕ)) (o to : Order) (s t : FeedState) (n k : ℕ) (piece : List ℕ) → Running (devices a b p q) o to s n
    → Consumes b c piece → Passed s t piece q r k → s.fed + length piece ≤ limit → Running (devices a c p r) o to t (n + k)
run_more a b c p q r o to s t n k piece h came x fits =
    let adds = adds_of o to s t h.read piece h.insns h.rest x.out h.front h.represents x.moves in
    grind (arith, common_steps)

-- the bytes read with a chunk; a piece of it is within the limit, and the sink accepted the instructions that it completed
wrote_chunk : (a b c p q r : Option (List ℕ)) (o to : Order) (s t : FeedState) (n k : ℕ) (chunk piece out : List ℕ) → (h : Running (devices a b p q) o to s n)
    → Consumes b c chunk → Adds o to t h.read piece h.insns out → Appends q r out → k ≡ length out → take limit (h.read ++ chunk) ≡ h.read ++ piece
    → length chunk ≤ read_capacity → WroteAll (devices a c p r) o to (h.read ++ chunk) (n + k)
wrote_chunk a b c p q r o to s t n k chunk piece out h came adds took all cut small = grind (arith, common_steps)

-- more than the limit came
pub run_too_long : (a b c p q r : Option (List ℕ)) (o to : Order) (s t : FeedState) (n k : ℕ) (chunk piece : List ℕ) → (h : Running (devices a b p q) o to s n)
    → Consumes b c chunk → Passed s t piece q r k → take limit (h.read ++ chunk) ≡ h.read ++ piece → limit < s.fed + length chunk
    → length chunk ≤ read_capacity → StopsTooLong (devices a c p r) o to (n + k)
run_too_long a b c p q r o to s t n k chunk piece h came x cut beyond small =
    let adds = adds_of o to s t h.read piece h.insns h.rest x.out h.front h.represents x.moves in
    let Q : List ℕ → Type 0 = λ b. IsSound o b in
    record {
      read = h.read ++ chunk;
      wrote = wrote_chunk a b c p q r o to s t n k chunk piece x.out h came adds x.took x.all cut small;
      sound = subst Q (sym cut) (keeps_answer t o to _ adds.represents x.sound);
      beyond = omega (arith, beyond, h.represents.fed, length-append h.read chunk);
    }

-- the piece stops the engine
pub run_stops : (a b c p q r : Option (List ℕ)) (o to : Order) (s t : FeedState) (n k : ℕ) (chunk piece : List ℕ) (why : RunCause SlotFault) → (h : Running (devices a b p q) o to s n)
    → Consumes b c chunk → PassStops s t piece q r k why → take limit (h.read ++ chunk) ≡ h.read ++ piece
    → length chunk ≤ read_capacity → Stops (devices a c p r) o to (n + k) why
run_stops a b c p q r o to s t n k chunk piece (cause.Fault f) h came x cut small =
    let adds = adds_of o to s t h.read piece h.insns h.rest x.out h.front h.represents x.moves in
    let has = keeps_fault t o to _ f adds.represents x.faulty in
    let Q : List ℕ → Type 0 = λ b. IsInsnFault o b f in
    record {
      read = h.read ++ chunk;
      wrote = wrote_chunk a b c p q r o to s t n k chunk piece x.out h came adds x.took x.all cut small;
      fault = subst Q (sym cut) has.fault;
      ended = λ e. absurd (has.lasting e);
    }
run_stops a b c p q r o to s t n k chunk piece cause.TooLong h came x cut small = absurd x
run_stops a b c p q r o to s t n k chunk piece cause.ReadFailed h came x cut small = absurd x
run_stops a b c p q r o to s t n k chunk piece cause.WriteFailed h came x cut small =
    let adds = adds_of o to s t h.read piece h.insns h.rest x.out h.front h.represents x.moves in
    let P : List ℕ → Type 0 = λ b. IsFront o b (h.insns ++ adds.gained) adds.left in
    record {
      read = h.read ++ chunk;
      wrote = record {
        came = Consumes-trans a b c h.read chunk h.came came;
        near = omega (arith, small, h.within, length-append h.read chunk);
        prefix = λ insns rest f.
            let once = one_front o (take limit (h.read ++ chunk)) (h.insns ++ adds.gained) insns adds.left rest (subst P (sym cut) adds.front) f in
            let whole : file_of to insns ≡ file_of to h.insns ++ x.out = grind (arith, flat_map-append) in
            let part : take (n + k) (file_of to insns) ≡ file_of to h.insns ++ take k x.out = grind (arith, take-append-add) in
            let R : List ℕ → Type 0 = λ y. Appends p r y in (
              omega (arith, h.all, x.prefix, ap length whole, length-append (file_of to h.insns) x.out),
              subst R (sym part) (Appends-trans p q r _ _ h.took x.took),
            );
      };
    }
run_stops a b c p q r o to s t n k chunk piece cause.Memory h came x cut small = record {
  read = h.read ++ chunk;
  wrote = record {
    came = Consumes-trans a b c h.read chunk h.came came;
    near = omega (arith, small, h.within, length-append h.read chunk);
    prefix = λ insns rest f.
        let Q : List ℕ → Type 0 = λ b. IsFront o b insns rest in
        let grown = front_grows o h.insns insns h.read piece h.rest rest h.front (subst Q cut f) in
        let whole : file_of to insns ≡ file_of to h.insns ++ file_of to grown.0 = grind (arith, flat_map-append) in
        let size : n + k ≡ length (file_of to h.insns) = omega (arith, h.all, x.0) in
        let part : take (n + k) (file_of to insns) ≡ file_of to h.insns = grind (arith, take-append_seam) in
        let R : List ℕ → Type 0 = λ y. Appends p r y in (
          omega (arith, size, ap length whole, length-append (file_of to h.insns) (file_of to grown.0)),
          subst R (append-nil (file_of to h.insns) ∙ sym part) (Appends-trans p q r _ [] h.took x.1),
        );
  };
}

-- what of a chunk is within the limit
pub within_cut : (read chunk : List ℕ) (fed within : ℕ) → fed ≡ length read → fed ≤ limit → within ≡ min (length chunk) (limit - fed)
    → take limit (read ++ chunk) ≡ read ++ take within chunk
within_cut read chunk fed within e h w =
    let k = limit - fed in
    let split : limit ≡ length read + k = omega (arith, e, h) in
    let long : take limit (read ++ chunk) ≡ read ++ take k chunk = ap (λ m. take m (read ++ chunk)) split ∙ take-append-add read chunk k in
    long ∙ ap (λ x. read ++ x) (sym (ap (λ m. take m chunk) w ∙ ap (λ m. take m chunk) (min_comm (length chunk) k) ∙ take_min k chunk))

-- what is in a part of a read is in the read
pub cut_chunk : (read buffer : List ℕ) (fed n within : ℕ) → fed ≡ length read → fed ≤ limit → n ≤ length buffer → within ≡ min n (limit - fed)
    → take limit (read ++ take n buffer) ≡ read ++ take within buffer
cut_chunk read buffer fed n within e h l w = grind (arith, length-take-le, within_cut, take-take)

-- the instructions that a piece within the limit completes are within the limit
out_within : (a b p q : Option (List ℕ)) (o to : Order) (s t : FeedState) (n : ℕ) (piece out : List ℕ)
    → Running (devices a b p q) o to s n → Moves s t piece [] out → s.fed + length piece ≤ limit → n + length out ≤ limit
out_within a b p q o to s t n piece out h moves fits =
    let adds = adds_of o to s t h.read piece h.insns h.rest out h.front h.represents moves in
    omega (
      arith,
      fits,
      h.represents.fed,
      length-append h.read piece,
      front_within o to _ _ _ adds.front,
      size_more to h.insns adds.gained out n (length out) h.all refl adds.made,
    )

-- what a piece that stops the engine adds is small
pub stops_small : (a b p q r : Option (List ℕ)) (o to : Order) (s t : FeedState) (n k : ℕ) (piece : List ℕ) (why : RunCause SlotFault)
    → Running (devices a b p q) o to s n → PassStops s t piece q r k why → s.fed + length piece ≤ limit → n + k ≤ limit
stops_small a b p q r o to s t n k piece (cause.Fault f) h x fits = omega (arith, x.all, out_within a b p q o to s t n piece x.out h x.moves fits)
stops_small a b p q r o to s t n k piece cause.TooLong h x fits = absurd x
stops_small a b p q r o to s t n k piece cause.ReadFailed h x fits = absurd x
stops_small a b p q r o to s t n k piece cause.WriteFailed h x fits = omega (arith, x.prefix, out_within a b p q o to s t n piece x.out h x.moves fits)
stops_small a b p q r o to s t n k piece cause.Memory h x fits = grind (arith, front_within)

pub passed_small : (a b p q r : Option (List ℕ)) (o to : Order) (s t : FeedState) (n k : ℕ) (piece : List ℕ)
    → Running (devices a b p q) o to s n → Passed s t piece q r k → s.fed + length piece ≤ limit → n + k ≤ limit
passed_small a b p q r o to s t n k piece h x fits = omega (arith, x.all, out_within a b p q o to s t n piece x.out h x.moves fits)
