-- The outcomes of insn-canon, by the result of its engine.
use Rattle.std.proofs.Common.{◌≡◌, ◌∙◌, ◌+◌, ℕ, List, [], take, refl, subst, inl, inr, arith, add-zero}
use Rattle.std.specs.Io.KnownBytes.{Appends}
use Rattle.std.proofs.lemmas.List.{take-take}
use Rattle.bpf_words.specs.declared.Order.{Order}
use Rattle.bpf_insn.specs.{declared.insn.Insn.Insn, declared.fault.SlotFault.SlotFault, Encoding.file_of, Faults.IsFront}
use Rattle.bpf_insn.proofs.FrontLemmas.{one_front}
use Rattle.bpf_canon.specs.declared.engine.RunCause.{RunCause}
use Rattle.bpf_canon.specs.declared.engine.RunCause.TheVariants as cause
use Rattle.bpf_canon.specs.Engine.{Devices, counts_read, counts_write}
use Rattle.bpf_canon.specs.insn.{Run.RanWhole, Run.Stops, Run.Wrote, Run.WroteAll, Run.limit, FeedStream.IsSound}
use Rattle.bpf_canon.proofs.InsnLemmas.FrontLaws.{file_front, truncated_or_not}
use Rattle.bpfcanon.specs.{declared.job.Job.Job, declared.verb.Verb.TheVariants.InsnCanon, Devices.Change, Devices.IsHealthy}
use Rattle.bpfcanon.specs.declared.outcome.Outcome.{Outcome, TheVariants.Done, TheVariants.Fault, TheVariants.TooLong}
use Rattle.bpfcanon.specs.commands.Reply.{HasLastingFault, IsCanonReply, canonical, canonical_to_fault, canonical_to_limit}
use Rattle.bpfcanon.specs.JobEnds.{EndsJob, TookAll, IsEndOfStop, TookPrefix, no_memory_amid, read_failed_amid, replied, write_failed_amid}

-- the bytes of the devices before and after, without their counts of failures
abbrev pub devices_of : Change → Change → Devices
devices_of source sink = record { source = source.old; source_after = source.new; sink = sink.old; sink_after = sink.new }

-- the output for the bytes read within the limit encodes the longest sequence of instructions with which they begin
output_of_front : (order to : Order) (read : List ℕ) (outcome : Outcome) (output : List ℕ) → IsCanonReply limit order to (take limit read) outcome output
    → (insns : List Insn) × ((rest : List ℕ) × (IsFront order (take limit read) insns rest × (output ≡ file_of to insns)))
output_of_front order to read outcome output (canonical l within file) = (l, ([], (file_front order (take limit read) l file, refl)))
output_of_front order to read outcome output (canonical_to_fault l rest f front fault cut) =
    (l, (rest, (rw (take-take limit limit read (omega arith)) at front, refl)))
output_of_front order to read outcome output (canonical_to_limit l rest front sound beyond) =
    (l, (rest, (rw (take-take limit limit read (omega arith)) at front, refl)))

took_prefix : (j : Job) (source sink : Change) (read : List ℕ) (n : ℕ) → j.verb ≡ InsnCanon → Wrote (devices_of source sink) j.order j.to read n → TookPrefix j sink read
took_prefix j source sink read n canon wrote = rw canon (λ outcome output reply.
    let front = output_of_front j.order j.to read outcome output reply in
    let took = wrote.prefix front.0 front.1.0 front.1.1.0 in
    (n, rw front.1.1.1 took.1))

took_all : (j : Job) (source sink : Change) (read : List ℕ) (n : ℕ) → j.verb ≡ InsnCanon → WroteAll (devices_of source sink) j.order j.to read n → TookAll j sink read
took_all j source sink read n canon wrote = rw canon (λ outcome output reply.
    let front = output_of_front j.order j.to read outcome output reply in
    let same = (one_front j.order (take limit read) wrote.insns front.0 wrote.rest front.1.0 wrote.front front.1.1.0).0 in
    let Took : List Insn → Type 0 = λ l. Appends sink.old sink.new (file_of j.to l) in
    let took = subst Took same wrote.took in
    rw front.1.1.1 took)

sound_has_none : (o : Order) (b : List ℕ) → IsSound o b → ¬ HasLastingFault o b
sound_has_none o b sound = λ fault. fault.1.1 (sound fault.0 fault.1.0)

module _ (j : Job) (source sink : Change) (n : ℕ) (canon : j.verb ≡ InsnCanon) where
  pub canon_done : RanWhole (devices_of source sink) j.order j.to n → IsHealthy source → IsHealthy sink → EndsJob j source sink Done
  canon_done ran healthy unfailed =
      replied ran.read Done (file_of j.to ran.insns) healthy unfailed ran.came (inr (inl ran.ended)) (rw canon (canonical ran.insns ran.within ran.file)) ran.took

  -- the engine stopped early
  pub canon_stopped : (stop : RunCause SlotFault) → Stops (devices_of source sink) j.order j.to n stop
      → source.failed_after ≡ source.failed + counts_read stop → sink.failed_after ≡ sink.failed + counts_write stop
      → (outcome : Outcome) → IsEndOfStop (λ f o. o ≡ Fault f) stop outcome → EndsJob j source sink outcome
  canon_stopped (cause.Fault f) stop reads writes outcome is =
      rw is (replied stop.read (Fault f) (file_of j.to stop.wrote.insns) (reads ∙ add-zero _) (writes ∙ add-zero _) stop.wrote.came
      (elim (truncated_or_not f.cause) [
        | inl cut ↦ inr (inl (stop.ended cut).0)
        | inr lasting ↦ inl (rw canon (f, (stop.fault, lasting)))
      ])
      (rw canon (canonical_to_fault stop.wrote.insns stop.wrote.rest f stop.wrote.front stop.fault (λ cut. (stop.ended cut).1)))
      stop.wrote.took)
  canon_stopped cause.TooLong stop reads writes outcome is =
      rw is (replied stop.read TooLong (file_of j.to stop.wrote.insns) (reads ∙ add-zero _) (writes ∙ add-zero _) stop.wrote.came (inr (inr (rw canon stop.beyond)))
      (rw canon (canonical_to_limit stop.wrote.insns stop.wrote.rest stop.wrote.front (sound_has_none _ _ stop.sound) stop.beyond))
      stop.wrote.took)
  canon_stopped cause.ReadFailed stop reads writes outcome is =
      rw is (read_failed_amid stop.read (rw canon refl) reads (writes ∙ add-zero _) stop.wrote.came (rw canon stop.within) (rw canon (sound_has_none _ _ stop.sound))
      (took_all j source sink stop.read n canon stop.wrote))
  canon_stopped cause.WriteFailed stop reads writes outcome is =
      rw is (write_failed_amid stop.read (rw canon refl) (reads ∙ add-zero _) writes stop.wrote.came (took_prefix j source sink stop.read n canon stop.wrote))
  canon_stopped cause.Memory stop reads writes outcome is =
      rw is (no_memory_amid stop.read (rw canon refl) (reads ∙ add-zero _) (writes ∙ add-zero _) stop.wrote.came (took_prefix j source sink stop.read n canon stop.wrote))
