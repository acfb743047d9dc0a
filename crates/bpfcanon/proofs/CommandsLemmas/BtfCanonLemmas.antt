-- The outcomes of btf-canon, by the result of its engine.
use Rattle.std.proofs.Common.{◌≡◌, ◌∙◌, ◌+◌, ℕ, [], refl, inl, inr, add-zero}
use Rattle.std.proofs.KnownBytes.{Appends-nil}
use Rattle.btf_raw.specs.declared.cause.BtfFault.{BtfFault}
use Rattle.bpf_canon.specs.{btf.CanonicalBtf.canonical, declared.engine.RunCause.RunCause}
use Rattle.bpf_canon.specs.declared.engine.RunCause.TheVariants as cause
use Rattle.bpf_canon.specs.{Engine.counts_read, Engine.counts_write, btf.RunBtf.RanBtf, btf.RunBtf.StopsBtf}
use Rattle.bpfcanon.specs.declared.{job.Job.Job, outcome.Outcome.Outcome}
use Rattle.bpfcanon.specs.declared.outcome.Outcome.TheVariants as ends
use Rattle.bpfcanon.specs.declared.{outcome.Outcome.TheVariants.Done, outcome.Outcome.TheVariants.TooLong, verb.Verb.TheVariants.BtfCanon}
use Rattle.bpfcanon.specs.commands.BtfReply.{canon_too_long, unwritten, written}
use Rattle.bpfcanon.specs.Devices.{Change, IsHealthy}
use Rattle.bpfcanon.specs.JobEnds.{EndsJob, IsEndOfStop, no_memory, read_failed, replied, write_failed}
use Rattle.bpfcanon.proofs.CommandsLemmas.InsnCanonLemmas.{devices_of}

module _ (j : Job) (source sink : Change) (n : ℕ) (canon : j.verb ≡ BtfCanon) where
  pub btf_canon_done : RanBtf (devices_of source sink) j.to n → IsHealthy source → IsHealthy sink → EndsJob j source sink Done
  btf_canon_done ran healthy unfailed =
      replied ran.read Done (canonical j.to ran.records) healthy unfailed ran.input.came (inr (inl ran.input.ended))
      (rw canon (written ran.records ran.input.within ran.file)) ran.took

  -- the engine stopped early
  pub btf_canon_stopped : (stop : RunCause BtfFault) → StopsBtf (devices_of source sink) j.to n stop
      → source.failed_after ≡ source.failed + counts_read stop → sink.failed_after ≡ sink.failed + counts_write stop
      → (outcome : Outcome) → IsEndOfStop (λ f o. o ≡ ends.BtfFault f) stop outcome → EndsJob j source sink outcome
  btf_canon_stopped (cause.Fault f) stop reads writes outcome is =
      rw is (replied stop.read (ends.BtfFault f) [] (reads ∙ add-zero _) (writes ∙ add-zero _) stop.input.came (inr (inl stop.input.ended))
      (rw canon (unwritten f stop.input.within stop.first)) (rw stop.nothing.kept (Appends-nil sink.old)))
  btf_canon_stopped cause.TooLong stop reads writes outcome is =
      rw is (replied stop.read TooLong [] (reads ∙ add-zero _) (writes ∙ add-zero _) stop.came (inr (inr (rw canon stop.beyond)))
      (rw canon (canon_too_long stop.beyond)) (rw stop.nothing.kept (Appends-nil sink.old)))
  btf_canon_stopped cause.ReadFailed stop reads writes outcome is =
      rw is (read_failed stop.read (rw canon refl) reads (stop.nothing.kept, writes ∙ add-zero _) stop.came (rw canon stop.within))
  btf_canon_stopped cause.WriteFailed stop reads writes outcome is =
      rw is (write_failed stop.read Done (canonical j.to stop.records) n (rw canon refl) (reads ∙ add-zero _) writes stop.input.came (inr (inl stop.input.ended))
      (rw canon (written stop.records stop.input.within stop.file)) stop.part stop.took)
  btf_canon_stopped cause.Memory stop reads writes outcome is =
      rw is (no_memory stop.read (rw canon refl) (reads ∙ add-zero _) (stop.nothing.kept, writes ∙ add-zero _) stop.came)
