-- The outcomes of a command that reads its complete input first.
use Rattle.std.proofs.Common.{◌≡◌, ◌<◌, ◌+◌, ◌∙◌, false, List, [], ℕ, add-zero, inl, inr, length, refl}
use Rattle.std.specs.Io.KnownBytes.{Consumes}
use Rattle.std.proofs.KnownBytes.{Appends-nil}
use Rattle.bpfcanon.specs.declared.{job.Job.Job, verb.Verb.Verb, outcome.Outcome.Outcome, outcome.Outcome.TheVariants.TooLong}
use Rattle.bpfcanon.specs.declared.verb.Verb.TheVariants.{InsnCanon, InsnShow, InsnRead, InsnGroups, InsnSame, BtfCanon, BtfShow, BtfCheck, BtfSame}
use Rattle.bpfcanon.specs.commands.BtfReply as btf
use Rattle.bpfcanon.specs.commands.Reply.{IsReply, files_too_long, groups_too_long, has_engine, limit_of, show_too_long, streams, text_too_long}
use Rattle.bpf_canon.specs.declared.device.source.ReadError.{ReadError}
use Rattle.bpf_canon.specs.declared.device.source.ReadError.TheVariants as unread
use Rattle.bpf_canon.specs.device.Reads.{EndsAmid, failed_reads}
use Rattle.bpfcanon.specs.{Devices.Change, Devices.IsUnused, commands.Errors.read_end}
use Rattle.bpfcanon.specs.JobEnds.{EndsJob, no_memory, no_memory_in_pieces, read_failed, replied, write_failed}
use Rattle.bpfcanon.specs.commands.Pieces.{Answers, IsInput, answered, refused, refused_amid, unwritten}

-- only a command with an engine writes while it reads
pub whole_input : (v : Verb) → has_engine v ≡ false → streams v ≡ false
whole_input InsnCanon whole = cc
whole_input _ whole = refl

-- the reply to an input that is too long
too_long_reply : (v : Verb) (j : Job) (input : List ℕ) → has_engine v ≡ false → limit_of v < length input → IsReply v j input TooLong []
too_long_reply InsnCanon j input whole beyond = cc
too_long_reply InsnShow j input whole beyond = show_too_long beyond
too_long_reply InsnRead j input whole beyond = text_too_long beyond
too_long_reply InsnGroups j input whole beyond = groups_too_long beyond
too_long_reply InsnSame j input whole beyond = files_too_long beyond
too_long_reply BtfCanon j input whole beyond = cc
too_long_reply BtfShow j input whole beyond = btf.show_too_long beyond
too_long_reply BtfCheck j input whole beyond = btf.check_too_long beyond
too_long_reply BtfSame j input whole beyond = btf.files_too_long beyond

-- the input couldn't be read to its end
pub ends_unread : (j : Job) (source sink : Change) (e : ReadError) → has_engine j.verb ≡ false
    → (bytes : List ℕ) × (Consumes source.old source.new bytes × EndsAmid (limit_of j.verb) bytes e)
    → source.failed_after ≡ source.failed + failed_reads e → IsUnused sink → EndsJob j source sink (read_end e)
ends_unread j source sink unread.TooLong whole came failed unused =
    let beyond = came.1.1.0 in
    replied came.0 TooLong [] (failed ∙ add-zero _) unused.1 came.1.0 (inr (inr beyond)) (too_long_reply j.verb j came.0 whole beyond)
    (rw unused.0 (Appends-nil sink.old))
ends_unread j source sink unread.ReadFailed whole came failed unused =
    read_failed came.0 (whole_input _ whole) failed unused came.1.0 came.1.1
ends_unread j source sink unread.Memory whole came failed unused =
    no_memory came.0 (whole_input _ whole) (failed ∙ add-zero _) unused came.1.0

-- the input was read to its end, and the reply was written
pub ends_answered : (j : Job) (source sink : Change) (input : List ℕ) (outcome : Outcome) → has_engine j.verb ≡ false
    → IsInput j source input → Answers j input sink outcome → EndsJob j source sink outcome
ends_answered j source sink input outcome whole read (answered made output reply took unfailed) =
    replied input made output read.healthy unfailed read.came (inr (inl read.ended)) reply took
ends_answered j source sink input outcome whole read (unwritten made output reply part) =
    write_failed input made output part.count (whole_input j.verb whole) read.healthy part.by read.came (inr (inl read.ended)) reply part.part part.took
ends_answered j source sink input outcome whole read (refused unused) =
    no_memory input (whole_input j.verb whole) read.healthy unused read.came
ends_answered j source sink input outcome whole read (refused_amid made output pieces reply front) =
    no_memory_in_pieces input made output front.count pieces read.healthy front.by read.came (inr (inl read.ended)) reply front.part front.took
