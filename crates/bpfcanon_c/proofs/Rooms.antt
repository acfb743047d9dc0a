-- What was written into a buffer is the output of a call.
use Rattle.std.proofs.Common.{◌≡◌, ℕ, List, length, ap, arith}
use Rattle.bpf_words.specs.declared.Order.{Order}
use Rattle.bpf_insn.specs.{declared.insn.Insn.Insn, Encoding.InsnFile, Encoding.file_of}
use Rattle.bpf_canon.proofs.InsnLemmas.FrontLaws.{length-file_same}
use Rattle.bpfcanon_c.specs.declared.answer.{FaultCode.FaultCode, Ending.Ending}
use Rattle.bpfcanon_c.specs.declared.answer.Ending.TheVariants.{Written, Types, Groups, Accepted, Same, Different, First, Second, Memory, Room}
use Rattle.bpfcanon_c.specs.declared.answer.Ending.TheVariants as ending
use Rattle.bpfcanon_c.specs.{Answers.order_number, Answers.FillsBuffer, Outputs.EndsOutput, Outputs.EndsInOrder}

pub ends_output : (IsOutput : List ℕ → Type 0) (IsFault : FaultCode → Type 0) (old new out : List ℕ) (e : Ending) → IsOutput out → FillsBuffer out old new e
    → EndsOutput IsOutput IsFault old new e
ends_output IsOutput IsFault old new out (Written n) h p = (out, (h, p))
ends_output IsOutput IsFault old new out (Room n) h p = (out, (h, p))
ends_output IsOutput IsFault old new out (Types n) h p = absurd p
ends_output IsOutput IsFault old new out (Groups n) h p = absurd p
ends_output IsOutput IsFault old new out Accepted h p = absurd p
ends_output IsOutput IsFault old new out Same h p = absurd p
ends_output IsOutput IsFault old new out Different h p = absurd p
ends_output IsOutput IsFault old new out (First f) h p = absurd p
ends_output IsOutput IsFault old new out (Second f) h p = absurd p
ends_output IsOutput IsFault old new out Memory h p = absurd p
ends_output IsOutput IsFault old new out ending.Order h p = absurd p

-- how a call ends in the byte order of a number
pub ends_in_order : (n : ℕ) (o : Order) (Ends : Order → Ending → Type 0) (old new : List ℕ) (e : Ending) → n ≡ order_number o → Ends o e
    → (Ends o ending.Order → ⊥) → EndsInOrder n Ends old new e
ends_in_order n o Ends old new (Written k) named ends none = (o, (named, ends))
ends_in_order n o Ends old new (Room k) named ends none = (o, (named, ends))
ends_in_order n o Ends old new (Types k) named ends none = (o, (named, ends))
ends_in_order n o Ends old new (Groups k) named ends none = (o, (named, ends))
ends_in_order n o Ends old new Accepted named ends none = (o, (named, ends))
ends_in_order n o Ends old new Same named ends none = (o, (named, ends))
ends_in_order n o Ends old new Different named ends none = (o, (named, ends))
ends_in_order n o Ends old new (First f) named ends none = (o, (named, ends))
ends_in_order n o Ends old new (Second f) named ends none = (o, (named, ends))
ends_in_order n o Ends old new Memory named ends none = (o, (named, ends))
ends_in_order n o Ends old new ending.Order named ends none = absurd (none ends)

-- the instructions of a file are as long as it in the other order
pub recoded_length : (o to : Order) (bytes : List ℕ) (l : List Insn) → InsnFile o bytes l → length (file_of to l) ≡ length bytes
recoded_length o to bytes l f = omega (arith, ap length f.1, length-file_same to o l)
