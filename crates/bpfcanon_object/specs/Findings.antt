-- Why code is reported, as text.
use Rattle.std.specs.Prelude.{◌++◌, ℕ, List, codes}
use Rattle.bpf_insn.specs.{CauseNames.cause_name, CauseNames.cause_sentence, Groups.group_name}
use Rattle.bpfcanon_object.specs.{Linux.addition_name, Linux.cpu_name, Linux.cpu_of, Linux.linux_of, Linux.linux_text}
use Rattle.bpfcanon_object.specs.declared.{finding.Reason.Reason, linux.Addition.Addition}
use Rattle.bpfcanon_object.specs.declared.finding.Reason.TheVariants as reason

-- the release that an addition needs, and its name
abbrev pub release_text : Addition → List ℕ
release_text a = codes "needs Linux " ++ (linux_text (linux_of a) ++ (codes ": " ++ addition_name a))

-- the version of LLVM's instruction set that it needs
abbrev pub version_text : Addition → List ℕ
version_text a = codes "needs -mcpu=" ++ (cpu_name (cpu_of a) ++ (codes ": " ++ addition_name a))

-- the name of the cause
abbrev pub reason_name : Reason → List ℕ
reason_name (reason.Fault cause) = cause_name cause
reason_name (reason.Outside group) = codes "Target"
reason_name (reason.Release a) = codes "Target"
reason_name (reason.Version a) = codes "Target"

-- its sentence, or what the target lacks
abbrev pub reason_text : Reason → List ℕ
reason_text (reason.Fault cause) = cause_sentence cause
reason_text (reason.Outside group) = codes "the target lacks " ++ group_name group
reason_text (reason.Release a) = release_text a
reason_text (reason.Version a) = version_text a
