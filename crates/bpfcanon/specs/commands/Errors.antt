-- The outcome of a command that ends with an error of a library.
use Rattle.bpf_insn.specs.declared.fault.SlotFault.{SlotFault}
use Rattle.bpf_text.specs.declared.insn.fault.ListError.{ListError}
use Rattle.bpf_text.specs.declared.insn.fault.ListError.TheVariants as list
use Rattle.btf_raw.specs.declared.cause.BtfFault.{BtfFault}
use Rattle.btf_types.specs.declared.error.BtfError.{BtfError}
use Rattle.btf_types.specs.declared.error.BtfError.TheVariants as btf
use Rattle.bpf_canon.specs.declared.{device.source.ReadError.ReadError, engine.SideError.SideError}
use Rattle.bpf_canon.specs.declared.device.source.ReadError.TheVariants as read
use Rattle.bpf_canon.specs.declared.engine.SideError.TheVariants as side
use Rattle.bpfcanon.specs.declared.commands.pieces.PutError.{PutError}
use Rattle.bpfcanon.specs.declared.commands.pieces.PutError.TheVariants as put
use Rattle.bpfcanon.specs.declared.outcome.Outcome.{Outcome}
use Rattle.bpfcanon.specs.declared.outcome.Outcome.TheVariants as ends

-- the input couldn't be read to its end
abbrev pub read_end : ReadError → Outcome
read_end read.TooLong = ends.TooLong
read_end read.ReadFailed = ends.ReadFailed
read_end read.Memory = ends.Memory

-- the output couldn't be written to its end
abbrev pub put_end : PutError → Outcome
put_end put.WriteFailed = ends.WriteFailed
put_end put.Memory = ends.Memory

-- the listing couldn't be read
abbrev pub listing_end : ListError → Outcome
listing_end (list.Fault f) = ends.FaultyLine f
listing_end list.Memory = ends.Memory

-- the BTF couldn't be read
abbrev pub btf_end : BtfError → Outcome
btf_end (btf.Fault f) = ends.BtfFault f
btf_end btf.Memory = ends.Memory

-- two files of instructions couldn't be compared
abbrev pub insn_side_end : SideError SlotFault → Outcome
insn_side_end (side.First f) = ends.First f
insn_side_end (side.Second f) = ends.Second f
insn_side_end side.Memory = ends.Memory

-- two files of BTF couldn't be compared
abbrev pub btf_side_end : SideError BtfFault → Outcome
btf_side_end (side.First f) = ends.FirstBtf f
btf_side_end (side.Second f) = ends.SecondBtf f
btf_side_end side.Memory = ends.Memory
