-- From the reason why an offset has no name to the cause of a fault in a file.
use Rattle.btf_raw.specs.declared.cause.BtfCause.{BtfCause, TheVariants.NameRange, TheVariants.NameUtf8}
use Rattle.btf_raw.specs.declared.cause.NameCause.{NameCause, TheVariants.Range, TheVariants.Utf8}

-- the cause of the fault in a file whose name offset has no name for this reason
abbrev pub btf_cause_of : NameCause → BtfCause
btf_cause_of Range = NameRange
btf_cause_of Utf8 = NameUtf8
