-- The numbers of the causes of faults of object files: those of the ELF file, then the others. A fault of
-- .BTF by itself has the number of its cause there, which is smaller than these.
use Rattle.std.specs.Prelude.{ℕ}
use Rattle.bpf_elf.specs.declared.fault.ElfCause.TheVariants as elf
use Rattle.btf_raw.specs.Cause.{number_of}
use Rattle.bpf_object.specs.declared.fault.ObjectCause.{ObjectCause}
use Rattle.bpf_object.specs.declared.fault.ObjectCause.TheVariants as cause

-- the number of each cause
abbrev pub object_cause_number : ObjectCause → ℕ
object_cause_number (cause.Elf elf.FileTooLarge) = 101
object_cause_number (cause.Elf elf.FileCut) = 102
object_cause_number (cause.Elf elf.Magic) = 103
object_cause_number (cause.Elf elf.Class) = 104
object_cause_number (cause.Elf elf.ByteOrder) = 105
object_cause_number (cause.Elf elf.IdentVersion) = 106
object_cause_number (cause.Elf elf.FileType) = 107
object_cause_number (cause.Elf elf.Machine) = 108
object_cause_number (cause.Elf elf.FileVersion) = 109
object_cause_number (cause.Elf elf.HeaderSize) = 110
object_cause_number (cause.Elf elf.Segments) = 111
object_cause_number (cause.Elf elf.SectionHeaderSize) = 112
object_cause_number (cause.Elf elf.SectionCount) = 113
object_cause_number (cause.Elf elf.SectionTable) = 114
object_cause_number (cause.Elf elf.NamesIndex) = 115
object_cause_number (cause.Elf elf.FirstSection) = 116
object_cause_number (cause.Elf elf.NamesTable) = 117
object_cause_number (cause.Elf elf.SectionCut) = 118
object_cause_number (cause.Elf elf.SectionName) = 119
object_cause_number (cause.Elf elf.SectionKind) = 120
object_cause_number (cause.Elf elf.SectionTwice) = 121
object_cause_number (cause.Elf elf.RelocationTarget) = 122
object_cause_number (cause.Elf elf.NoSymbols) = 123
object_cause_number (cause.Elf elf.SymbolTableSize) = 124
object_cause_number (cause.Elf elf.SymbolEntrySize) = 125
object_cause_number (cause.Elf elf.SymbolNames) = 126
object_cause_number (cause.Elf elf.FirstSymbol) = 127
object_cause_number (cause.Elf elf.SymbolName) = 128
object_cause_number (cause.Elf elf.SymbolSection) = 129
object_cause_number (cause.Elf elf.SymbolPlace) = 130
object_cause_number (cause.Elf elf.RelocationTableSize) = 131
object_cause_number (cause.Elf elf.RelocationEntrySize) = 132
object_cause_number (cause.Elf elf.RelocationSymbols) = 133
object_cause_number (cause.Elf elf.RelocationSymbol) = 134
object_cause_number (cause.Elf elf.SectionsTooLarge) = 153
object_cause_number (cause.Elf elf.SymbolDropped) = 154
object_cause_number cause.TypesTooLarge = 135
object_cause_number cause.TypesOrder = 136
object_cause_number cause.TypesLayout = 137
object_cause_number cause.TypesName = 138
object_cause_number cause.TypesSection = 139
object_cause_number cause.TypesFlag = 140
object_cause_number cause.ExtensionWithoutTypes = 141
object_cause_number cause.ExtensionCut = 142
object_cause_number cause.ExtensionMagic = 143
object_cause_number cause.ExtensionVersion = 144
object_cause_number cause.ExtensionFlags = 145
object_cause_number cause.ExtensionHeaderSize = 146
object_cause_number cause.ExtensionPart = 147
object_cause_number cause.ExtensionRecordSize = 148
object_cause_number cause.ExtensionGroup = 149
object_cause_number cause.ExtensionString = 150
object_cause_number cause.ExtensionLines = 151
object_cause_number cause.ResultTooLarge = 152
object_cause_number cause.ExtensionGroupTwice = 155
object_cause_number cause.FunctionLines = 156
object_cause_number cause.TypesNameTaken = 157
object_cause_number (cause.Types its_own) = number_of its_own
