-- Records as they are stored in the type section, each a list of 32-bit words: name_off, info, size or type, and the data after them.
use Rattle.std.specs.Prelude.{◌≡◌, ◌≢◌, ◌⊎◌, ℕ, ◌+◌, ◌*◌, ◌<◌, ◌≤◌, ◌^◌, IsTrue, IsFalse, List, ◌++◌, length, slice_index}
use Rattle.std.specs.List.{All, flat_map}
use Rattle.bpf_words.specs.{declared.Order.Order, Words.word32, Words.word32_at}
use Rattle.btf_raw.specs.declared.cause.BtfCause.{BtfCause}
use Rattle.btf_raw.specs.declared.cause.BtfCause.TheVariants.{RecordCut, InfoBits, KindNumber, FlagSet, Vlen, TailCut}
use Rattle.btf_raw.specs.Kinds.{vlen_of, kind_of, flag_of, unused_of, is_kind, has_flag, has_vlen, tail_words}

-- the fields that every record has, by name
abbrev pub name_word : List ℕ → ℕ
name_word frame = slice_index frame 0

abbrev pub info_word : List ℕ → ℕ
info_word frame = slice_index frame 1

abbrev pub third_word : List ℕ → ℕ
third_word frame = slice_index frame 2

-- the kind of a record
abbrev pub kind : List ℕ → ℕ
kind frame = kind_of (info_word frame)

-- vlen of a record
abbrev pub vlen : List ℕ → ℕ
vlen frame = vlen_of (info_word frame)

-- its kind_flag, 0 or 1: bit 31 of its info
abbrev pub flag : List ℕ → ℕ
flag frame = flag_of (info_word frame)

-- info is allowed by the table of kinds, except for the linkage of a FUNC
pub record IsAllowed (info : ℕ) : Type 0 where
  pub unused : unused_of info ≡ 0
  pub kind : IsTrue (is_kind (kind_of info))
  pub flag : (flag_of info ≡ 0) ⊎ IsTrue (has_flag (kind_of info))
  pub vlen : (vlen_of info ≡ 0) ⊎ IsTrue (has_vlen (kind_of info))

-- the words are those of one complete record with an allowed info field
pub record IsFrame (frame : List ℕ) : Type 0 where
  pub words : (i : ℕ) → slice_index frame i < 2 ^ 32
  pub info : IsAllowed (info_word frame)
  pub size : length frame ≡ 3 + tail_words (kind frame) (vlen frame)

-- the bytes of a list of words
abbrev pub bytes_of : Order → List ℕ → List ℕ
bytes_of o words = flat_map (word32 o) words

-- the bytes of a list of frames
abbrev pub section_of : Order → List (List ℕ) → List ℕ
section_of o frames = flat_map (bytes_of o) frames

-- the types are a concatenation of frames
pub record Frames (o : Order) (types : List ℕ) (frames : List (List ℕ)) : Type 0 where
  pub each : All IsFrame frames
  pub whole : types ≡ section_of o frames

-- the bytes begin like a record, with this info at offset 4
abbrev pub HasInfo : Order → List ℕ → ℕ → Type 0
HasInfo o bytes info = (8 ≤ length bytes) × (info ≡ word32_at o bytes 4)

-- what each cause from InfoBits to Vlen says of an info field
abbrev pub InfoFault : ℕ → BtfCause → Type 0
InfoFault info InfoBits = unused_of info ≢ 0
InfoFault info KindNumber = IsFalse (is_kind (kind_of info))
InfoFault info FlagSet = IsTrue (is_kind (kind_of info)) × (flag_of info ≢ 0) × IsFalse (has_flag (kind_of info))
InfoFault info Vlen = IsTrue (is_kind (kind_of info)) × (vlen_of info ≢ 0) × IsFalse (has_vlen (kind_of info))
InfoFault info _ = ⊥

-- what each cause from RecordCut to TailCut says of the bytes from the start of a record on, and at which offset from there
abbrev pub RecordFault : Order → List ℕ → ℕ → BtfCause → Type 0
RecordFault o rest p RecordCut = (0 < length rest) × (length rest < 12) × (p ≡ 0)
RecordFault o rest p TailCut =
    (info : ℕ) × HasInfo o rest info × IsTrue (is_kind (kind_of info)) × (12 ≤ length rest)
    × (length rest < 12 + 4 * tail_words (kind_of info) (vlen_of info)) × (p ≡ 12)
RecordFault o rest p cause = (info : ℕ) × HasInfo o rest info × InfoFault info cause × (p ≡ 4)

-- the first record that isn't a frame has this fault, at this offset of the section; the records before it are frames
pub record FramingFault (o : Order) (types : List ℕ) (at_offset : ℕ) (cause : BtfCause) : Type 0 where
  pub frames : List (List ℕ)
  pub rest : List ℕ
  pub offset : ℕ
  pub each : All IsFrame frames
  pub whole : types ≡ section_of o frames ++ rest
  pub fault : RecordFault o rest offset cause
  pub at_offset_is : at_offset ≡ length (section_of o frames) + offset
