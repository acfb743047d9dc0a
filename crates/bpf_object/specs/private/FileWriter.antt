-- A file while its sections are written.
use Rattle.std.specs.Prelude.{◌≡◌, ℕ, ◌+◌, ◌<◌, ◌≤◌, ⊤, true, false, List, ◌++◌, length, replicate}
use Rattle.bpf_elf.specs.Header.{FILE_LIMIT}
use Rattle.bpf_elf.specs.declared.sections.SectionHeader.{SectionHeader}
use Rattle.bpf_object.specs.declared.fault.ObjectError.{ObjectError}
use Rattle.bpf_object.specs.declared.fault.ObjectError.TheVariants as errors
use Rattle.bpf_words.specs.declared.Order.{Order}
use Rattle.bpf_object.specs.File.{WrittenSection}
use Rattle.bpf_object.specs.private.FileOf.{contents, headers, file_of, is_small_file}
use Rattle.bpf_object.specs.ObjectFaults.{IsTooLarge}

-- a section, by its header, of which the offset doesn't matter, and its content
abbrev pub section_of : SectionHeader → List ℕ → WrittenSection
section_of h content = record {
  name_offset = h.name_offset;
  type = h.section_type;
  flags = h.flags;
  address = h.address;
  size = h.size;
  link = h.link;
  info = h.info;
  alignment = h.alignment;
  entry_size = h.entry_size;
  content = content;
}

-- what was written, and how long the file may be
pub record FileSoFar : Type 0 where
  pub order : Order
  pub limit : ℕ
  pub out : List ℕ
  pub headers : List ℕ
  pub count : ℕ

-- it isn't longer than it may be, and there is space for the header
pub record HasRoom (w : FileSoFar) : Type 0 where
  pub header : 64 ≤ length w.out
  pub short : length w.out ≤ w.limit
  pub limited : w.limit ≤ FILE_LIMIT
  pub some : 0 < w.count
  pub few : w.count < 65536

-- it holds these sections, after space for the header
pub record Holds (limit : ℕ) (ss : List WrittenSection) (w : FileSoFar) : Type 0 where
  pub limit_is : w.limit ≡ limit
  pub out : w.out ≡ replicate 64 0 ++ contents ss
  pub headers : w.headers ≡ replicate 64 0 ++ headers w.order 64 ss
  pub count : w.count ≡ length ss + 1

-- no file with these sections is small enough
abbrev pub FailsToHold : ℕ → List WrittenSection → ObjectError → Type 0
FailsToHold limit ss (errors.Fault fault) = (is_small_file limit ss ≡ false) × IsTooLarge fault
FailsToHold limit ss errors.Memory = ⊤

-- the file of these sections
pub record IsFileOf (limit : ℕ) (o : Order) (flags : ℕ) (ss : List WrittenSection) (file : List ℕ) : Type 0 where
  pub small : is_small_file limit ss ≡ true
  pub bytes : file ≡ file_of o flags ss
