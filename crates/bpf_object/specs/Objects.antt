-- What an object file holds: the parts that its canonical file keeps. Sections and symbols are numbered as they are kept.
use Rattle.std.specs.Prelude.{ℕ, List, Option}
use Rattle.bpf_words.specs.declared.Order.{Order}
use Rattle.btf_types.specs.Values.{TypeRecord}

-- a row of a table of relocations: r_offset, and the halves of r_info
pub record KeptRelocation : Type 0 where
  pub offset : ℕ
  pub symbol : ℕ
  pub type : ℕ

-- a section of code or data with its bytes, or a table of relocations with the section that it is for and its rows
pub record KeptSection : Type 0 where
  pub name : List ℕ
  pub type : ℕ
  pub flags : ℕ
  pub address : ℕ
  pub size : ℕ
  pub alignment : ℕ
  pub entry_size : ℕ
  pub content : List ℕ
  pub target : ℕ
  pub relocations : List KeptRelocation

-- a symbol, in a section or with a special section index
pub record KeptSymbol : Type 0 where
  pub name : List ℕ
  pub info : ℕ
  pub other : ℕ
  pub section : ℕ
  pub value : ℕ
  pub size : ℕ

-- a function: the offset of its first instruction, and its type
pub record Function : Type 0 where
  pub offset : ℕ
  pub type : ℕ

-- a CO-RE relocation: the offset of its instruction, the type, the text of the access, and the kind
pub record CoreRelocation : Type 0 where
  pub offset : ℕ
  pub type : ℕ
  pub access : List ℕ
  pub kind : ℕ

-- the records of .BTF.ext for the section of a name
pub record Group (R : Type 0) : Type 0 where
  pub section : List ℕ
  pub records : List R

-- the types of an object, and what .BTF.ext says of its code
pub record ObjectTypes : Type 0 where
  pub records : List TypeRecord
  pub functions : List (Group Function)
  pub relocations : List (Group CoreRelocation)

-- an object: its byte order and e_flags, its sections, symbols and types
pub record Object : Type 0 where
  pub order : Order
  pub flags : ℕ
  pub sections : List KeptSection
  pub symbols : List KeptSymbol
  pub types : Option ObjectTypes
