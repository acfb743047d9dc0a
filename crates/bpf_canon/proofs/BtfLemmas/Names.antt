-- Lemmas on the string table from the strings of names.
pub mod KeptSteps
pub mod OffsetSteps
pub mod HostSearch
pub mod HostSteps
pub mod HostIndices
pub mod IndexedNames
pub mod HostTable
pub mod Gathering
pub mod NoteSteps
