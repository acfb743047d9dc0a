-- The records of a file that exposes its sections, as they are copied.
pub mod BtfWords
pub mod NameOffsets
