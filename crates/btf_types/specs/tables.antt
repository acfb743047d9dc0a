-- What a table keeps of a file.
pub mod Tables
pub mod TableWords
pub mod TableInvariant
pub mod TableOffsets
pub mod OffsetWords
pub mod StringEnds
pub mod Windows
