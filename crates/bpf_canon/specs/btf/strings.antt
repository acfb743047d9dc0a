-- The string table from the offsets of names.
pub mod FirstUses
pub mod NamesByOffset
pub mod DistinctNames
pub mod SuffixKeys
pub mod SectionTexts
pub mod UsedOffsets
pub mod Ranks
pub mod Longest
pub mod InHost
pub mod HostOffsets
pub mod DistinctOffsets
