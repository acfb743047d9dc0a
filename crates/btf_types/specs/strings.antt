-- The string table in which names share suffixes.
pub mod CommonSuffixes
pub mod LongestTexts
pub mod SharedNames
pub mod StringTable
pub mod TableLaws
