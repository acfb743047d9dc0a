-- Lemmas on strings and their suffixes.
pub mod CommonSuffixes
pub mod Distinct
pub mod Hosts
pub mod LongEnds
pub mod Longest
pub mod Neighbours
pub mod Sections
pub mod Suffixes
pub mod TableLaws
pub mod SuffixOrder
pub mod Texts
pub mod EncodedNames
