mod CodeLemmas
pub mod EscapeLemmas
pub mod FormatCharacters
pub mod ItemLemmas
pub mod KeyLineLemmas
mod ReportLemmas
pub mod TargetLemmas
pub mod TextLemmas
pub mod UnescapeLemmas
mod WrittenLemmas
