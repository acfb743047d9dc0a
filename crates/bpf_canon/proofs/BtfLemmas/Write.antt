-- Lemmas on records that are written.
pub mod WriteSteps
pub mod RecordNames
pub mod RecordWords
pub mod SectionFiles
