-- Lemmas on tables.
pub mod TableReads
pub mod TableSteps
pub mod TableWalk
pub mod TextSteps
pub mod WindowSteps
