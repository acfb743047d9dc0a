-- Lemmas on the command line.
pub mod ParseLemmas
pub mod OptionsLemmas
