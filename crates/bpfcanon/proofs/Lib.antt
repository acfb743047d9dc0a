pub mod LineLemmas
pub mod CommandsLemmas
pub mod JobLemmas
pub mod OutcomeLemmas
