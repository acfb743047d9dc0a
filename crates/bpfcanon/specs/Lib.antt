pub mod line
pub mod commands
pub mod Devices
pub mod Verbs
pub mod Outcome
pub mod JobEnds
pub mod Ends
