-- Streams of instructions, engines for them, and their canonical bytes.
pub mod FeedState
pub mod FeedStream
pub mod FrontReads
pub mod Run
pub mod Passed
pub mod Canonical
