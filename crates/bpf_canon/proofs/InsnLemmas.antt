-- Lemmas on streams of instructions.
pub mod FrontLaws
pub mod ReadingLemmas
pub mod FeedLemmas
pub mod Recoding
pub mod Comparing
pub mod RunLemmas
pub mod CanonLemmas
