-- Lemmas on the reply of each command.
pub mod PiecesLemmas
pub mod LongNameLemmas
pub mod InsnCanonLemmas
pub mod InsnShowLemmas
pub mod InsnSameLemmas
pub mod BtfCanonLemmas
pub mod BtfShowLemmas
pub mod BtfSameLemmas
pub mod Replies
