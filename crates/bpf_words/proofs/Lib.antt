pub mod WordLemmas
pub mod OneEncoding
pub mod SlotLemmas
pub mod SwappedBytes
pub mod SwappedSlots
