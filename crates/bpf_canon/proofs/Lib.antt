pub mod TestOfEquality
pub mod InsnLemmas
pub mod BtfLemmas
