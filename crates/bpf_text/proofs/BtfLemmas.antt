pub mod AppendingLemmas
pub mod BtfTextLemmas
pub mod LinePartsLemmas
pub mod QuotedNameLemmas
