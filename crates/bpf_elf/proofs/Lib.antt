pub mod RuleLemmas
pub mod NameLemmas
pub mod NameStarts
pub mod SectionLemmas
pub mod KindLemmas
pub mod SectionFacts
pub mod SymbolFacts
pub mod KeptFacts
