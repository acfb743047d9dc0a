-- A file has no fault if and only if its frames encode valid records.
pub mod Faultless
pub mod FaultlessHeads
pub mod FaultlessItems
pub mod FaultlessRecords
pub mod FaultlessWords
pub mod EncodedFaultless
pub mod ItemReads
