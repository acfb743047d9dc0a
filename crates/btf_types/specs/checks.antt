-- When a field of a file is faulty, and what holds after each phase of checks.
pub mod Numbers
pub mod FieldFaults
pub mod NameFaults
pub mod RecordFaults
pub mod SectionParts
pub mod Texts
