-- How the engine for BTF and the comparison of BTF files end.
pub mod RunBtf
pub mod SameBtf
pub mod CanonicalBtf
pub mod BtfLaws
pub mod write
pub mod names
pub mod strings
