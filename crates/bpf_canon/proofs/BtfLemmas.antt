-- Lemmas on compared BTF files.
pub mod ComparedFiles
pub mod CanonicalEncodes
pub mod CanonicalFiles
pub mod WorkedBtf
pub mod HostLaws
pub mod BtfFiles
pub mod Write
pub mod Names
pub mod Strings
