-- What devices read and write.
pub mod Device
pub mod Memory
pub mod Reads
