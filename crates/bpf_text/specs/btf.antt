pub mod Appending
pub mod BtfText
pub mod LineParts
