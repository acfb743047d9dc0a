-- The string table from the strings of names.
pub mod Interned
