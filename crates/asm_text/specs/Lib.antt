-- The definitions, in the order in which to read them.
pub mod Letters
pub mod Text
pub mod Faults
pub mod Scan
