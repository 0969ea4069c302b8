-- The definitions.
pub mod Reading
pub mod Faults
