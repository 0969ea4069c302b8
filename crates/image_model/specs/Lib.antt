-- The definitions.
pub mod Fields
pub mod Faults
pub mod Checks
pub mod Names
