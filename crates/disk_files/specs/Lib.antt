-- The definitions.
pub mod Putting
