-- The definitions.
pub mod Readings
