-- The definitions.
pub mod Verdicts
