-- The definitions.
pub mod Pairs
