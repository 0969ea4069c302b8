-- The definitions.
pub mod Begun
pub mod Counted
