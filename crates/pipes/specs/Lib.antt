-- The definitions.
pub mod Seen
pub mod Stepping
