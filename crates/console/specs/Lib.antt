-- The definitions.
pub mod Sinks
pub mod Writers
