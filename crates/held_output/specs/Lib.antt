-- The definitions.
pub mod Marks
pub mod Traces
pub mod Withheld
