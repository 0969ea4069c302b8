-- The definitions.
pub mod Recording
