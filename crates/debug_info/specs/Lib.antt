-- The definitions.
pub mod Labels
