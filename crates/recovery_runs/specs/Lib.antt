-- The definitions.
pub mod Batches
