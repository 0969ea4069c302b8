-- The definitions.
pub mod Embedding
pub mod Page
