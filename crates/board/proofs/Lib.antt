-- Lemmas.
pub mod Publishing
