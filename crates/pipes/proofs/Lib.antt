-- The lemmas.
pub mod Showing
