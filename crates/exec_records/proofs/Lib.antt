-- The lemmas.
pub mod Begins
pub mod Growing
