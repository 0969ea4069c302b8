-- The lemmas of more than one proof.
pub mod Fits
pub mod Rows
pub mod Spelling
