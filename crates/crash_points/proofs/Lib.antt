-- The lemmas.
pub mod Alike
