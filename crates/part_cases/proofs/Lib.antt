-- The lemmas.
pub mod Profiles
