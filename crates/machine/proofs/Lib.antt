-- The lemmas.
pub mod Limits
pub mod Pages
pub mod Loaded
pub mod Readying
