-- The definitions.
pub mod Applying
pub mod Booting
pub mod Keeping
pub mod Known
pub mod Parts
pub mod Sums
