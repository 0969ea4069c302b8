-- The definitions.
pub mod Room
pub mod Shared
pub mod Refusals
