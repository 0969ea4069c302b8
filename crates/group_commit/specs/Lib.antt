-- The definitions.
pub mod Stages
pub mod Refusals
pub mod Plans
