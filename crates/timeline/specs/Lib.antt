-- The definitions.
pub mod Locations
pub mod Changes
