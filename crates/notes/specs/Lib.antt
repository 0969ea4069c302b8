-- The definitions.
pub mod Logs
