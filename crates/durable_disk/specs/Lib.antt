-- The definitions.
pub mod FileRecords
pub mod Stages
