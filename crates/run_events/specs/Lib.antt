-- Definitions.
pub mod Records
pub mod Accepted
pub mod Telling
pub mod Observing
