-- The definitions.
pub mod Records
pub mod Asked
pub mod Work
pub mod CoreCalls
pub mod Committing
