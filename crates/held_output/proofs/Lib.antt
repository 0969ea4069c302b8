-- The proofs.
pub mod Prefixes
pub mod Runs
pub mod Traces
pub mod Zipped
