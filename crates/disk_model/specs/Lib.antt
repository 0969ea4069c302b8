-- The definitions, lowest first.
pub mod Limits
pub mod Files
pub mod Numbers
pub mod Spelling
pub mod Held
pub mod Rebuild
pub mod Storage
pub mod Crash
pub mod Runs
