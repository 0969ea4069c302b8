-- The proofs.
pub mod Unnamed
pub mod Changes
pub mod Places
