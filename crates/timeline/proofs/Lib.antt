-- The proofs.
pub mod Changing
pub mod Holding
