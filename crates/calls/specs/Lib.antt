-- The definitions.
pub mod Errors
pub mod Places
pub mod Shares
pub mod Plans
pub mod Sights
