-- The definitions.
pub mod Effects
pub mod Presences
pub mod Rules
