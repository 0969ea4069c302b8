-- Lemmas.
pub mod Accepting
pub mod KnownLoans
pub mod Applying
pub mod Draining
pub mod Parts
