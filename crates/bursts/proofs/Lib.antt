-- Lemmas.
pub mod Tickets
pub mod Adding
pub mod Publishing
pub mod Sharing
