-- Lemmas.
pub mod Slots
pub mod Placing
pub mod Kept
pub mod Forking
pub mod Following
