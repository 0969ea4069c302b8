-- Lemmas.
pub mod Ending
pub mod Growing
pub mod Lending
pub mod Lengthening
pub mod Stopping
