-- The lemmas.
pub mod CoreCalls
pub mod Turning
