-- Lemmas.
pub mod Copied
pub mod Naming
pub mod Placing
pub mod Files
pub mod Fitting
pub mod Seeing
pub mod Stepping
pub mod Sound
pub mod Planned
pub mod Calling
