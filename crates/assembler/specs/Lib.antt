-- The definitions, in the order in which to read them.
pub mod Faults
pub mod Labels
pub mod Layout
pub mod Assembly
pub mod Sections
pub mod Loads
