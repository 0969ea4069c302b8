-- Lemmas.
pub mod Tables
pub mod OperandLists
pub mod Encodings
pub mod Meanings
pub mod Stepping
pub mod Registers
pub mod Expansions
pub mod Parts
