-- The definitions that the contracts cite.
pub mod Fields
pub mod Operators
pub mod Table
pub mod Meaning
pub mod Text
pub mod Faults
