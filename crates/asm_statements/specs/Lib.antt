-- The definitions, in the order in which to read them.
pub mod Names
pub mod Tokens
pub mod Statements
pub mod Expansion
