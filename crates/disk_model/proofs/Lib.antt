-- The lemmas, lowest first.
pub mod Lists
pub mod Naming
pub mod Numbering
pub mod Tidy
pub mod Places
pub mod Reading
pub mod Once
pub mod Stages
pub mod Machine
pub mod Between
pub mod Rebuilding
pub mod Whole
pub mod Orderly
pub mod Cutting
