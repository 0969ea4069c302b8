pub mod Marks
pub mod Kept
pub mod Places
pub mod Keeps
