pub mod Escapes
pub mod Rows
pub mod Lanes
