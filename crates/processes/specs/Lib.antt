pub mod Parts
pub mod Table
pub mod Entries
pub mod Ended
