pub mod PartFiles
pub mod Unexplored
