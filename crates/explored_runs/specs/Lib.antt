pub mod Answering
pub mod CallSearches
pub mod Checkpoints
pub mod Explored
pub mod RunSearches
