pub mod Orders
pub mod Moves
pub mod Privacy
pub mod Searches
pub mod Outcomes
