pub mod Cases
pub mod Lists
pub mod Running
pub mod Stopping
pub mod Halting
pub mod Stepping
pub mod Words
