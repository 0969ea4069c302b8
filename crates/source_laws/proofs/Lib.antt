pub mod Fetching
pub mod Files
