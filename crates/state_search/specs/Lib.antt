pub mod Adding
pub mod Digests
pub mod Going
pub mod Keys
pub mod Searches
pub mod Sharing
