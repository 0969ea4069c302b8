pub mod Copies
pub mod Owning
pub mod Replays
pub mod StateKeys
