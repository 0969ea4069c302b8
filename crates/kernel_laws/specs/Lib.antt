pub mod Promises
pub mod Crashes
pub mod Gathering
pub mod Kept
pub mod Resuming
pub mod Agreement
pub mod Cones
pub mod ConePromises
