pub mod Answering
pub mod Readers
pub mod Keeping
pub mod Placing
