pub mod Answers
pub mod Digits
pub mod Stopping
pub mod Framing
pub mod Reading
