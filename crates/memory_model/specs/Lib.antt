pub mod Bytes
pub mod Memory
pub mod Access
pub mod Numbers
