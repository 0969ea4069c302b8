mod Free
pub mod ByByte
