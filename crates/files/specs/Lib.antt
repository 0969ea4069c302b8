-- What changes find.
pub mod There
