pub mod Kept
pub mod Footprints
