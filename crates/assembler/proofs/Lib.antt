-- Lemmas.
pub mod LabelMaps
pub mod Stepping
pub mod Sizes
pub mod Pieces
pub mod Profiles
pub mod Assemblies
pub mod Listings
pub mod Passes
pub mod Outcomes
pub mod LabelPlaces
pub mod StatementBytes
pub mod ByLines
pub mod Loading
pub mod Loadables
pub mod WordSizes
