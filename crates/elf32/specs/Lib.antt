-- The definitions.
pub mod Files
pub mod Sound
pub mod LinkChecks
pub mod LinkedPrograms
