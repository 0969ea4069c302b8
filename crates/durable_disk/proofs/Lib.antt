-- The lemmas.
pub mod RecordSteps
pub mod StageEnds
pub mod TellingSteps
